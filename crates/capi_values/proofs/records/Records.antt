-- Reading a record from a C host's numbers, and storing it there.
use Prim.Native.Nat.{ℕ, ◌+◌, ◌≤◌, ◌<◌}
use mathlib.Core.Path.{◌≡◌, refl, sym, ◌∙◌, ap}
use mathlib.Core.List.{List, [], ◌∷◌, ◌++◌, append_assoc}
use native.Mathlib.Omega.{arith}
use borrow.Author.Tests.{lt-ltb, le-ltb}
use lib.ListN.{length, get_or, set, take, length-append, length-set}
use lib.Seq.{sets, length-sets, length-take-le, set_at}
use Rattle.types.specs.declared.Status.{Status}
use Rattle.buffers.proofs.stores.Storing.{store_front, store_all}
use Rattle.capi_spec.specs.Numbers.{statuses, status_number, trailer, record_to, status_in, numbers_after}
use Rattle.capi_spec.proofs.Numbers.{last_two}

module _ (xs regs : List ℕ) (l : length xs ≡ length regs + trailer) where
  pub front : length regs ≡ length (take (length regs) xs)
  front = sym (length-take-le (length regs) xs (omega arith))

  pub registers_of : (left : List ℕ) → left ≡ sets regs 0 (take (length regs) xs) → left ≡ take (length regs) xs
  registers_of left e = e ∙ store_all regs (take (length regs) xs) front

  pub room : (ys : List ℕ) (at : ℕ) → ys ≡ sets xs 0 regs → length regs + 1 < length (set ys (length regs) at)
  room ys at e = rw (length-set, e, length-sets) (omega arith)

  -- the registers are stored, then the two others
  stored : (at k : ℕ) → set (set (sets xs 0 regs) (length regs) at) (length regs + 1) k ≡ regs ++ at ∷ k ∷ []
  stored at k =
      let n = length regs in
      let one : sets xs 0 regs ≡ regs ++ get_or xs n 0 ∷ status_in n xs ∷ [] = store_front xs regs (omega arith) ∙ ap (λ (ys : List ℕ). regs ++ ys) (last_two n xs l) in
      let two : set (sets xs 0 regs) n at ≡ (regs ++ at ∷ []) ++ status_in n xs ∷ [] = ap (λ (ys : List ℕ). set ys n at) one ∙ set_at regs _ _ at n refl
      ∙ sym (append_assoc regs (at ∷ []) (status_in n xs ∷ [])) in
      ap (λ (ys : List ℕ). set ys (n + 1) k) two ∙ set_at (regs ++ at ∷ []) _ [] k (n + 1) (simp length-append (omega arith)) ∙ append_assoc regs (at ∷ []) (k ∷ [])

  pub is_status : (ys : List ℕ) (at k : ℕ) (t : Status) → status_in (length regs) xs < statuses → ys ≡ sets xs 0 regs → k ≡ status_number t
      → set (set ys (length regs) at) (length regs + 1) k ≡ numbers_after (length regs) xs (record_to regs at t)
  is_status ys at k t h e q = rw (lt-ltb _ _ h, e, q) (stored at (status_number t))

  pub no_status : (left : List ℕ) → statuses ≤ status_in (length regs) xs → xs ≡ numbers_after (length regs) xs left
  no_status left h = rw (le-ltb _ _ h)
