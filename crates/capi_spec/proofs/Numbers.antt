-- What a C host's numbers mean.
use Prim.Native.Nat.{ℕ, zero, suc, ◌+◌, ◌≤◌, ◌<◌}
use mathlib.Core.Path.{◌≡◌, refl, sym, ◌∙◌, ap}
use mathlib.Core.Bool.{Bool, true, cond}
use mathlib.Core.List.{List, [], ◌∷◌}
use native.Mathlib.Numerals.{add-one}
use native.Mathlib.Omega.{arith}
use borrow.Author.Tests.{ltb-true}
use lib.Dec.{ltb}
use lib.ListN.{length, get_or, take, drop, take-append-drop, length-drop}
use lib.Seq.{drop-cons, take_all, take_at, get_or_at, get_or-append-add}
use Rattle.types.specs.declared.Status.{Status}
use Rattle.types.specs.declared.Status.TheVariants.{Running, Ended, Stopped, Faulted, Strayed}
use Rattle.spec.proofs.Bools.{cond_ind}
use Rattle.capi_spec.specs.Numbers.{numbers_from, statuses, status_from, status_number, trailer, record_to, status_in, record_from, status_known, numbers_after}
use Rattle.capi_spec.specs.Hosts.{HostResult, host_result, host_after}
use Rattle.capi_spec.specs.Claims.{RoundTrips}

-- ---- arrays

pub spelt : (n i : ℕ) (xs : List ℕ) → i + n ≤ length xs → take n (drop i xs) ≡ numbers_from n i xs
spelt zero i xs h = refl
spelt (suc n) i xs h = ap (take (suc n)) (drop-cons xs i 0 (omega arith)) ∙ ap (λ (r : List ℕ). get_or xs i 0 ∷ r) (spelt n (suc i) xs (omega arith))

-- ---- statuses

status_back : (x : ℕ) → x < statuses → status_number (status_from x) ≡ x
status_back zero h = refl
status_back (suc zero) h = refl
status_back (suc (suc zero)) h = refl
status_back (suc (suc (suc zero))) h = refl
status_back (suc (suc (suc (suc zero)))) h = refl
status_back (suc (suc (suc (suc (suc x))))) h = omega arith

status_again : (t : Status) → status_from (status_number t) ≡ t
status_again Running = refl
status_again Ended = refl
status_again Stopped = refl
status_again Faulted = refl
status_again Strayed = refl

number_known : (t : Status) → ltb (status_number t) statuses ≡ true
number_known Running = refl
number_known Ended = refl
number_known Stopped = refl
number_known Faulted = refl
number_known Strayed = refl

-- ---- records of n registers

pub last_two : (n : ℕ) (xs : List ℕ) → length xs ≡ n + trailer → drop n xs ≡ get_or xs n 0 ∷ status_in n xs ∷ []
last_two n xs l = sym (take_all trailer (drop n xs) (simp length-drop (omega arith))) ∙ spelt trailer n xs (omega arith) ∙ rw add-one

-- for a record with n registers
module _ (n : ℕ) (xs regs : List ℕ) where
  pub record_read : {R : Type 0} (make : List ℕ → ℕ → Status → R) (t : Status) → regs ≡ take n xs → t ≡ status_from (status_in n xs) → make regs (get_or xs n 0) t ≡ record_from make n xs
  record_read make t e q = λ i. make (e i) (get_or xs n 0) (q i)

  pub record_left : (left : List ℕ) (at : ℕ) (t : Status) → length regs ≡ n → left ≡ numbers_after (length regs) xs (record_to regs at t) → left ≡ numbers_after n xs (record_to regs at t)
  record_left left at t h e = e ∙ ap (λ (k : ℕ). numbers_after k xs (record_to regs at t)) h

module _ (n : ℕ) (xs : List ℕ) where
  -- numbers with a valid status become a record and the same numbers again
  numbers_back : length xs ≡ n + trailer → status_known n xs ≡ true → record_from record_to n xs ≡ xs
  numbers_back l h = rw (status_back _ (ltb-true _ _ h), ← last_two n xs l) (take-append-drop n xs)

  -- so a run that leaves the record as it was leaves its numbers
  pub untouched : length xs ≡ n + trailer → numbers_after n xs (record_from record_to n xs) ≡ xs
  untouched l = cond_ind (λ (ys : List ℕ). ys ≡ xs) (status_known n xs) (λ h. numbers_back l h) (λ _. refl)

-- a record's numbers have its parts, and a valid status
module _ (n : ℕ) (regs : List ℕ) (at : ℕ) (t : Status) (h : length regs ≡ n) where
  number_again : status_in n (record_to regs at t) ≡ status_number t
  number_again = rw (← h) (get_or-append-add regs (at ∷ status_number t ∷ []) 1 0)

  record_again : {R : Type 0} (make : List ℕ → ℕ → Status → R) → record_from make n (record_to regs at t) ≡ make regs at t
  record_again make =
      let rest : List ℕ = status_number t ∷ [] in
      λ i. make (take_at regs (at ∷ rest) n h i) (get_or_at regs at rest 0 n h i) ((ap status_from number_again ∙ status_again t) i)

  known : status_known n (record_to regs at t) ≡ true
  known = ap (λ (x : ℕ). ltb x statuses) number_again ∙ number_known t

-- so a record that is rebuilt from its parts comes back
module _ {R : Type 0} (n : ℕ) (make : List ℕ → ℕ → Status → R) (regs : R → List ℕ) (at : R → ℕ) (status : R → Status) where
  abbrev to : R → List ℕ
  to m = record_to (regs m) (at m) (status m)

  pub comes_back : ((m : R) → make (regs m) (at m) (status m) ≡ m) → ((rs : List ℕ) (k : ℕ) (t : Status) → to (make rs k t) ≡ record_to rs k t) → RoundTrips n regs (record_from make n) to
  comes_back again parts =
      record {
        from_numbers = λ xs l h. parts _ _ _ ∙ numbers_back n xs l h;
        from_record = λ m h. record_again n (regs m) (at m) (status m) h make ∙ again m;
        known = λ m h. known n (regs m) (at m) (status m) h;
        untouched = λ xs left l e. ap (λ (m : R). numbers_after n xs (to m)) e ∙ ap (numbers_after n xs) (parts _ _ _) ∙ untouched n xs l;
      }

-- and a call with a record's numbers leaves what a run of the record leaves
pub called : {R : Type 0} {n : ℕ} {regs : R → List ℕ} {from : List ℕ → R} {to : R → List ℕ} → RoundTrips n regs from to → (run : R → HostResult) (m : R)
    → length (regs m) ≡ n → host_after n (to m) (run (from (to m))) ≡ run m
called {R} {n} {regs} {from} {to} b run m h =
    let r = run (from (to m)) in
    ap (λ (t : Bool). host_result r.answer (cond t r.after (to m)) r.memory r.log) (b.known m h) ∙ ap run (b.from_record m h)
