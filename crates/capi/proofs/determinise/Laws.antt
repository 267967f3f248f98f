-- What making a policy from a drawing answers and leaves, as a C host's numbers.
use Prim.Native.Nat.{ℕ, ◌^◌, ◌<◌, ◌≤◌}
use mathlib.Core.Path.{◌≡◌, refl, sym, ◌∙◌, ap, subst}
use mathlib.Core.Bool.{Bool, true, false}
use mathlib.Core.List.{List}
use native.Mathlib.Omega.{arith}
use lib.Dec.{ltb}
use lib.ListN.{length}
use lib.Pow.{pow_mono}
use borrow.Author.Tests.{ltb-false, lt-ltb, le-ltb}
use Rattle.types.specs.Names.{most_states}
use Rattle.policy_spec.specs.reachability.Reach.{Made}
use Rattle.policy_spec.proofs.reachability.Reach.{place_most}
use Rattle.policy_determinise.specs.Drawings.{drawing_of, set_after, drawing_right, determinise_of, determinise_table}
use Rattle.policy_determinise.proofs.Runs.{fit_of}
use Rattle.capi.specs.determinise.Numbers.{starts_from, policy_to}

pub starts_held : (q : ℕ) → q < 65536 → q ≡ starts_from q
unfolding starts_from
starts_held q h = rw (lt-ltb q (2 ^ most_states) h)

pub starts_none : (q : ℕ) → 65536 ≤ q → 0 ≡ starts_from q
unfolding starts_from
starts_none q h = rw (le-ltb q (2 ^ most_states) h)

-- a start set with a bit above 15 is refused, and so is the empty set
wide : (s q : ℕ) (ms : List ℕ) → 2 ^ most_states ≤ q → drawing_right (drawing_of s q ms) ≡ false
wide s q ms h = go (drawing_right (drawing_of s q ms)) refl
  where
    go : (b : Bool) → drawing_right (drawing_of s q ms) ≡ b → drawing_right (drawing_of s q ms) ≡ false
    go false e = e
    go true e = let f = fit_of (drawing_of s q ms) e in absurd (omega (arith, f.starts_below, pow_mono {i = s} {j = most_states} f.few_states))

none : (s : ℕ) (ms : List ℕ) → drawing_right (drawing_of s 0 ms) ≡ false
none s ms = go (drawing_right (drawing_of s 0 ms)) refl
  where
    go : (b : Bool) → drawing_right (drawing_of s 0 ms) ≡ b → drawing_right (drawing_of s 0 ms) ≡ false
    go false e = e
    go true e = absurd ((fit_of (drawing_of s 0 ms) e).starts_some refl)

-- the place has 32 bits
pub narrow : (s q : ℕ) (ms : List ℕ) (room : ℕ) (m : Made) → m ≡ determinise_of (drawing_of s q ms) room → m.answer.place < 2 ^ 32
unfolding determinise_of
narrow s q ms room m e = subst (λ (x : Made). x.answer.place < 2 ^ 32) (sym e) (go (drawing_right (drawing_of s q ms)) refl)
  where
    go : (b : Bool) → drawing_right (drawing_of s q ms) ≡ b → (determinise_of (drawing_of s q ms) room).answer.place < 2 ^ 32
    go false f = rw f (omega arith)
    go true f = rw f (omega (arith, place_most (set_after (drawing_of s q ms)) q room))

-- the result is that for the starts as the host gave them
module _ (s q r : ℕ) (ms table : List ℕ) (e : r ≡ starts_from q) where
  abbrev SameObservations : Type 0
  SameObservations = (determinise_of (drawing_of s r ms) (length table) ≡ determinise_of (drawing_of s q ms) (length table))
      × (determinise_table (drawing_of s r ms) table ≡ determinise_table (drawing_of s q ms) table)

  same : SameObservations
  unfolding starts_from determinise_of determinise_table
  same = go (ltb q (2 ^ most_states)) refl
    where
      go : (b : Bool) → ltb q (2 ^ most_states) ≡ b → SameObservations
      go true f = rw (e, f) (refl, refl)
      go false f = rw (e, f, none s ms, wide s q ms (ltb-false q (2 ^ most_states) f)) (refl, refl)

  pub determinised : (left ns : List ℕ) (m : Made) → m ≡ determinise_of (drawing_of s r ms) (length table) → left ≡ determinise_table (drawing_of s r ms) table → ns ≡ policy_to m
      → (ns ≡ policy_to (determinise_of (drawing_of s q ms) (length table))) × (left ≡ determinise_table (drawing_of s q ms) table)
  determinised left ns m p l n = (n ∙ ap policy_to (p ∙ same.0), l ∙ same.1)
