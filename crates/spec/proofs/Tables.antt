-- Proves facts about each kind by computing a table of all kinds; also what holds where no arm of a match applies.
use Prim.Native.Nat.{ℕ, zero, suc, ◌+◌, ◌≤◌, ◌<◌}
use mathlib.Core.Path.{◌≡◌, refl, sym, subst}
use mathlib.Core.Bool.{Bool, true, false, ◌&&◌}
use native.Mathlib.Omega.{arith}
use borrow.Author.Tests.{eqb-true, eqb-false, leb-true}
use lib.Dec.{eqb, leb}
use Rattle.spec.proofs.Bools.{both}

-- a test that all numbers below n pass, computed once, gives it for each of them
unfoldable pub all : (ℕ → Bool) → ℕ → Bool
all p zero = true
all p (suc n) = p n && all p n

pub each : (p : ℕ → Bool) (k n : ℕ) → all p n ≡ true → k < n → p k ≡ true
unfolding all
each p k zero h l = absurd (omega arith)
each p k (suc n) h l =
    go (eqb k n) refl (both (p n) (all p n) h).0 (λ i. each p k n (both (p n) (all p n) h).1 i)
  where
    go : (t : Bool) → eqb k n ≡ t → p n ≡ true → (k < n → p k ≡ true) → p k ≡ true
    go true e a b = subst (λ (j : ℕ). p j ≡ true) (sym (eqb-true k n e)) a
    go false e a b = let d = eqb-false k n e in b (omega (arith, d))

-- if p is at most q at all numbers below n, a value within p is within q
pub raised : (p q : ℕ → ℕ) (n : ℕ) → all (λ k. leb (p k) (q k)) n ≡ true → (k x : ℕ) → k < n → x ≤ p k → x ≤ q k
raised p q n e k x l h = let t : p k ≤ q k = leb-true _ _ (each (λ k. leb (p k) (q k)) k n e l) in omega arith

-- what the `_` arm of a match knows: k is none of the n keys from s on
abbrev pub Avoids : Type 0 → ℕ → ℕ → ℕ → Type 0
Avoids X k s zero = X
Avoids X k s (suc n) = Avoids X k s n × (k ≡ s + n → ⊥)

pub past : (X : Type 0) (k s n : ℕ) → s ≤ k → Avoids X k s n → s + n ≤ k
past X k s zero h r = omega arith
past X k s (suc n) h r = let i : s + n ≤ k = past X k s n h r.0 in let j : (k ≡ s + n) → ⊥ = r.1 in omega arith
