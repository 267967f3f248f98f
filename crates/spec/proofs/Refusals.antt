-- Laws of refusals: the first one among words, and an output after a refusal or a success.
use mathlib.Core.Path.{◌≡◌, refl, sym, subst, ◌∙◌}
use mathlib.Core.List.{List, [], ◌∷◌, ◌++◌}
use Prim.Native.Nat.{ℕ, zero, suc, ◌+◌, ◌≤◌, ◌<◌}
use native.Mathlib.Omega.{arith}
use native.Mathlib.Nat.{zero-add}
use native.Mathlib.Numerals.{add-one}
use lib.ListN.{length, get_or, take, drop, drop_of_length-le}
use lib.Seq.{drop-cons, take_at, sets, sets-eq}
use lib.Dec.{eqb}
use borrow.Author.Tests.{eq-eqb, ne_eqb, eqb-true, eqb-false}
use Rattle.types.specs.declared.Answer.{Answer}
use Rattle.types.specs.Names.{answer, or_else, output_of}
use Rattle.spec.specs.Words.{first_refused}
use Rattle.spec.proofs.Bools.{cond_ind, cond_map}

-- `judge`, which gives a word's refusal number, takes each of some words
abbrev pub TakesEach : (ℕ → ℕ) → List ℕ → Type 0
TakesEach judge ws = (j : ℕ) → j < length ws → judge (get_or ws j 0) ≡ 0

module _ (judge : ℕ → ℕ) where
  pub takes_each : (ws : List ℕ) (i : ℕ) (z : Answer) → (first_refused judge ws i z).number ≡ 0 → TakesEach judge ws
  unfolding first_refused
  takes_each [] i z e = λ j h. absurd (omega arith)
  takes_each (w ∷ ws) i z e =
      cond_ind (λ (a : Answer). a.number ≡ 0 → TakesEach judge (w ∷ ws)) (eqb (judge w) 0)
      (λ t r.
      let rest = takes_each ws (i + 1) z r in
      elim [ zero ↦ λ h. eqb-true _ _ t | suc j ↦ λ h. rest j (omega arith) ])
      (λ t r. absurd (eqb-false _ _ t r)) e

  pub none_refused : (ws : List ℕ) (i : ℕ) (z : Answer) → TakesEach judge ws → first_refused judge ws i z ≡ z
  unfolding first_refused
  none_refused [] i z all = refl
  none_refused (w ∷ ws) i z all = rw (eq-eqb _ _ (all 0 (omega arith))) (none_refused ws (i + 1) z (λ j l. all (suc j) (omega arith)))

  -- if all words are taken, the answer is the one that follows them
  pub taken_then : (P : Answer → Type 0) (ws : List ℕ) (i : ℕ) (z : Answer) → (z.number ≡ 0 → P z) → (first_refused judge ws i z).number ≡ 0 → P (first_refused judge ws i z)
  taken_then P ws i z f e = subst (λ (a : Answer). a.number ≡ 0 → P a) (sym (none_refused ws i z (takes_each ws i z e))) f e

  -- a function that changes no refusal can be applied to the answer that follows the words
  pub refused_map : (f : Answer → Answer) → ((x p : ℕ) → (x ≡ 0 → ⊥) → f (answer x p) ≡ answer x p)
      → (ws : List ℕ) (i : ℕ) (z : Answer) → f (first_refused judge ws i z) ≡ first_refused judge ws i (f z)
  unfolding first_refused
  refused_map f k [] i z = refl
  refused_map f k (w ∷ ws) i z = cond_map f (eqb (judge w) 0) (λ _. refused_map f k ws (i + 1) z) (λ t. k (judge w) i (eqb-false _ _ t))

  -- the words in order
  module _ (ws : List ℕ) (i : ℕ) (z a : Answer) (ea : a ≡ first_refused judge (drop i ws) i z) where
    module _ (h : i < length ws) (x w : ℕ) (ex : x ≡ judge w) (ew : w ≡ get_or ws i 0) where
      pub refused_more : x ≡ 0 → a ≡ first_refused judge (drop (i + 1) ws) (i + 1) z
      unfolding first_refused
      refused_more e = ea ∙ rw (drop-cons ws i 0 h, ← ew, ← ex, eq-eqb x 0 e, add-one)

      pub refused_stop : (x ≡ 0 → ⊥) → answer x i ≡ a
      unfolding first_refused
      refused_stop e = sym (ea ∙ rw (drop-cons ws i 0 h, ← ew, ← ex, ne_eqb x 0 e))

    pub refused_done : length ws ≤ i → z ≡ a
    unfolding first_refused
    refused_done h = sym (ea ∙ rw (drop_of_length-le ws h))

-- ---- of two answers, the first if it is a refusal
pub else_next : (a b : Answer) → a.number ≡ 0 → or_else a b ≡ b
else_next a b e = rw (eq-eqb _ _ e)

pub else_kept : (a b : Answer) → (a.number ≡ 0 → ⊥) → or_else a b ≡ a
else_kept a b h = rw (ne_eqb _ _ h)

-- if neither is a refusal
pub else_none : (a b : Answer) → (or_else a b).number ≡ 0 → (a.number ≡ 0) × (b.number ≡ 0)
else_none a b =
    cond_ind (λ (x : Answer). x.number ≡ 0 → (a.number ≡ 0) × (b.number ≡ 0)) (eqb a.number 0)
    (λ t e. (eqb-true _ _ t, e)) (λ t e. absurd (eqb-false _ _ t e))

-- ---- an output

-- stored from the start
pub store_front : (out t : List ℕ) → length t ≤ length out → sets out 0 t ≡ t ++ drop (length t) out
store_front out t h = sets-eq t out 0 (rw zero-add h) ∙ rw zero-add

module _ (a : Answer) (xs out : List ℕ) where
  pub output_kept : (a.number ≡ 0 → ⊥) → out ≡ output_of a xs out
  output_kept n = rw (ne_eqb _ _ n)

  module _ (z : a.number ≡ 0) where
    pub output_is : output_of a xs out ≡ xs ++ drop (length xs) out
    output_is = rw (eq-eqb _ _ z)

    pub output_written : length xs ≤ length out → sets out 0 xs ≡ output_of a xs out
    output_written h = store_front out xs h ∙ sym output_is

    pub output_start : (n : ℕ) → length xs ≡ n → take n (output_of a xs out) ≡ xs
    output_start n l = rw output_is (take_at xs (drop (length xs) out) n l)
