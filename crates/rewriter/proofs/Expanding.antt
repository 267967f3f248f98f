-- Laws of replacing the words at the start of a list by their bundles, from the last to the first.
use mathlib.Core.Path.{◌≡◌, refl, sym, ap, ◌∙◌}
use mathlib.Core.Logic.{⊎_elim}
use mathlib.Core.List.{List, [], ◌∷◌}
use Prim.Native.Nat.{ℕ, suc, ◌-◌, ◌*◌, ◌≤◌, ◌<◌}
use native.Mathlib.Omega.{arith}
use native.Mathlib.Nat.{sub-zero}
use lib.Dec.{ltb}
use lib.ListN.{length, get_or, set, take, length-take, get_or-eq_default}
use lib.Seq.{sets, set_comm, get_or-set_other, get_or-take}
use borrow.Author.Tests.{ltb-true, ltb-false}
use Rattle.types.specs.declared.Layout.{Layout}
use Rattle.types.specs.declared.Instr.{Instr}
use Rattle.types.specs.Names.{bundle_length}
use Rattle.spec.specs.Words.{instr_of, routine}
use Rattle.spec.specs.Bundles.{bundle_of, bundles_from}
use Rattle.spec.proofs.Bools.{cases}
use Rattle.words.specs.Packing.{Packable}
use Rattle.rewriter.specs.Rewriting.{BundlesFit}
use Rattle.rewriter.proofs.Filling.{fits}

-- ---- a store at higher indices keeps the lower ones

set_below : (l : List ℕ) (m j v : ℕ) (xs : List ℕ) → j < m → set (sets l m xs) j v ≡ sets (set l j v) m xs
set_below l m j v [] h = refl
set_below l m j v (x ∷ xs) h =
    set_below (set l m x) (suc m) j v xs (omega arith) ∙ ap (λ (l : List ℕ). sets l (suc m) xs) (set_comm l m j x v (λ (z : m ≡ j). omega arith))

four_below : (l : List ℕ) (j a b c d : ℕ) (xs : List ℕ) → sets (sets l (suc (suc (suc (suc j)))) xs) j (a ∷ b ∷ c ∷ d ∷ []) ≡ sets l j (a ∷ b ∷ c ∷ d ∷ xs)
four_below l j a b c d xs =
    let m : ℕ = suc (suc (suc (suc j))) in
    rw (
      set_below l m j a xs (omega arith),
      set_below (set l j a) m (suc j) b xs (omega arith),
      set_below (set (set l j a) (suc j) b) m (suc (suc j)) c xs (omega arith),
      set_below (set (set (set l j a) (suc j) b) (suc (suc j)) c) m (suc (suc (suc j))) d xs (omega arith),
    )

get_below : (l : List ℕ) (m j : ℕ) (xs : List ℕ) → j < m → get_or (sets l m xs) j 0 ≡ get_or l j 0
get_below l m j [] h = refl
get_below l m j (x ∷ xs) h = get_below (set l m x) (suc m) j xs (omega arith) ∙ get_or-set_other l m j x 0 (λ (z : j ≡ m). omega arith)

past_end : {k j : ℕ} (l : List ℕ) → k ≤ j → get_or (take k l) j 0 ≡ 0
past_end {k} {j} l g = let few : length (take k l) ≤ j = omega (arith, length-take k l) in get_or-eq_default (take k l) 0 few

routine_below : (k : ℕ) (l : List ℕ) (m j : ℕ) (xs : List ℕ) → j < m → routine (take k (sets l m xs)) j ≡ routine (take k l) j
unfolding routine
routine_below k l m j xs h =
    ⊎_elim
    (λ t. let g = ltb-true j k t in rw (get_or-take k (sets l m xs) j 0 g, get_or-take k l j 0 g, get_below l m j xs h))
    (λ t. let g = ltb-false j k t in ap instr_of (past_end (sets l m xs) g ∙ sym (past_end l g)))
    (cases (ltb j k))

-- ---- the bundles, from the last to the first

module _ (l : Layout) (n k : ℕ) (out₀ : List ℕ) where
  abbrev is : ℕ → Instr
  is = routine (take k out₀)

  -- invariant: the bundles from h on are written
  abbrev Expanded : ℕ → List ℕ → Type 0
  Expanded h out = out ≡ sets out₀ (bundle_length * h) (bundles_from l n is h (n - h))

  pub expand_start : Expanded n out₀
  expand_start = let none : n - n ≡ 0 = omega arith in rw none

  pub expand_done : (h : ℕ) (out : List ℕ) → Expanded h out → h ≤ 0 → out ≡ sets out₀ 0 (bundles_from l n is 0 n)
  expand_done h out e z = let none : h ≡ 0 = omega arith in e ∙ rw (none, sub-zero)

  module _ (h : ℕ) (out : List ℕ) (e : Expanded h out) (p : 0 < h) (i : Instr) (ei : i ≡ routine (take k out) (h - 1)) where
    instr_is : i ≡ is (h - 1)
    instr_is = ei ∙ rw e (routine_below k out₀ (bundle_length * h) (h - 1) (bundles_from l n is h (n - h)) (omega arith))

    pub expand_packable : (room : ℕ) → BundlesFit l n (take k out₀) room → Packable l n i
    expand_packable room r = fits (take k out₀) (h - 1) l n room r i instr_is

    pub expand_more : h ≤ n → (out' : List ℕ) → out' ≡ sets out (bundle_length * (h - 1)) (bundle_of l n i).words → Expanded (h - 1) out'
    expand_more q out' eo =
        let g : ℕ = h - 1 in
        let up : h ≡ suc g = omega arith in
        let left : n - g ≡ suc (n - h) = omega arith in
        let next : bundle_length * h ≡ suc (suc (suc (suc (bundle_length * g)))) = omega arith in
        let now : out' ≡ sets (sets out₀ (suc (suc (suc (suc (bundle_length * g))))) (bundles_from l n is h (n - h))) (bundle_length * g) (bundle_of l n (is g)).words = eo ∙ rw (e, instr_is, next) in
        now ∙ four_below out₀ (bundle_length * g) _ _ _ _ (bundles_from l n is h (n - h)) ∙ rw (left, ← up)
