-- Laws of the output of rewriting.
use mathlib.Core.Path.{◌≡◌, refl, sym, ap}
use mathlib.Core.List.{List, [], ◌∷◌}
use Prim.Native.Nat.{ℕ, ◌+◌, ◌*◌, ◌≤◌}
use native.Mathlib.Omega.{arith}
use native.Mathlib.Numerals.{towards_suc}
use lib.ListN.{length, get_or, set, get_or-eq_default}
use lib.Seq.{sets, length-sets}
use Rattle.types.specs.declared.Layout.{Layout}
use Rattle.types.specs.declared.Instr.{Instr}
use Rattle.types.specs.declared.Instr.TheVariants.{HALT}
use Rattle.types.specs.Names.{bundle_length}
use Rattle.spec.specs.Words.{instr_of, routine}
use Rattle.words.specs.Packing.{Packable}
use Rattle.rewriter.specs.Rewriting.{BundlesFit}

-- ---- one instruction and its words

module _ (ws : List ℕ) (h : ℕ) where
  pub routine_in : (i : Instr) → i ≡ instr_of (get_or ws h 0) → i ≡ routine ws h
  unfolding routine
  routine_in i e = e

  pub routine_past : length ws ≤ h → HALT ≡ routine ws h
  unfolding routine instr_of
  routine_past g = rw (get_or-eq_default ws 0 g)

  pub fits : (l : Layout) (n room : ℕ) → BundlesFit l n ws room → (i : Instr) → i ≡ routine ws h → Packable l n i
  fits l n room r i e = record { some = r.some; most = r.most; top = r.top; valid = rw e (r.each h) }

four_words : (ws : List ℕ) → length ws ≡ bundle_length → ws ≡ get_or ws 0 0 ∷ get_or ws 1 0 ∷ get_or ws 2 0 ∷ get_or ws 3 0 ∷ []
four_words (w ∷ x ∷ y ∷ z ∷ []) e = refl
four_words [] e = absurd (omega (arith, e))
four_words (w ∷ []) e = absurd (omega (arith, e))
four_words (w ∷ x ∷ []) e = absurd (omega (arith, e))
four_words (w ∷ x ∷ y ∷ []) e = absurd (omega (arith, e))
four_words (w ∷ x ∷ y ∷ z ∷ v ∷ vs) e = absurd (omega (arith, e))

-- a bundle's words, set one by one
pub put_four : (out ws : List ℕ) (at : ℕ) → length ws ≡ bundle_length → set (set (set (set out at (get_or ws 0 0)) (at + 1) (get_or ws 1 0)) (at + 2) (get_or ws 2 0)) (at + 3) (get_or ws 3 0) ≡ sets out at ws
put_four out ws at e = simp towards_suc (ap (sets out at) (sym (four_words ws e)))

-- ---- one bundle

pub ready_room : (l : Layout) (n room room' : ℕ) (ws : List ℕ) → BundlesFit l n ws room → room' ≡ room → bundle_length * n ≤ room'
ready_room l n room room' ws r e = rw e r.fit

pub length_put : (out out' : List ℕ) (at : ℕ) (xs : List ℕ) → out' ≡ sets out at xs → length out' ≡ length out
length_put out out' at xs e = rw e (length-sets out at xs)
