-- Laws of an instruction's first refusal.
use mathlib.Core.Path.{◌≡◌}
use mathlib.Core.Bool.{Bool, true, false, ◌||◌}
use Prim.Native.Nat.{◌≤◌, ◌<◌}
use borrow.Author.Tests.{le-ltb, lt-ltb}
use Rattle.types.specs.declared.Fields.{Fields}
use Rattle.types.specs.declared.Limits.{Limits}
use Rattle.types.specs.declared.Refusal.TheVariants.{Foreign, UnknownKind, OffRange}
use Rattle.types.specs.Names.{taken_number, top_kind, number_of}
use Rattle.spec.specs.Words.{guest_limits, has_stray, has_high, fields_refusal}

module _ (x : Bool) (f : Fields) where
  pub judge_kind : top_kind < f.kind → number_of UnknownKind ≡ fields_refusal x f
  unfolding fields_refusal
  judge_kind h = simp (lt-ltb _ _ h)

  module _ (h : f.kind ≤ top_kind) (l : Limits) (el : l ≡ guest_limits f.kind) (s : Bool) (es : s ≡ has_stray l f) where
    pub judge_foreign : (x || s) ≡ true → number_of Foreign ≡ fields_refusal x f
    unfolding fields_refusal
    judge_foreign t = rw (le-ltb top_kind f.kind h, ← el, ← es, t)

    module _ (t : (x || s) ≡ false) (q : Bool) (eq : q ≡ has_high l f) where
      pub judge_high : q ≡ true → number_of OffRange ≡ fields_refusal x f
      unfolding fields_refusal
      judge_high g = rw (le-ltb top_kind f.kind h, ← el, ← es, t, ← eq, g)

      pub judge_good : q ≡ false → taken_number ≡ fields_refusal x f
      unfolding fields_refusal
      judge_good g = rw (le-ltb top_kind f.kind h, ← el, ← es, t, ← eq, g)
