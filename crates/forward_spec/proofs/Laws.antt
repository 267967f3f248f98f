-- Laws of the two checks: which refusal comes first, and the lowest place.
use mathlib.Core.Path.{◌≡◌, sym, ◌∙◌, ap}
use mathlib.Core.Bool.{Bool, true, false, cond}
use mathlib.Core.List.{List}
use Prim.Native.Nat.{ℕ, suc, ◌+◌, ◌-◌, ◌/◌, ◌<◌, ◌≤◌}
use native.Mathlib.Omega.{arith}
use borrow.Author.Tests.{lt-ltb, le-ltb}
use lib.ListN.{length}
use Rattle.types.specs.declared.Layout.{Layout}
use Rattle.types.specs.declared.Answer.{Answer}
use Rattle.types.specs.declared.Instr.{Instr}
use Rattle.types.specs.declared.Refusal.TheVariants.{Oversize, NotForward}
use Rattle.types.specs.Names.{taken_number, most_instructions, bundle_length, answer, refusal}
use Rattle.spec.specs.Words.{refusal_at, first_refused, routine}
use Rattle.spec.specs.Bundles.{bundle_at, check_answer}
use Rattle.spec.proofs.Refusals.{else_next, else_kept}
use Rattle.forward_spec.specs.Forward.{forward_at, forward_from, forward_answer, check_forward_answer}

-- ---- instructions in order: the first that is not forward is answered
module _ (is : ℕ → Instr) (h m : ℕ) where
  pub breaks_here : forward_at h (is h) ≡ false → forward_from is h (suc m) ≡ refusal NotForward h
  unfolding forward_from
  breaks_here e = ap (λ (t : Bool). cond t (forward_from is (h + 1) m) (refusal NotForward h)) e

  pub goes_past : forward_at h (is h) ≡ true → forward_from is h (suc m) ≡ forward_from is (h + 1) m
  unfolding forward_from
  goes_past e = ap (λ (t : Bool). cond t (forward_from is (h + 1) m) (refusal NotForward h)) e

-- ---- a loop over n instructions, now at instruction h
module _ (is : ℕ → Instr) (n h : ℕ) (a : Answer) (ea : a ≡ forward_from is h (n - h)) where
  module _ (lt : h < n) (p : Bool) (ep : p ≡ forward_at h (is h)) where
    left : n - h ≡ suc (n - (h + 1))
    left = omega arith

    pub scan_more : p ≡ true → a ≡ forward_from is (h + 1) (n - (h + 1))
    scan_more e = ea ∙ ap (forward_from is h) left ∙ goes_past is h _ (sym ep ∙ e)

    pub scan_stop : p ≡ false → refusal NotForward h ≡ a
    scan_stop e = sym (ea ∙ ap (forward_from is h) left ∙ breaks_here is h _ (sym ep ∙ e))

  pub scan_done : n ≤ h → answer taken_number 0 ≡ a
  unfolding forward_from
  scan_done l = let none : n - h ≡ 0 = omega arith in sym (ea ∙ rw none)

-- ---- guest words: oversize (5), the words' own refusals, not forward (18)
module _ (ws : List ℕ) where
  abbrev pub judged : Answer
  judged = first_refused (refusal_at (length ws)) ws 0 (answer taken_number 0)

  pub words_long : most_instructions < length ws → forward_answer ws ≡ refusal Oversize 0
  unfolding forward_answer
  words_long l = rw (lt-ltb most_instructions (length ws) l)

  module _ (l : length ws ≤ most_instructions) where
    pub words_refused : (judged.number ≡ 0 → ⊥) → forward_answer ws ≡ judged
    unfolding forward_answer
    words_refused f = rw (le-ltb most_instructions (length ws) l) (else_kept judged _ f)

    pub words_taken : judged.number ≡ 0 → forward_answer ws ≡ forward_from (routine ws) 0 (length ws)
    unfolding forward_answer
    words_taken z = rw (le-ltb most_instructions (length ws) l) (else_next judged _ z)

-- ---- command lists: the checker's refusals, not forward (18)
module _ (lay : Layout) (ws : List ℕ) where
  pub list_refused : ((check_answer lay ws).number ≡ 0 → ⊥) → check_forward_answer lay ws ≡ check_answer lay ws
  unfolding check_forward_answer
  list_refused f = else_kept (check_answer lay ws) _ f

  pub list_passed : (check_answer lay ws).number ≡ 0 → check_forward_answer lay ws ≡ forward_from (bundle_at lay ws) 0 (length ws / bundle_length)
  unfolding check_forward_answer
  list_passed z = else_next (check_answer lay ws) _ z
