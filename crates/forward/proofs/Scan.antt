-- Laws of the check of words, one for each return.
use mathlib.Core.Path.{◌≡◌, refl, sym, ◌∙◌, ap}
use mathlib.Core.Bool.{Bool, true, false}
use mathlib.Core.List.{List}
use Prim.Native.Nat.{ℕ, ◌+◌, ◌-◌, ◌<◌, ◌≤◌}
use lib.Dec.{ltb}
use borrow.Author.Tests.{ne_eqb}
use lib.ListN.{length, get_or}
use Rattle.types.specs.declared.Answer.{Answer}
use Rattle.types.specs.declared.Instr.{Instr}
use Rattle.types.specs.declared.Instr.TheVariants.{HALT, PLAIN, LOAD, STORE, GOIF, GOX, EVENT}
use Rattle.types.specs.declared.Reject.{Reject}
use Rattle.std.specs.Prelude.{Result, IsErrAnd}
use Rattle.types.specs.Results.{reject_at, rejected, verdict_of}
use Rattle.types.proofs.Exits.{exit_rejected, refusal_counts}
use Rattle.types.specs.declared.Refusal.TheVariants.{Oversize, NotForward}
use Rattle.types.specs.Names.{taken_number, number_of, most_instructions, answer, or_else}
use Rattle.spec.specs.Words.{refusal_at, first_refused, instr_of, routine}
use Rattle.forward_spec.specs.Forward.{forward_at, forward_from, forward_answer}
use Rattle.forward_spec.proofs.Laws.{scan_more, scan_stop, scan_done, judged, words_long, words_refused, words_taken}

-- a jump is forward if its target is higher; an indirect jump never is, and any other instruction always
pub jump_at : (h a b c v : ℕ) (i : Instr) → i ≡ GOIF a b c v → ltb h v ≡ forward_at h i
unfolding forward_at
jump_at h a b c v i e = rw e

pub indirect_at : (h d a b c : ℕ) (i : Instr) → i ≡ GOX d a b c → false ≡ forward_at h i
unfolding forward_at
indirect_at h d a b c i e = rw e

pub other_at : (h : ℕ) (i : Instr) → ((a b c v : ℕ) → i ≡ GOIF a b c v → ⊥) → ((d a b c : ℕ) → i ≡ GOX d a b c → ⊥) → true ≡ forward_at h i
unfolding forward_at
other_at h HALT f g = refl
other_at h (PLAIN k d a b v) f g = refl
other_at h (LOAD d a) f g = refl
other_at h (STORE a b) f g = refl
other_at h (GOIF a b c v) f g = absurd (f a b c v refl)
other_at h (GOX d a b c) f g = absurd (g d a b c refl)
other_at h (EVENT e) f g = refl

-- ---- guest words

module _ (ws : List ℕ) (h : ℕ) where
  -- no instruction before h breaks the class, so what follows is the answer
  abbrev pub Reaches : Type 0
  Reaches = forward_from (routine ws) 0 (length ws) ≡ forward_from (routine ws) h (length ws - h)

  module _ (q : Reaches) where
    module _ (lt : h < length ws) (i : Instr) (ei : i ≡ instr_of (get_or ws h 0)) (p : Bool) (ep : p ≡ forward_at h i) where
      is_forward : p ≡ forward_at h (routine ws h)
      unfolding routine
      is_forward = ep ∙ ap (forward_at h) ei

      pub word_more : p ≡ true → forward_from (routine ws) 0 (length ws) ≡ forward_from (routine ws) (h + 1) (length ws - (h + 1))
      word_more = scan_more (routine ws) (length ws) h _ q lt p is_forward

      pub word_stop : p ≡ false → (e : Reject) → e ≡ reject_at NotForward h → rejected e ≡ forward_from (routine ws) 0 (length ws)
      word_stop f e ee = rw ee (scan_stop (routine ws) (length ws) h _ q lt p is_forward f)

    pub word_done : length ws ≤ h → answer taken_number 0 ≡ forward_from (routine ws) 0 (length ws)
    word_done = scan_done (routine ws) (length ws) h _ q

-- ---- the whole

module _ (ws : List ℕ) where
  pub oversize : most_instructions < length ws → (e : Reject) → e ≡ reject_at Oversize 0 → rejected e ≡ forward_answer ws
  oversize h e ee = rw ee (sym (words_long ws h))

  module _ (h : length ws ≤ most_instructions) where
    pub bad_word : (x : Reject) → ((z : Answer) → first_refused (refusal_at (length ws)) ws 0 z ≡ or_else (rejected x) z) → (r : Result Unit Reject) → IsErrAnd r (λ y. y ≡ x) → verdict_of r ≡ forward_answer ws
    bad_word x ex r er =
        let e : judged ws ≡ rejected x = ex (answer taken_number 0) ∙ rw (ne_eqb (number_of x.refusal) 0 (refusal_counts x.refusal)) in
        exit_rejected (λ _. 0) r x er ∙ sym (words_refused ws h (λ z. refusal_counts x.refusal (ap (λ (a : Answer). a.number) (sym e) ∙ z)) ∙ e)

    pub good_words : ((z : Answer) → first_refused (refusal_at (length ws)) ws 0 z ≡ z) → (b : Answer) → b ≡ forward_from (routine ws) 0 (length ws) → b ≡ forward_answer ws
    good_words q b eb = eb ∙ sym (words_taken ws h (ap (λ (a : Answer). a.number) (q (answer taken_number 0))))
