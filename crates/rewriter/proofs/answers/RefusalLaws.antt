-- Laws of what rewriting answers.
use mathlib.Core.Path.{◌≡◌, sym, ◌∙◌}
use mathlib.Core.Bool.{Bool, true, false}
use mathlib.Core.List.{List}
use Prim.Native.Nat.{ℕ, ◌*◌, ◌≤◌, ◌<◌, ◌^◌}
use native.Mathlib.Omega.{arith}
use lib.ListN.{length}
use borrow.Author.Tests.{lt-ltb, le-ltb, ne_eqb}
use Rattle.types.specs.declared.Layout.{Layout}
use Rattle.types.specs.declared.Answer.{Answer}
use Rattle.types.specs.declared.Refusal.TheVariants.{BadBase, BadLayout, Oversize, SmallOutput}
use Rattle.std.specs.Prelude.{Result, IsErrAnd}
use Rattle.types.specs.declared.Reject.{Reject}
use Rattle.types.specs.Names.{taken_number, number_of, most_instructions, bundle_length, answer, or_else}
use Rattle.types.specs.Results.{reject_at, rejected, answer_of}
use Rattle.types.proofs.Exits.{exit_rejected, refusal_counts}
use Rattle.spec.specs.Layouts.{right_layout}
use Rattle.spec.specs.Words.{refusal_at, first_refused, bundles_for}
use Rattle.spec.specs.Bundles.{base_right, base_room_answer, rewrite_answer}
use Rattle.spec.proofs.Masks.{sizes}

-- ---- the base and the room

module _ (n k : ℕ) (ek : k ≡ bundles_for n) where
  pub length_fits : n ≤ most_instructions → bundle_length * k < 2 ^ 64
  length_fits h = omega (arith, ek, (sizes n h).most)

  module _ (l : Layout) (room : ℕ) (b : Bool) (eb : b ≡ base_right l k) where
    pub place_base : b ≡ false → (x : Reject) → x ≡ reject_at BadBase 0 → rejected x ≡ base_room_answer l n room
    unfolding base_room_answer
    place_base e x ex = rw (ex, ← ek, ← eb, e)

    pub place_small : b ≡ true → room < bundle_length * k → (x : Reject) → x ≡ reject_at SmallOutput 0 → rejected x ≡ base_room_answer l n room
    unfolding base_room_answer
    place_small e g x ex = rw (ex, ← ek, ← eb, e, lt-ltb room (bundle_length * k) g)

    pub place_taken : b ≡ true → bundle_length * k ≤ room → answer taken_number (bundle_length * k) ≡ base_room_answer l n room
    unfolding base_room_answer
    place_taken e g = rw (← ek, ← eb, e, le-ltb room (bundle_length * k) g)

-- ---- the whole answer

module _ (l : Layout) (ws : List ℕ) (room : ℕ) (t : Bool) (et : t ≡ right_layout l) where
  pub bad_layout : t ≡ false → (x : Reject) → x ≡ reject_at BadLayout 0 → rejected x ≡ rewrite_answer l ws room
  unfolding rewrite_answer
  bad_layout e x ex = rw (ex, ← et, e)

  module _ (e : t ≡ true) where
    pub oversize : most_instructions < length ws → (x : Reject) → x ≡ reject_at Oversize 0 → rejected x ≡ rewrite_answer l ws room
    unfolding rewrite_answer
    oversize h x ex = rw (ex, ← et, e, lt-ltb most_instructions (length ws) h)

    module _ (h : length ws ≤ most_instructions) where
      decided : (a : Answer) → ((z : Answer) → first_refused (refusal_at (length ws)) ws 0 z ≡ or_else a z) → rewrite_answer l ws room ≡ or_else a (base_room_answer l (length ws) room)
      unfolding rewrite_answer
      decided a ea = rw (← et, e, le-ltb most_instructions (length ws) h) (ea (base_room_answer l (length ws) room))

      pub bad_word : (x : Reject) → ((z : Answer) → first_refused (refusal_at (length ws)) ws 0 z ≡ or_else (rejected x) z) → (r : Result ℕ Reject) → IsErrAnd r (λ y. y ≡ x) → answer_of r ≡ rewrite_answer l ws room
      bad_word x ex r er = exit_rejected (λ n. n) r x er ∙ sym (decided (rejected x) ex ∙ rw (ne_eqb (number_of x.refusal) 0 (refusal_counts x.refusal)))

      pub good_words : ((z : Answer) → first_refused (refusal_at (length ws)) ws 0 z ≡ z) → (a : Answer) → a ≡ base_room_answer l (length ws) room → a ≡ rewrite_answer l ws room
      unfolding rewrite_answer
      good_words q a ea = ea ∙ rw (← et, e, le-ltb most_instructions (length ws) h) (sym (q (base_room_answer l (length ws) room)))
