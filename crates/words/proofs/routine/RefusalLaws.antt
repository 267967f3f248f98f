-- Laws of a guest word's first refusal among n words.
use mathlib.Core.Path.{◌≡◌, refl, sym, ◌∙◌}
use mathlib.Core.List.{List}
use lib.ListN.{length, get_or, drop}
use mathlib.Core.Bool.{Bool, true, false, ◌&&◌, not}
use Prim.Native.Nat.{ℕ, ◌+◌, ◌<◌, ◌≤◌}
use lib.Dec.{ltb, eqb}
use borrow.Author.Tests.{eq-eqb, ne_eqb, not-true}
use Rattle.types.specs.declared.Refusal.TheVariants.{BadLanding}
use Rattle.types.specs.declared.Refusal.{Refusal}
use Rattle.types.specs.declared.Answer.{Answer}
use Rattle.types.specs.declared.Reject.{Reject}
use Rattle.types.specs.Names.{taken_number, guest, number_of, or_else}
use Rattle.types.specs.Results.{reject_at, rejected}
use Rattle.types.proofs.Exits.{refusal_counts}
use Rattle.spec.proofs.Refusals.{refused_stop, refused_more, refused_done, else_kept}
use Rattle.spec.specs.Words.{kind_of, v_of, bad_landing, word_refusal, refusal_at, first_refused}
use Rattle.spec.proofs.Bools.{both}
use Rattle.words.proofs.guest.RefusalLaws.{clean_judged}

pub at_refused : (n w x : ℕ) → x ≡ word_refusal w → (x ≡ 0 → ⊥) → x ≡ refusal_at n w
unfolding refusal_at
at_refused n w x e h = rw (← e, ne_eqb x 0 h)

pub lands : (n w k v : ℕ) → k ≡ kind_of w → v ≡ v_of w → (eqb k guest.goif && ltb n v) ≡ bad_landing n w
lands n w k v ek ev = rw (ek, ev)

-- `beyond` says whether it is a GOIF past the end
module _ (n w : ℕ) (beyond : Bool) (eb : beyond ≡ bad_landing n w) where
  module _ (x : ℕ) (e : x ≡ word_refusal w) (z : x ≡ 0) where
    pub at_landing : beyond ≡ true → number_of BadLanding ≡ refusal_at n w
    unfolding refusal_at
    at_landing h = rw (← e, ← eb, eq-eqb x 0 z, h)

    pub at_taken : beyond ≡ false → taken_number ≡ refusal_at n w
    unfolding refusal_at
    at_taken h = rw (← e, ← eb, eq-eqb x 0 z, h)

  -- a word that is an instruction, and no GOIF past the end
  pub clean_at : (r : Bool) → r ≡ eqb (word_refusal w) 0 → (r && not beyond) ≡ true → taken_number ≡ refusal_at n w
  clean_at r f t = let u = both r (not beyond) t in at_taken 0 (clean_judged w r f u.0) refl (not-true beyond u.1)

-- ---- the words in order

-- no word before index i is refused, so what follows is the answer
abbrev pub Reaches : List ℕ → ℕ → Type 0
Reaches ws i = (z : Answer) → first_refused (refusal_at (length ws)) ws 0 z ≡ first_refused (refusal_at (length ws)) (drop i ws) i z

module _ (ws : List ℕ) (i : ℕ) (q : Reaches ws i) where
  module _ (h : i < length ws) where
    pub goes_on : taken_number ≡ refusal_at (length ws) (get_or ws i 0) → Reaches ws (i + 1)
    goes_on e z = refused_more (refusal_at (length ws)) ws i z _ (q z) h taken_number _ e refl refl

    pub stops_at : (x : Refusal) → number_of x ≡ refusal_at (length ws) (get_or ws i 0) → (e : Reject) → e ≡ reject_at x i →
        (z : Answer) → first_refused (refusal_at (length ws)) ws 0 z ≡ or_else (rejected e) z
    stops_at x ex e ee z =
        rw ee (sym (refused_stop (refusal_at (length ws)) ws i z _ (q z) h (number_of x) _ ex refl (refusal_counts x)) ∙ sym (else_kept (rejected (reject_at x i)) z (refusal_counts x)))

  pub ends : length ws ≤ i → (z : Answer) → first_refused (refusal_at (length ws)) ws 0 z ≡ z
  ends h z = sym (refused_done (refusal_at (length ws)) ws i z _ (q z) h)
