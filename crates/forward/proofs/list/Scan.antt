-- Laws of the check of command lists, one for each return.
use mathlib.Core.Path.{◌≡◌, refl, sym, ◌∙◌, ap}
use mathlib.Core.Bool.{Bool, true, false, not}
use mathlib.Core.List.{List, []}
use Prim.Native.Nat.{ℕ, ◌+◌, ◌-◌, ◌*◌, ◌/◌, ◌<◌, ◌≤◌}
use native.Mathlib.Omega.{arith}
use borrow.Author.Tests.{ne_eqb, le-ltb, eqb-true}
use lib.Dec.{eqb, ltb}
use lib.ListN.{length, get_or}
use Rattle.types.specs.declared.Layout.{Layout}
use Rattle.types.specs.declared.Answer.{Answer}
use Rattle.types.specs.declared.Instr.{Instr}
use Rattle.types.specs.declared.Refusal.TheVariants.{NotForward}
use Rattle.types.specs.declared.Reject.{Reject}
use Rattle.std.specs.Prelude.{Result, IsErrAnd}
use Rattle.std.specs.Simd.{first_chunks}
use Rattle.types.specs.Names.{taken_number, bundle_length, answer, command}
use Rattle.types.specs.Results.{reject_at, rejected, verdict_of}
use Rattle.types.proofs.Exits.{exit_rejected, refusal_counts}
use Rattle.words.proofs.Chunks.{chunk_element}
use Rattle.spec.specs.Words.{kind_of, v_of}
use Rattle.spec.specs.Bundles.{decode_bundle, bundle_at, check_answer}
use Rattle.spec.proofs.Bools.{cond_ind}
use Rattle.forward_spec.specs.Forward.{forward_at, forward_from, check_forward_answer, forward_word}
use Rattle.forward_spec.proofs.Laws.{scan_more, scan_stop, scan_done, list_refused, list_passed}

-- ---- bundles, by their first words
module _ (lay : Layout) (h w y z : ℕ) where
  abbrev Read : Type 0
  Read = forward_word lay h w ≡ forward_at h (decode_bundle lay w y z)

  module _ (e1 : eqb (kind_of w) command.halt ≡ false) (e9 : eqb (kind_of w) command.andi ≡ false) where
    read_far : (s t u : Bool) → eqb (kind_of w) command.goif ≡ s → eqb (kind_of w) command.shl ≡ t → eqb (kind_of w) command.look ≡ u → Read
    unfolding forward_word decode_bundle forward_at
    read_far true t u e14 e11 e16 = rw (e1, e9, e14)
    read_far false true u e14 e11 e16 = rw (e1, e9, e14, e11)
    read_far false false true e14 e11 e16 = rw (e1, e9, e14, e11, e16)
    read_far false false false e14 e11 e16 = rw (e1, e9, e14, e11, e16)

  read_near : (s t : Bool) → eqb (kind_of w) command.halt ≡ s → eqb (kind_of w) command.andi ≡ t → Read
  unfolding forward_word decode_bundle forward_at
  read_near true t e1 e9 = let q : kind_of w ≡ command.halt = eqb-true _ _ e1 in rw q
  read_near false true e1 e9 =
      let q : kind_of w ≡ command.andi = eqb-true _ _ e9 in
      rw q (sym (cond_ind (λ (i : Instr). forward_at h i ≡ true) (eqb (kind_of y) 12) (λ _. refl) (λ _. refl)))
  read_near false false e1 e9 = read_far e1 e9 _ _ _ refl refl refl

  read_is : Read
  read_is = read_near _ _ refl refl

-- a first word that is no GOIF; a GOIF to an address below the base; a GOIF to any other address
module _ (lay : Layout) (h w : ℕ) where
  pub word_other : (kind_of w ≡ command.goif → ⊥) → not (eqb (kind_of w) command.shl) ≡ forward_word lay h w
  unfolding forward_word
  word_other f = rw (ne_eqb (kind_of w) command.goif f)

  pub word_below : kind_of w ≡ command.goif → v_of w < lay.base → false ≡ forward_word lay h w
  unfolding forward_word
  word_below e l = let z : (v_of w - lay.base) / bundle_length ≡ 0 = omega arith in rw (e, z) (sym (le-ltb h 0 (omega arith)))

  pub word_jump : kind_of w ≡ command.goif → ltb h ((v_of w - lay.base) / bundle_length) ≡ forward_word lay h w
  unfolding forward_word
  word_jump e = rw e

module _ (lay : Layout) (ws : List ℕ) (h : ℕ) where
  abbrev size : ℕ
  size = length ws / bundle_length

  -- no bundle before h breaks the class, so what follows is the answer
  abbrev pub Reaches : Type 0
  Reaches = forward_from (bundle_at lay ws) 0 size ≡ forward_from (bundle_at lay ws) h (size - h)

  module _ (q : Reaches) where
    module _ (lt : h < size) (bs : List (List ℕ)) (eb : bs ≡ first_chunks bundle_length (length ws / bundle_length) ws) (p : Bool) (ep : p ≡ forward_word lay h (get_or (get_or bs h []) 0 0)) where
      first_word : get_or (get_or bs h []) 0 0 ≡ get_or ws (bundle_length * h) 0
      first_word = let z : bundle_length * h + 0 ≡ bundle_length * h = omega arith in rw (eb, chunk_element bundle_length (length ws / bundle_length) ws h 0 [] 0 lt (omega arith), z)

      bundle_forward : p ≡ forward_at h (bundle_at lay ws h)
      unfolding bundle_at
      bundle_forward = ep ∙ ap (forward_word lay h) first_word ∙ read_is lay h _ _ _

      pub bundle_more : p ≡ true → forward_from (bundle_at lay ws) 0 size ≡ forward_from (bundle_at lay ws) (h + 1) (size - (h + 1))
      bundle_more = scan_more (bundle_at lay ws) size h _ q lt p bundle_forward

      pub bundle_stop : p ≡ false → (e : Reject) → e ≡ reject_at NotForward h → rejected e ≡ forward_from (bundle_at lay ws) 0 size
      bundle_stop f e ee = rw ee (scan_stop (bundle_at lay ws) size h _ q lt p bundle_forward f)

    pub bundle_done : size ≤ h → answer taken_number 0 ≡ forward_from (bundle_at lay ws) 0 size
    bundle_done = scan_done (bundle_at lay ws) size h _ q

-- ---- the whole
module _ (lay : Layout) (ws : List ℕ) where
  pub bad_list : (x : Reject) → rejected x ≡ check_answer lay ws → (r : Result Unit Reject) → IsErrAnd r (λ y. y ≡ x) → verdict_of r ≡ check_forward_answer lay ws
  bad_list x ex r er =
      exit_rejected (λ _. 0) r x er ∙ ex ∙ sym (list_refused lay ws (λ z. refusal_counts x.refusal (ap (λ (a : Answer). a.number) ex ∙ z)))

  pub good_list : answer taken_number 0 ≡ check_answer lay ws → (b : Answer) → b ≡ forward_from (bundle_at lay ws) 0 (length ws / bundle_length) → b ≡ check_forward_answer lay ws
  good_list q b eb = eb ∙ sym (list_passed lay ws (ap (λ (a : Answer). a.number) (sym q)))
