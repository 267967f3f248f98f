-- A list with an event bundle in the old order is refused.
use mathlib.Core.Path.{◌≡◌, refl, sym, ◌∙◌, ap}
use mathlib.Core.Bool.{true, false}
use mathlib.Core.Logic.{⊎_elim}
use mathlib.Core.List.{List}
use Prim.Native.Nat.{ℕ, zero, suc, ◌+◌, ◌*◌, ◌/◌, ◌<◌, ◌≤◌}
use native.Mathlib.Omega.{arith}
use lib.Dec.{lit<}
use lib.ListN.{length, get_or, take, drop}
use lib.Seq.{get_or-take, get_or-drop}
use Rattle.types.specs.declared.Layout.{Layout}
use Rattle.types.specs.declared.Instr.{Instr}
use Rattle.types.specs.declared.Instr.TheVariants.{EVENT}
use Rattle.types.specs.declared.Refusal.TheVariants.{BadBundle}
use Rattle.types.specs.Names.{bundle_length, number_of, command}
use Rattle.spec.specs.Words.{kind_of, v_of, pack_of}
use Rattle.spec.specs.Commands.{word_of}
use Rattle.spec.specs.Bundles.{shape_of, decode_bundle, bundle_at, shaped_at, passes_at, check_from, check_answer}
use Rattle.spec.proofs.Bools.{no, cases, both}
use Rattle.spec.proofs.Conditions.{bundle_parts}
use Rattle.changes.specs.Claims.{old_event, OldRefused}

-- a list with a bundle that does not pass is refused, there or earlier
refused_at : (lay : Layout) (n : ℕ) (ws : List ℕ) (j h m : ℕ) → passes_at lay n ws j ≡ false → h ≤ j → j < h + m
    → ((check_from lay n ws h m).number ≡ number_of BadBundle) × ((check_from lay n ws h m).place ≤ j)
unfolding check_from
refused_at lay n ws j h zero no-shape l k = absurd (omega arith)
refused_at lay n ws j h (suc m) no-shape l k =
    ⊎_elim
    (λ (e : passes_at lay n ws h ≡ true).
    let apart : h ≡ j → ⊥ = λ (q : h ≡ j). no (sym no-shape ∙ ap (passes_at lay n ws) (sym q) ∙ e) in
    rw e (refused_at lay n ws j (h + 1) m no-shape (omega arith) (omega arith)))
    (λ (e : passes_at lay n ws h ≡ false). rw e (refl, l))
    (cases (passes_at lay n ws h))

-- in an old event bundle the first word is LOOK and the third KEEP, but the third must be EVENT
look_kind : (r e : ℕ) → kind_of (pack_of command.look r 0 0 0 e) ≡ command.look
look_kind r e = omega arith

keep_event : (r v : ℕ) → pack_of command.keep r 0 0 0 0 ≡ pack_of command.event 0 0 0 0 v → ⊥
keep_event r v q = omega arith

module _ (lay : Layout) (n : ℕ) (ws : List ℕ) (h r e : ℕ) (old : take bundle_length (drop (bundle_length * h) ws) ≡ old_event r e) where
  old_word : (p : ℕ) → p < bundle_length → get_or ws (bundle_length * h + p) 0 ≡ get_or (old_event r e) p 0
  old_word p l = sym (get_or-take bundle_length (drop (bundle_length * h) ws) p 0 l ∙ get_or-drop (bundle_length * h) ws p 0) ∙ ap (λ (l : List ℕ). get_or l p 0) old

  old_look : bundle_at lay ws h ≡ EVENT (v_of (get_or ws (bundle_length * h) 0))
  unfolding bundle_at decode_bundle word_of
  old_look =
      let z : bundle_length * h + 0 ≡ bundle_length * h = omega arith in
      let k : kind_of (get_or ws (bundle_length * h) 0) ≡ command.look = ap (λ (i : ℕ). kind_of (get_or ws i 0)) (sym z) ∙ ap kind_of (old_word 0 (lit< tt)) ∙ look_kind r e in
      rw k

  old_fails : passes_at lay n ws h ≡ false
  unfolding passes_at shaped_at shape_of word_of
  old_fails =
      ⊎_elim
      (λ (t : passes_at lay n ws h ≡ true).
      let p = bundle_parts lay n (bundle_at lay ws h) _ _ _ _ (both (shaped_at lay n ws h) _ t).0 in
      absurd (keep_event r _ (sym (old_word 2 (lit< tt)) ∙ p.3 ∙ ap (λ (i : Instr). word_of (shape_of lay n i 2)) old_look)))
      (λ t. t)
      (cases (passes_at lay n ws h))

pub old_refused : OldRefused
unfolding check_answer
old_refused lay ws h r e p l old =
    let n = length ws / bundle_length in
    rw (p.layout, p.count, p.base) (refused_at lay n ws h 0 n (old_fails lay n ws h r e old) (omega arith) (omega arith))
