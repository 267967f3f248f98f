-- The checker passes exactly the lists of valid instructions' bundles.
use mathlib.Core.Path.{◌≡◌, refl, sym, ◌∙◌, ap}
use mathlib.Core.Bool.{true}
use mathlib.Core.List.{List, [], ◌∷◌}
use Prim.Native.Nat.{ℕ, ◌+◌, ◌-◌, ◌*◌, ◌/◌, ◌<◌, ◌≤◌}
use native.Mathlib.Omega.{arith}
use borrow.Author.Tests.{eq-eqb}
use lib.Dec.{lit<}
use lib.ListN.{length, get_or, take, drop, length-take, length-drop}
use lib.Seq.{ext_get_or, get_or-take, get_or-drop}
use Rattle.types.specs.declared.Layout.{Layout}
use Rattle.types.specs.declared.Instr.{Instr}
use Rattle.types.specs.declared.Instr.TheVariants.{HALT}
use Rattle.types.specs.Names.{bundle_length, answer}
use Rattle.spec.specs.Commands.{word_of}
use Rattle.spec.specs.Bundles.{shape_of, bundle_of, decode_bundle, bundle_at, is_bundle, check_answer}
use Rattle.spec.specs.Claims.{Shapes, AllShaped, Checks}
use Rattle.spec.proofs.Facts.{Valid}
use Rattle.spec.proofs.Conditions.{four_words, bundle_parts, valid_is, some_ones, passed_of, passed_placed, passed_valid, passed_word, passed_last}
use Rattle.spec.proofs.Passing.{bundle_back, is_valid, list_passes}

module _ (lay : Layout) (n : ℕ) where
  -- the words of a bundle, by position
  bundle_word : (i : Instr) (p : ℕ) → p < bundle_length → get_or (bundle_of lay n i).words p 0 ≡ word_of (shape_of lay n i p)
  bundle_word i p l =
      let z : 0 + p ≡ p = omega arith in
      rw z at (four_words (bundle_of lay n i).words 0 (λ (q : ℕ). word_of (shape_of lay n i q)) refl refl refl refl p l)

  found : (i : Instr) (w x y z : ℕ) → Valid n i → w ≡ word_of (shape_of lay n i 0) → x ≡ word_of (shape_of lay n i 1) → y ≡ word_of (shape_of lay n i 2)
      → z ≡ word_of (shape_of lay n i 3) → is_bundle lay n (decode_bundle lay w y z) w x y z ≡ true
  unfolding is_bundle
  found i w x y z g a b c d =
      rw (
        a,
        b,
        c,
        d,
        bundle_back lay n i g,
        is_valid lay n i g,
        eq-eqb (word_of (shape_of lay n i 0)) _ refl,
        eq-eqb (word_of (shape_of lay n i 1)) _ refl,
        eq-eqb (word_of (shape_of lay n i 2)) _ refl,
        eq-eqb (word_of (shape_of lay n i 3)) _ refl,
      )

  words_at : (words : List ℕ) (i : Instr) (p : ℕ) → (bundle_of lay n i).words ≡ words → p < bundle_length → get_or words p 0 ≡ word_of (shape_of lay n i p)
  words_at words i p e l = ap (λ (l : List ℕ). get_or l p 0) (sym e) ∙ bundle_word i p l

  -- four words of a list that are the bundle of an instruction
  module _ (ws : List ℕ) (h : ℕ) (i : Instr) (same : (bundle_of lay n i).words ≡ take bundle_length (drop (bundle_length * h) ws)) where
    word_at : (p : ℕ) → p < bundle_length → get_or ws (bundle_length * h + p) 0 ≡ word_of (shape_of lay n i p)
    word_at p l = sym (get_or-take bundle_length (drop (bundle_length * h) ws) p 0 l ∙ get_or-drop (bundle_length * h) ws p 0) ∙ words_at _ i p same l

    read_at : Valid n i → bundle_at lay ws h ≡ i
    unfolding bundle_at
    read_at g =
        let z : bundle_length * h + 0 ≡ bundle_length * h = omega arith in
        rw (rw z at (word_at 0 (lit< tt)), word_at 2 (lit< tt), word_at 3 (lit< tt)) (bundle_back lay n i g)

  -- and back
  bundle_at_lem : (ws : List ℕ) (h : ℕ) (i : Instr) → bundle_length * h + bundle_length ≤ length ws
      → ((p : ℕ) → p < bundle_length → get_or ws (bundle_length * h + p) 0 ≡ word_of (shape_of lay n i p))
      → (bundle_of lay n i).words ≡ take bundle_length (drop (bundle_length * h) ws)
  bundle_at_lem ws h i l each =
      let size : length (take bundle_length (drop (bundle_length * h) ws)) ≡ bundle_length = omega (arith, length-take bundle_length (drop (bundle_length * h) ws), length-drop (bundle_length * h) ws) in
      ext_get_or 0 (bundle_of lay n i).words (take bundle_length (drop (bundle_length * h) ws)) (sym size)
      (λ p m. bundle_word i p m ∙ sym (get_or-take bundle_length (drop (bundle_length * h) ws) p 0 m ∙ get_or-drop (bundle_length * h) ws p 0 ∙ each p m))

pub shapes : Shapes
shapes lay n w x y z =
    record {
      shaped =
          λ t.
          let i = decode_bundle lay w y z in
          let p = bundle_parts lay n i w x y z t in
          record { instr = i; fields = is_valid lay n i p.0; same = rw (← p.1, ← p.2, ← p.3, ← p.4) };
      found =
          λ s.
          let at : (p : ℕ) → p < bundle_length → get_or (w ∷ x ∷ y ∷ z ∷ []) p 0 ≡ word_of (shape_of lay n s.instr p) = λ p l. words_at lay n _ s.instr p s.same l in
          found lay n s.instr w x y z (valid_is n s.instr s.fields) (at 0 (lit< tt)) (at 1 (lit< tt)) (at 2 (lit< tt)) (at 3 (lit< tt));
    }

module _ (lay : Layout) (ws : List ℕ) where
  abbrev N : ℕ
  N = length ws / bundle_length

  passed : (check_answer lay ws).number ≡ 0 → AllShaped lay ws N
  passed e =
      let p = passed_of lay ws e in
      let some = some_ones N p.single in
      let same : (h : ℕ) → h < N → (bundle_of lay N (bundle_at lay ws h)).words ≡ take bundle_length (drop (bundle_length * h) ws) =
      λ h l. bundle_at_lem lay N ws h (bundle_at lay ws h) (omega (arith, p.count)) (passed_word lay ws N p h l) in
      record {
        placed = passed_placed lay ws N p;
        each =
            λ h l.
            record { instr = bundle_at lay ws h; fields = is_valid lay N (bundle_at lay ws h) (passed_valid lay ws N p h l); same = same h l };
        last = sym (same (N - 1) (omega arith)) ∙ ap (λ (i : Instr). (bundle_of lay N i).words) (passed_last lay ws N p);
      }

  passes : AllShaped lay ws N → check_answer lay ws ≡ answer 0 0
  passes a =
      let fine : (h : ℕ) (l : h < N) → Valid N (a.each h l).instr = λ h l. valid_is N _ (a.each h l).fields in
      let read : (h : ℕ) (l : h < N) → bundle_at lay ws h ≡ (a.each h l).instr = λ h l. read_at lay N ws h _ (a.each h l).same (fine h l) in
      list_passes lay ws (bundle_at lay ws) a.placed (λ h p l m. rw (read h l) (word_at lay N ws h _ (a.each h l).same p m)) (λ h l. rw (read h l) (fine h l))
      (read_at lay N ws (N - 1) HALT (sym a.last) tt)

pub checks : Checks
checks lay ws = record { passed = passed lay ws; passes = passes lay ws }
