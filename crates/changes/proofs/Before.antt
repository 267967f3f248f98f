-- Lists written for another hidden register: which are refused, and which pass as before.
use mathlib.Core.Path.{◌≡◌, refl, sym, ◌∙◌, ap}
use mathlib.Core.Bool.{Bool, true, false, ◌||◌}
use mathlib.Core.List.{List}
use Prim.Native.Nat.{ℕ, zero, suc, ◌+◌, ◌*◌, ◌/◌, ◌^◌, ◌<◌, ◌≤◌}
use native.Mathlib.Omega.{arith}
use borrow.Author.Tests.{lt-ltb, ne_eqb}
use lib.Dec.{eqb, lit<}
use lib.ListN.{length, get_or}
use Rattle.types.specs.declared.Layout.{Layout}
use Rattle.types.specs.declared.Answer.{Answer}
use Rattle.types.specs.declared.Instr.{Instr}
use Rattle.types.specs.declared.Instr.TheVariants.{HALT, PLAIN, LOAD, STORE, GOIF, GOX, EVENT}
use Rattle.types.specs.declared.Refusal.TheVariants.{BadLayout, BadBundle, BadCount, BadBase}
use Rattle.types.specs.Names.{bundle_length, bundle_shift, hidden, guest, command, plain_step, number_of, answer}
use Rattle.spec.specs.Layouts.{right_layout}
use Rattle.spec.specs.Words.{kind_of, d_of, pack_of}
use Rattle.spec.specs.Commands.{word_of}
use Rattle.spec.specs.Bundles.{shape_with, shape_of, valid, bundle_at, base_right, passes_at, check_from, count_right, check_answer}
use Rattle.spec.proofs.Facts.{Valid}
use Rattle.spec.proofs.Bools.{no, both, join, cond_ind, unless-ind}
use Rattle.spec.proofs.Conditions.{passed_of, passed_placed, passed_valid, passed_word, passed_last, valid_is}
use Rattle.spec.proofs.Passing.{is_valid, list_passes}
use Rattle.changes.specs.Claims.{hidden_before, names_hidden, fields_below, PassesWith, ListsBefore}

-- ---- the first command of a bundle

-- kind and d are the lowest fields of a word, so the fields above do not change them
low_kind : (k d a b c v : ℕ) → k < 2 ^ 8 → kind_of (pack_of k d a b c v) ≡ k
low_kind k d a b c v h = omega arith

low_d : (k d a b c v : ℕ) → k < 2 ^ 8 → d < 2 ^ 4 → d_of (pack_of k d a b c v) ≡ d
low_d k d a b c v h l = omega arith

-- exactly the bundles that name the hidden register begin with ANDI, SHL or LOOK
begins : ℕ → Bool
begins k = eqb k command.andi || eqb k command.shl || eqb k command.look

begins_plain : (k : ℕ) → guest.set ≤ k → k ≤ guest.sar → begins (k + plain_step) ≡ false
unfolding begins
begins_plain k l u = rw (ne_eqb (k + plain_step) command.andi (λ e. omega arith), ne_eqb (k + plain_step) command.shl (λ e. omega arith), ne_eqb (k + plain_step) command.look (λ e. omega arith))

module _ (lay : Layout) (n : ℕ) where
  first_kind : (r : ℕ) (i : Instr) → names_hidden i ≡ true → begins (kind_of (word_of (shape_with r lay n i 0))) ≡ true
  unfolding word_of begins
  first_kind r HALT e = no e
  first_kind r (PLAIN k d a b v) e = no e
  first_kind r (LOAD d a) e = rw (low_kind command.andi r a 0 0 lay.high (lit< tt))
  first_kind r (STORE a b) e = rw (low_kind command.andi r a 0 0 lay.high (lit< tt))
  first_kind r (GOIF a b c v) e = no e
  first_kind r (GOX d a b c) e = rw (low_kind command.shl r d 0 0 bundle_shift (lit< tt))
  first_kind r (EVENT v) e = rw (low_kind command.look r 0 0 0 v (lit< tt))

  first_d : (r : ℕ) → r < 2 ^ 4 → (i : Instr) → names_hidden i ≡ true → d_of (word_of (shape_with r lay n i 0)) ≡ r
  unfolding word_of
  first_d r h HALT e = no e
  first_d r h (PLAIN k d a b v) e = no e
  first_d r h (LOAD d a) e = low_d command.andi r a 0 0 lay.high (lit< tt) h
  first_d r h (STORE a b) e = low_d command.andi r a 0 0 lay.high (lit< tt) h
  first_d r h (GOIF a b c v) e = no e
  first_d r h (GOX d a b c) e = low_d command.shl r d 0 0 bundle_shift (lit< tt) h
  first_d r h (EVENT v) e = low_d command.look r 0 0 0 v (lit< tt) h

  named_by_kind : (r : ℕ) (i : Instr) → Valid n i → begins (kind_of (word_of (shape_with r lay n i 0))) ≡ names_hidden i
  unfolding word_of begins
  named_by_kind r HALT g = refl
  named_by_kind r (PLAIN k d a b v) g = rw (low_kind (k + plain_step) d a b 0 v (omega (arith, g.1))) (begins_plain k g.0 g.1)
  named_by_kind r (LOAD d a) g = first_kind r (LOAD d a) refl
  named_by_kind r (STORE a b) g = first_kind r (STORE a b) refl
  named_by_kind r (GOIF a b c v) g = rw (low_kind command.goif 0 a b c (lay.base + bundle_length * v) (lit< tt))
  named_by_kind r (GOX d a b c) g = first_kind r (GOX d a b c) refl
  named_by_kind r (EVENT v) g = first_kind r (EVENT v) refl

  -- two bundles with the same first word have the same hidden register
  same_hidden : (r q : ℕ) → r < 2 ^ 4 → q < 2 ^ 4 → (i j : Instr) → names_hidden i ≡ true → Valid n j → word_of (shape_with r lay n i 0) ≡ word_of (shape_with q lay n j 0) → r ≡ q
  same_hidden r q hr hq i j e g w =
      let f : names_hidden j ≡ true = sym (named_by_kind q j g) ∙ ap (λ (x : ℕ). begins (kind_of x)) (sym w) ∙ first_kind r i e in
      sym (first_d r hr i e) ∙ ap d_of w ∙ first_d q hq j f

  -- a bundle that does not name the hidden register is the same for any hidden register
  same_shape : (r q : ℕ) (i : Instr) (p : ℕ) → names_hidden i ≡ false → shape_with r lay n i p ≡ shape_with q lay n i p
  same_shape r q HALT p e = refl
  same_shape r q (PLAIN k d a b v) p e = refl
  same_shape r q (LOAD d a) p e = no (sym e)
  same_shape r q (STORE a b) p e = no (sym e)
  same_shape r q (GOIF a b c v) p e = refl
  same_shape r q (GOX d a b c) p e = no (sym e)
  same_shape r q (EVENT v) p e = no (sym e)

  guest_fields : (i : Instr) → Valid n i → fields_below hidden i ≡ true
  guest_fields HALT g = refl
  guest_fields (PLAIN k d a b v) g = rw (lt-ltb d hidden g.2, lt-ltb a hidden g.3, lt-ltb b hidden g.4)
  guest_fields (LOAD d a) g = rw (lt-ltb d hidden g.0, lt-ltb a hidden g.1)
  guest_fields (STORE a b) g = rw (lt-ltb a hidden g.0, lt-ltb b hidden g.1)
  guest_fields (GOIF a b c v) g = rw (lt-ltb a hidden g.0, lt-ltb b hidden g.1)
  guest_fields (GOX d a b c) g = rw (lt-ltb d hidden g.0, lt-ltb a hidden g.1, lt-ltb b hidden g.2)
  guest_fields (EVENT v) g = refl

-- ---- if none of the first three refusals applies, it is bad bundle (11)

found : (lay : Layout) (n : ℕ) (ws : List ℕ) (h m : ℕ) → ((check_from lay n ws h m).number ≡ 0 → ⊥) → (check_from lay n ws h m).number ≡ number_of BadBundle
unfolding check_from
found lay n ws h zero = λ f. absurd (f refl)
found lay n ws h (suc m) =
    cond_ind (λ (a : Answer). (a.number ≡ 0 → ⊥) → a.number ≡ number_of BadBundle) (passes_at lay n ws h) (λ _. found lay n ws (h + 1) m) (λ _ _. refl)

abbrev Eleven : Answer → Type 0
Eleven a =
    (a.number ≡ 0 → ⊥) → (a.number ≡ number_of BadLayout → ⊥) → (a.number ≡ number_of BadCount → ⊥) → (a.number ≡ number_of BadBase → ⊥) → a.number ≡ number_of BadBundle

bundle_refused : (lay : Layout) (ws : List ℕ) → Eleven (check_answer lay ws)
unfolding check_answer
bundle_refused lay ws =
    let n = length ws / bundle_length in
    unless-ind Eleven (right_layout lay) (λ _ _ f _ _. absurd (f refl))
    (λ _. unless-ind Eleven (count_right (length ws)) (λ _ _ _ f _. absurd (f refl))
    (λ _. unless-ind Eleven (base_right lay n) (λ _ _ _ _ f. absurd (f refl)) (λ _ f _ _ _. found lay n ws 0 n f)))

-- ---- the claim

module _ (lay : Layout) (ws : List ℕ) where
  abbrev N : ℕ
  N = length ws / bundle_length

  passes : (is : ℕ → Instr) → PassesWith hidden lay ws N is → check_answer lay ws ≡ answer 0 0
  unfolding shape_of
  passes is p =
      list_passes lay ws is p.placed p.words (λ h l. valid_is N (is h) (both _ _ (p.fields h l)).0) p.last

  passed : (check_answer lay ws).number ≡ 0 → PassesWith hidden lay ws N (bundle_at lay ws)
  unfolding shape_of
  passed e =
      let p = passed_of lay ws e in
      record {
        placed = passed_placed lay ws N p;
        fields =
            λ h l.
            let g = passed_valid lay ws N p h l in
            join _ _ (is_valid lay N (bundle_at lay ws h) g) (guest_fields lay N (bundle_at lay ws h) g);
        words = λ h q l. passed_word lay ws N p h l q;
        last = passed_last lay ws N p;
      }

  refused : (h : ℕ) (i : Instr) → h < N → names_hidden i ≡ true → get_or ws (bundle_length * h) 0 ≡ word_of (shape_with hidden_before lay N i 0) → (check_answer lay ws).number ≡ 0 → ⊥
  unfolding shape_of
  refused h i l e w t =
      let p = passed_of lay ws t in
      let z : bundle_length * h ≡ bundle_length * h + 0 = omega arith in
      let first = passed_word lay ws N p h l 0 (lit< tt) in
      let q : hidden_before ≡ hidden =
      same_hidden lay N hidden_before hidden (lit< tt) (lit< tt) i (bundle_at lay ws h) e (passed_valid lay ws N p h l)
      (sym w ∙ ap (λ (x : ℕ). get_or ws x 0) z ∙ first) in
      omega (arith, q)

  -- a list without such a bundle, read with another hidden register
  reread : (r q : ℕ) (is : ℕ → Instr) → ((h : ℕ) → h < N → names_hidden (is h) ≡ false)
      → ((h : ℕ) → h < N → valid N (is h) ≡ true → fields_below q (is h) ≡ true) → PassesWith r lay ws N is → PassesWith q lay ws N is
  reread r q is none low p =
      record {
        placed = p.placed;
        fields = λ h l. let v = (both _ _ (p.fields h l)).0 in join _ _ v (low h l v);
        words = λ h x l y. p.words h x l y ∙ ap word_of (same_shape lay N r q (is h) x (none h l));
        last = p.last;
      }

pub lists_before : ListsBefore
lists_before lay ws =
    record {
      passes = passes lay ws;
      passed = passed lay ws;
      refused = λ h i l e w. bundle_refused lay ws (refused lay ws h i l e w);
      kept =
          λ is none p.
          passes lay ws is (reread lay ws hidden_before hidden is none (λ h l v. guest_fields lay _ (is h) (valid_is _ (is h) v)) p);
      before = λ low e. reread lay ws hidden hidden_before (bundle_at lay ws) (λ h l. (low h l).0) (λ h l v. (low h l).1) (passed lay ws e);
    }
