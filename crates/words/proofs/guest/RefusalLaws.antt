-- Laws of a guest word's first refusal.
use mathlib.Core.Path.{◌≡◌, sym, ◌∙◌}
use mathlib.Core.Bool.{Bool, true, false, ◌&&◌}
use Prim.Native.Nat.{ℕ, ◌≤◌, ◌<◌, ◌^◌}
use native.Mathlib.Omega.{arith}
use lib.Bits.{bit_and}
use lib.Dec.{ltb, eqb}
use borrow.Author.Tests.{eq-eqb, ne_eqb, eqb-true, lt-ltb, ltb-true, ltb-false}
use Rattle.types.specs.declared.Fields.{Fields}
use Rattle.types.specs.Names.{taken_number, guest_registers, top_guest, top_kind}
use Rattle.spec.specs.Words.{guest_limits, fields_refusal, fields_of, kind_of, d_of, a_of, b_of, zero_of, word_refusal}
use Rattle.spec.proofs.Bools.{both, join}
use Rattle.spec.proofs.WordLaws.{valid_fields, judged, bounds}
use Rattle.words.specs.fields.Strays.{stray_of}
use Rattle.words.specs.fields.Guests.{only_guest_registers}
use Rattle.words.proofs.fields.Masks.{bool_ext, Within}
use Rattle.words.proofs.guest.Masks.{guest_within, within_guest}

-- from the fields to the word
pub word_refusal_lem : (w z : ℕ) (f : Fields) → z ≡ zero_of w → f ≡ fields_of w → (x : ℕ) → x ≡ fields_refusal (ltb 0 z) f → x ≡ word_refusal w
word_refusal_lem w z f ez e x ex = ex ∙ rw (ez, e)

-- ---- a word without a stray bit that names only guest registers

is_guest : (x : ℕ) → x ≤ top_guest → ltb x guest_registers ≡ true
is_guest x h = lt-ltb x guest_registers (omega arith)

module _ (w k : ℕ) (e : k ≡ kind_of w) where
  pub clean_unknown : top_kind < k → false ≡ eqb (word_refusal w) 0
  clean_unknown h = sym (ne_eqb (word_refusal w) 0 (λ z. let g = bounds (ltb 0 (zero_of w)) (fields_of w) z in absurd (omega (arith, g.kind))))

  module _ (fits : w < 2 ^ 64) (l : k ≤ top_kind) (s : ℕ) (es : s ≡ stray_of (guest_limits k)) (g : Bool) (eg : g ≡ only_guest_registers w) where
    abbrev d : Bool
    d = ltb (d_of w) guest_registers

    abbrev a : Bool
    a = ltb (a_of w) guest_registers

    abbrev b : Bool
    b = ltb (b_of w) guest_registers

    clean_good : (eqb (bit_and w s) 0 && g) ≡ true → word_refusal w ≡ 0
    clean_good t =
        let h : kind_of w ≤ top_kind = omega arith in
        let tm = both (eqb (bit_and w s) 0) g t in
        let tb = both (d && a) b (sym eg ∙ tm.1) in
        let ta = both d a tb.0 in
        let i = guest_within w fits h (rw (es, e) at (eqb-true (bit_and w s) 0 tm.0)) (ltb-true _ _ ta.0) (ltb-true _ _ ta.1) (ltb-true _ _ tb.1) in
        judged (ltb 0 (zero_of w)) (fields_of w)
        (record { kind = h; clean = rw i.zero; kept = record { d = i.d; a = i.a; b = i.b; c = i.c; v = i.v } })

    good_clean : word_refusal w ≡ 0 → (eqb (bit_and w s) 0 && g) ≡ true
    good_clean z =
        let o = valid_fields (ltb 0 (zero_of w)) (fields_of w) z in
        let m = bounds (ltb 0 (zero_of w)) (fields_of w) z in
        let i : Within (guest_limits (kind_of w)) w = record {
          kind = omega (arith, m.kind);
          zero = omega (arith, ltb-false 0 (zero_of w) o.clean);
          d = o.kept.d;
          a = o.kept.a;
          b = o.kept.b;
          c = o.kept.c;
          v = o.kept.v;
        } in
        join (eqb (bit_and w s) 0) g
        (rw (es, e) (eq-eqb _ _ (within_guest w fits m.kind i m.d m.a m.b)))
        (eg ∙ join (d && a) b (join d a (is_guest _ m.d) (is_guest _ m.a)) (is_guest _ m.b))

    pub clean_is : (eqb (bit_and w s) 0 && g) ≡ eqb (word_refusal w) 0
    clean_is = bool_ext (eqb (bit_and w s) 0 && g) (eqb (word_refusal w) 0) (λ t. eq-eqb _ _ (clean_good t)) (λ t. good_clean (eqb-true _ _ t))

pub clean_judged : (w : ℕ) (r : Bool) → r ≡ eqb (word_refusal w) 0 → r ≡ true → taken_number ≡ word_refusal w
clean_judged w r f e = sym (eqb-true (word_refusal w) 0 (sym f ∙ e))
