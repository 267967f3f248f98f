-- Laws of guest words: what a word that is not refused gives, and how fields are packed and unpacked.
use mathlib.Core.Path.{◌≡◌, refl}
use mathlib.Core.Bool.{Bool, true, false, ◌||◌}
use Prim.Native.Nat.{ℕ, zero, suc, ◌+◌, ◌*◌, ◌/◌, ◌≤◌, ◌^◌}
use native.Mathlib.Omega.{arith}
use lib.Dec.{ltb, leb}
use borrow.Author.Tests.{ltb-false, le-ltb, ne_eqb}
use Rattle.types.specs.declared.Fields.{Fields}
use Rattle.types.specs.declared.Limits.{Limits}
use Rattle.types.specs.Names.{top_guest, top_condition, top_word, top_kind}
use Rattle.spec.specs.Words.{kind_of, d_of, a_of, b_of, c_of, zero_of, v_of, fields_of, pack_of, pack_fields, guest_limits, lacks, has_stray, has_high, fields_refusal}
use Rattle.spec.proofs.Bools.{cond_ind, neither}
use Rattle.spec.proofs.Tables.{all, raised}
use Rattle.spec.proofs.Packing.{InBits, pack_kind, pack_d, pack_a, pack_b, pack_c, pack_zero, pack_v}

-- ---- words that are not refused

-- fields within limits
pub record InLimits (l : Limits) (f : Fields) : Type 0 where
  pub d : f.d ≤ l.d
  pub a : f.a ≤ l.a
  pub b : f.b ≤ l.b
  pub c : f.c ≤ l.c
  pub v : f.v ≤ l.v

kept_of : (l : Limits) (f : Fields) → has_high l f ≡ false → InLimits l f
kept_of l f e =
    let t4 = neither _ _ e in
    let t3 = neither _ _ t4.0 in
    let t2 = neither _ _ t3.0 in
    let t1 = neither _ _ t2.0 in
    record { d = ltb-false _ _ t1.0; a = ltb-false _ _ t1.1; b = ltb-false _ _ t2.1; c = ltb-false _ _ t3.1; v = ltb-false _ _ t4.1 }

none_high : (l : Limits) (f : Fields) → InLimits l f → has_high l f ≡ false
none_high l f g = rw (le-ltb _ _ g.d, le-ltb _ _ g.a, le-ltb _ _ g.b, le-ltb _ _ g.c, le-ltb _ _ g.v)

has : (most x : ℕ) → x ≤ most → lacks most x ≡ false
has zero x h = rw (le-ltb 0 x h)
has (suc most) x h = rw (ne_eqb (suc most) 0 (λ (e : suc most ≡ 0). omega arith))

none_stray : (l : Limits) (f : Fields) → InLimits l f → has_stray l f ≡ false
none_stray l f g = rw (has _ _ g.d, has _ _ g.a, has _ _ g.b, has _ _ g.c, has _ _ g.v)

-- what holds of an instruction that is not refused
pub record ValidFields (x : Bool) (f : Fields) : Type 0 where
  pub kind : f.kind ≤ top_kind
  pub clean : x ≡ false
  pub kept : InLimits (guest_limits f.kind) f

pub valid_fields : (x : Bool) (f : Fields) → fields_refusal x f ≡ 0 → ValidFields x f
unfolding fields_refusal
valid_fields x f =
    let P : ℕ → Type 0 = λ y. y ≡ 0 → ValidFields x f in
    let l = guest_limits f.kind in
    cond_ind P (ltb top_kind f.kind) (λ _ e. absurd (omega arith)) (λ h0.
    cond_ind P (x || has_stray l f) (λ _ e. absurd (omega arith)) (λ h1.
    cond_ind P (has_high l f) (λ _ e. absurd (omega arith)) (λ h2 _.
    record { kind = ltb-false top_kind f.kind h0; clean = (neither _ _ h1).0; kept = kept_of l f h2 })))

pub judged : (x : Bool) (f : Fields) → ValidFields x f → fields_refusal x f ≡ 0
unfolding fields_refusal
judged x f g =
    rw (le-ltb top_kind f.kind g.kind, g.clean, none_stray (guest_limits f.kind) f g.kept, none_high (guest_limits f.kind) f g.kept)

-- the bounds of its fields
pub record Bounds (f : Fields) : Type 0 where
  pub kind : f.kind ≤ top_kind
  pub d : f.d ≤ top_guest
  pub a : f.a ≤ top_guest
  pub b : f.b ≤ top_guest
  pub c : f.c ≤ top_condition
  pub word : f.v ≤ top_word

-- a bound on a field's limit in all guest kinds bounds the field
bounded : (f : Limits → ℕ) (top : ℕ) → all (λ k. leb (f (guest_limits k)) top) (top_kind + 1) ≡ true → (k x : ℕ) → k ≤ top_kind → x ≤ f (guest_limits k) → x ≤ top
bounded f top e k x l h = raised (λ k. f (guest_limits k)) (λ _. top) (top_kind + 1) e k x (omega arith) h

pub bounds : (x : Bool) (f : Fields) → fields_refusal x f ≡ 0 → Bounds f
unfolding all
bounds x f e =
    let g = valid_fields x f e in
    record {
      kind = g.kind;
      d = bounded (λ l. l.d) top_guest refl _ _ g.kind g.kept.d;
      a = bounded (λ l. l.a) top_guest refl _ _ g.kind g.kept.a;
      b = bounded (λ l. l.b) top_guest refl _ _ g.kind g.kept.b;
      c = bounded (λ l. l.c) top_condition refl _ _ g.kind g.kept.c;
      word = bounded (λ l. l.v) top_word refl _ _ g.kind g.kept.v;
    }

-- its form has no foreign matter
pub clean : (x : Bool) (f : Fields) → fields_refusal x f ≡ 0 → x ≡ false
clean x f e = (valid_fields x f e).clean

-- ---- fields packed and unpacked

-- fields that fit their bits, or are within their bounds, come back from the packed word
pub bits_pack : (f : Fields) → InBits f.kind f.d f.a f.b f.c → (fields_of (pack_fields f) ≡ f) × (zero_of (pack_fields f) ≡ 0)
bits_pack f h =
    let k = pack_kind _ _ _ _ _ f.v h in
    let d = pack_d _ _ _ _ _ f.v h in
    let a = pack_a _ _ _ _ _ f.v h in
    let b = pack_b _ _ _ _ _ f.v h in
    let c = pack_c _ _ _ _ _ f.v h in
    let v = pack_v _ _ _ _ _ f.v h in
    ((λ i. record { kind = k i; d = d i; a = a i; b = b i; c = c i; v = v i }), pack_zero _ _ _ _ _ f.v h)

pub fields_pack : (f : Fields) → Bounds f → (fields_of (pack_fields f) ≡ f) × (zero_of (pack_fields f) ≡ 0)
fields_pack f g =
    bits_pack f (omega (arith, g.kind), omega (arith, g.d), omega (arith, g.a), omega (arith, g.b), omega (arith, g.c))

telescope : (w q8 q12 q16 q20 q24 v k d a b c : ℕ) → w ≡ k + q8 * 2 ^ 8 → q8 ≡ d + q12 * 2 ^ 4 → q12 ≡ a + q16 * 2 ^ 4 → q16 ≡ b + q20 * 2 ^ 4
    → q20 ≡ c + q24 * 2 ^ 4 → q24 ≡ v * 2 ^ 8 → pack_of k d a b c v ≡ w
telescope w q8 q12 q16 q20 q24 v k d a b c e1 e2 e3 e4 e5 e6 = omega arith

-- a word whose bits 24–31 are 0 comes back from its fields
pub pack_fields_lem : (w : ℕ) → zero_of w ≡ 0 → pack_fields (fields_of w) ≡ w
pack_fields_lem w h =
    telescope w (w / 2 ^ 8) (w / 2 ^ 12) (w / 2 ^ 16) (w / 2 ^ 20) (w / 2 ^ 24) (v_of w) (kind_of w) (d_of w) (a_of w) (b_of w) (c_of w)
    (omega arith) (omega arith) (omega arith) (omega arith) (omega arith) (omega arith)
