-- Each word that rewriting takes is a valid instruction, and each valid instruction has such a word.
use mathlib.Core.Path.{◌≡◌, refl, ◌∙◌}
use mathlib.Core.Bool.{true, false, ◌&&◌, ◌||◌, cond}
use mathlib.Core.Logic.{⊎_elim}
use Prim.Native.Nat.{ℕ, zero-le, ◌+◌, ◌<◌, ◌≤◌}
use native.Mathlib.Omega.{arith}
use borrow.Author.Tests.{ltb-true, ltb-false, eqb-true, eqb-false, leb-true, lt-ltb, le-ltb, eq-eqb, ne_eqb}
use lib.Dec.{eqb, leb, ltb, lit<, lit≤}
use Rattle.types.specs.declared.Fields.{Fields}
use Rattle.types.specs.declared.Limits.{Limits}
use Rattle.types.specs.declared.Instr.{Instr}
use Rattle.types.specs.declared.Instr.TheVariants.{HALT, PLAIN, LOAD, STORE, GOIF, GOX, EVENT}
use Rattle.types.specs.declared.Refusal.TheVariants.{BadLanding}
use Rattle.types.specs.Names.{taken_number, top_guest, top_condition, events, top_kind, guest_registers, most_instructions, guest, plain_step, number_of}
use Rattle.spec.specs.Words.{kind_of, d_of, a_of, b_of, c_of, v_of, zero_of, fields_of, pack_of, guest_limits, fields_refusal, word_refusal, refusal_at, instr_of}
use Rattle.spec.specs.Commands.{limits_of}
use Rattle.spec.proofs.Facts.{Valid}
use Rattle.spec.proofs.Bools.{both, either, cond_ind, unless-ind}
use Rattle.spec.proofs.Tables.{all, each, raised}
use Rattle.spec.proofs.WordLaws.{InLimits, valid_fields, judged, bounds}
use Rattle.spec.proofs.Packing.{InBits, guest_bits, condition_bits, pack_kind, pack_d, pack_a, pack_b, pack_c, pack_zero, pack_v}

-- ---- the instruction of a taken word is valid

-- a jump that is not refused as bad landing (8)
landing : (n k v : ℕ) → cond (eqb k guest.goif && ltb n v) (number_of BadLanding) taken_number ≡ 0 → k ≡ guest.goif → v ≤ n
landing n k v e at-goif =
    cond_ind (λ (x : ℕ). x ≡ 0 → v ≤ n) (eqb k guest.goif && ltb n v) (λ _ z. absurd (omega arith)) (λ l _. ltb-false n v (rw (eq-eqb k guest.goif at-goif) at l)) e

taken_word : (n w : ℕ) → refusal_at n w ≡ 0 → (word_refusal w ≡ 0) × (kind_of w ≡ guest.goif → v_of w ≤ n)
unfolding refusal_at
taken_word n w =
    unless-ind (λ (x : ℕ). x ≡ 0 → (word_refusal w ≡ 0) × (kind_of w ≡ guest.goif → v_of w ≤ n)) (eqb (word_refusal w) 0)
    (λ h e. absurd (eqb-false _ _ h e)) (λ h e. (eqb-true _ _ h, landing n (kind_of w) (v_of w) e))

abbrev fields : ℕ → ℕ → ℕ → ℕ → ℕ → ℕ → Fields
fields k d a b c v = record { kind = k; d = d; a = a; b = b; c = c; v = v }

-- a guest's plain kind and its command have the same limits
plain_limits : (k d a b c v : ℕ) → InLimits (guest_limits k) (fields k d a b c v) → k < guest.load → (d ≤ (limits_of (k + plain_step)).d)
    × (a ≤ (limits_of (k + plain_step)).a) × (b ≤ (limits_of (k + plain_step)).b) × (v ≤ (limits_of (k + plain_step)).v)
unfolding all
plain_limits k d a b c v g h = (up (λ l. l.d) refl d g.d, up (λ l. l.a) refl a g.a, up (λ l. l.b) refl b g.b, up (λ l. l.v) refl v g.v)
  where
    up : (f : Limits → ℕ) → all (λ k. leb (f (guest_limits k)) (f (limits_of (k + plain_step)))) guest.load ≡ true → (x : ℕ) → x ≤ f (guest_limits k) → x ≤ f (limits_of (k + plain_step))
    up f e x l = raised (λ k. f (guest_limits k)) (λ k. f (limits_of (k + plain_step))) guest.load e k x h l

-- EVENT's number is below 16
event_top : (k v : ℕ) → k ≡ guest.event → v ≤ (guest_limits k).v → v < events
event_top k v e h = let t : v ≤ (guest_limits guest.event).v = rw e at h in omega arith

-- registers of guest fields, and jumps within the routine
is_guest : (r : ℕ) → r ≤ top_guest → r < guest_registers
is_guest r l = omega arith

at_most : (r : ℕ) → r < guest_registers → r ≤ top_guest
at_most r l = omega arith

below_next : (v n : ℕ) → v ≤ n → v < n + 1
below_next v n l = omega arith

pub taken_valid : (n w : ℕ) → refusal_at n w ≡ 0 → Valid (n + 1) (instr_of w)
unfolding instr_of
taken_valid n w e =
    let t = taken_word n w e in
    let x = ltb 0 (zero_of w) in
    let g = bounds x (fields_of w) t.0 in
    let kept = (valid_fields x (fields_of w) t.0).kept in
    let hd = is_guest _ g.d in
    let ha = is_guest _ g.a in
    let hb = is_guest _ g.b in
    let hc = g.c in
    let k = kind_of w in
    cond_ind (Valid (n + 1)) (eqb k guest.halt) (λ _. tt) (λ h0.
    cond_ind (Valid (n + 1)) (ltb k guest.load) (λ h1.
    let l : guest.set ≤ k = omega (arith, eqb-false k guest.halt h0) in
    let u : k < guest.load = ltb-true k guest.load h1 in
    let most : k ≤ guest.sar = omega (arith, u) in
    let p = plain_limits k _ _ _ _ _ kept u in
    (l, most, hd, ha, hb, p.0, p.1, p.2, p.3)) (λ h1.
    cond_ind (Valid (n + 1)) (eqb k guest.load) (λ _. (hd, ha)) (λ h2.
    cond_ind (Valid (n + 1)) (eqb k guest.store) (λ _. (ha, hb)) (λ h3.
    cond_ind (Valid (n + 1)) (eqb k guest.goif) (λ h4. (ha, hb, hc, below_next (v_of w) n (t.1 (eqb-true k guest.goif h4)))) (λ h4.
    cond_ind (Valid (n + 1)) (eqb k guest.gox) (λ _. (hd, ha, hb, hc)) (λ h5.
    event_top k (v_of w)
    (omega (arith, g.kind, ltb-false k guest.load h1, eqb-false k guest.load h2, eqb-false k guest.store h3, eqb-false k guest.goif h4, eqb-false k guest.gox h5))
    kept.v))))))

-- ---- the guest word of an instruction

abbrev pub guest_word : Instr → ℕ
guest_word HALT = pack_of guest.halt 0 0 0 0 0
guest_word (PLAIN k d a b v) = pack_of k d a b 0 v
guest_word (LOAD d a) = pack_of guest.load d a 0 0 0
guest_word (STORE a b) = pack_of guest.store 0 a b 0 0
guest_word (GOIF a b c v) = pack_of guest.goif 0 a b c v
guest_word (GOX d a b c) = pack_of guest.gox d a b c 0
guest_word (EVENT e) = pack_of guest.event 0 0 0 0 e

-- each field within its limit, and a jump to at most n
abbrev FieldsWithinLimits : ℕ → ℕ → ℕ → ℕ → ℕ → ℕ → ℕ → Type 0
FieldsWithinLimits n k d a b c v =
    let l = guest_limits k in
    (k ≤ top_kind) × ((d ≤ l.d) × (a ≤ l.a) × (b ≤ l.b) × (c ≤ l.c) × (v ≤ l.v)) × (k ≡ guest.goif → v ≤ n)

lands : (n k v : ℕ) → (k ≡ guest.goif → v ≤ n) → cond (eqb k guest.goif && ltb n v) (number_of BadLanding) taken_number ≡ 0
lands n k v f =
    cond_ind (λ (y : ℕ). y ≡ 0) (eqb k guest.goif && ltb n v)
    (λ e. let t = both _ _ e in absurd (let l = f (eqb-true k guest.goif t.0) in let m = ltb-true n v t.1 in omega arith))
    (λ e. refl)

pack_judged : (n k d a b c v : ℕ) → InBits k d a b c → FieldsWithinLimits n k d a b c v → refusal_at n (pack_of k d a b c v) ≡ 0
unfolding refusal_at
pack_judged n k d a b c v h g =
    let f = fields k d a b c v in
    let t = g.1 in
    let j : fields_refusal false f ≡ 0 = judged false f (record { kind = g.0; clean = refl; kept = record { d = t.0; a = t.1; b = t.2; c = t.3; v = t.4 } }) in
    rw (pack_kind k d a b c v h, pack_d k d a b c v h, pack_a k d a b c v h, pack_b k d a b c v h, pack_c k d a b c v h, pack_zero k d a b c v h, pack_v k d a b c v h)
    (rw j (lands n k v g.2))

-- the plain kinds
plain_within_limits : (n k d a b v : ℕ) → k ≤ guest.sar → d < guest_registers → a < guest_registers → b < guest_registers → d ≤ (limits_of (k + plain_step)).d
    → a ≤ (limits_of (k + plain_step)).a → b ≤ (limits_of (k + plain_step)).b → v ≤ (limits_of (k + plain_step)).v → FieldsWithinLimits n k d a b 0 v
unfolding all
plain_within_limits n k d a b v h hd ha hb ld la lb lv = (
  omega arith,
  (
    down (λ l. l.d) refl d hd ld,
    down (λ l. l.a) refl a ha la,
    down (λ l. l.b) refl b hb lb,
    zero-le,
    raised (λ k. (limits_of (k + plain_step)).v) (λ k. (guest_limits k).v) guest.load refl k v (omega arith) lv,
  ),
  λ e. omega arith,
)
  where
    down : (f : Limits → ℕ) → all (λ k. leb top_guest (f (guest_limits k)) || leb (f (limits_of (k + plain_step))) (f (guest_limits k))) guest.load ≡ true
        → (x : ℕ) → x < guest_registers → x ≤ f (limits_of (k + plain_step)) → x ≤ f (guest_limits k)
    down f e x m l =
        ⊎_elim (λ t. let u : top_guest ≤ f (guest_limits k) = leb-true _ _ t in omega arith) (λ t. let u : f (limits_of (k + plain_step)) ≤ f (guest_limits k) = leb-true _ _ t in omega arith)
        (either _ _ (each (λ k. leb top_guest (f (guest_limits k)) || leb (f (limits_of (k + plain_step))) (f (guest_limits k))) k guest.load e (omega arith)))

-- the fields of each guest word fit their bits
halt_bits : InBits guest.halt 0 0 0 0
halt_bits = (lit< tt, lit< tt, lit< tt, lit< tt, lit< tt)

plain_bits : (k d a b : ℕ) → k ≤ guest.sar → d < guest_registers → a < guest_registers → b < guest_registers → InBits k d a b 0
plain_bits k d a b l hd ha hb = (omega arith, guest_bits d hd, guest_bits a ha, guest_bits b hb, lit< tt)

load_bits : (d a : ℕ) → (d < guest_registers) × (a < guest_registers) → InBits guest.load d a 0 0
load_bits d a g = (lit< tt, guest_bits d g.0, guest_bits a g.1, lit< tt, lit< tt)

store_bits : (a b : ℕ) → (a < guest_registers) × (b < guest_registers) → InBits guest.store 0 a b 0
store_bits a b g = (lit< tt, lit< tt, guest_bits a g.0, guest_bits b g.1, lit< tt)

goif_bits : (a b c : ℕ) → a < guest_registers → b < guest_registers → c ≤ top_condition → InBits guest.goif 0 a b c
goif_bits a b c ha hb hc = (lit< tt, lit< tt, guest_bits a ha, guest_bits b hb, condition_bits c hc)

gox_bits : (d a b c : ℕ) → (d < guest_registers) × (a < guest_registers) × (b < guest_registers) × (c ≤ top_condition) → InBits guest.gox d a b c
gox_bits d a b c g = (lit< tt, guest_bits d g.0, guest_bits a g.1, guest_bits b g.2, condition_bits c g.3)

event_bits : InBits guest.event 0 0 0 0
event_bits = (lit< tt, lit< tt, lit< tt, lit< tt, lit< tt)

-- an instruction that is valid among n + 1 bundles has a word that is taken among n instructions
pub guest_taken : (n : ℕ) → n ≤ most_instructions → (i : Instr) → Valid (n + 1) i → refusal_at n (guest_word i) ≡ 0
guest_taken n m HALT g = pack_judged n guest.halt 0 0 0 0 0 halt_bits (lit≤ tt, (lit≤ tt, lit≤ tt, lit≤ tt, lit≤ tt, lit≤ tt), λ e. omega arith)
guest_taken n m (PLAIN k d a b v) g =
    pack_judged n k d a b 0 v (plain_bits k d a b g.1 g.2 g.3 g.4) (plain_within_limits n k d a b v g.1 g.2 g.3 g.4 g.5 g.6 g.7 g.8)
guest_taken n m (LOAD d a) g =
    pack_judged n guest.load d a 0 0 0 (load_bits d a g) (lit≤ tt, (at_most d g.0, at_most a g.1, lit≤ tt, lit≤ tt, lit≤ tt), λ e. omega arith)
guest_taken n m (STORE a b) g =
    pack_judged n guest.store 0 a b 0 0 (store_bits a b g) (lit≤ tt, (lit≤ tt, at_most a g.0, at_most b g.1, lit≤ tt, lit≤ tt), λ e. omega arith)
guest_taken n m (GOIF a b c v) g =
    pack_judged n guest.goif 0 a b c v (goif_bits a b c g.0 g.1 g.2) (lit≤ tt, (lit≤ tt, at_most a g.0, at_most b g.1, g.2, omega arith), λ e. omega arith)
guest_taken n m (GOX d a b c) g =
    pack_judged n guest.gox d a b c 0 (gox_bits d a b c g) (lit≤ tt, (at_most d g.0, at_most a g.1, at_most b g.2, g.3, lit≤ tt), λ e. omega arith)
guest_taken n m (EVENT v) g =
    pack_judged n guest.event 0 0 0 0 v event_bits (lit≤ tt, (lit≤ tt, lit≤ tt, lit≤ tt, lit≤ tt, omega arith), λ e. omega arith)

-- the instruction of a kind and fields; it is that of the word which has them
abbrev pub instr_at : ℕ → ℕ → ℕ → ℕ → ℕ → ℕ → Instr
instr_at k d a b c v =
    cond (eqb k guest.halt) HALT
    (cond (ltb k guest.load) (PLAIN k d a b v)
    (cond (eqb k guest.load) (LOAD d a)
    (cond (eqb k guest.store) (STORE a b) (cond (eqb k guest.goif) (GOIF a b c v) (cond (eqb k guest.gox) (GOX d a b c) (EVENT v))))))

module _ (w k d a b c v : ℕ) (ek : k ≡ kind_of w) (ed : d ≡ d_of w) (ea : a ≡ a_of w) (eb : b ≡ b_of w) (ec : c ≡ c_of w) (ev : v ≡ v_of w) where
  pub fields_are : fields k d a b c v ≡ fields_of w
  fields_are i = record { kind = ek i; d = ed i; a = ea i; b = eb i; c = ec i; v = ev i }

  instr_at_lem : instr_at k d a b c v ≡ instr_of w
  unfolding instr_of
  instr_at_lem = rw (ek, ed, ea, eb, ec, ev)

  pub instr_is : (j : ℕ) → k ≡ j → (i : Instr) → i ≡ instr_at j d a b c v → i ≡ instr_of w
  instr_is j ej i ei = ei ∙ rw (← ej) instr_at_lem

  pub instr_plain : (k ≡ guest.halt → ⊥) → k < guest.load → PLAIN k d a b v ≡ instr_of w
  instr_plain some l = rw (← instr_at_lem, ne_eqb k guest.halt some, lt-ltb k guest.load l)

  pub instr_event : guest.load ≤ k → (k ≡ guest.halt → ⊥) → (k ≡ guest.load → ⊥) → (k ≡ guest.store → ⊥) → (k ≡ guest.goif → ⊥) → (k ≡ guest.gox → ⊥) → EVENT v ≡ instr_of w
  instr_event l h m s g x =
      rw (← instr_at_lem, ne_eqb k guest.halt h, le-ltb k guest.load l, ne_eqb k guest.load m, ne_eqb k guest.store s, ne_eqb k guest.goif g, ne_eqb k guest.gox x)

pack_instr : (k d a b c v : ℕ) → InBits k d a b c → instr_of (pack_of k d a b c v) ≡ instr_at k d a b c v
unfolding instr_of
pack_instr k d a b c v h =
    rw (pack_kind k d a b c v h, pack_d k d a b c v h, pack_a k d a b c v h, pack_b k d a b c v h, pack_c k d a b c v h, pack_v k d a b c v h)

pub guest_instr : (n : ℕ) (i : Instr) → Valid n i → instr_of (guest_word i) ≡ i
guest_instr n HALT g = pack_instr guest.halt 0 0 0 0 0 halt_bits
guest_instr n (PLAIN k d a b v) g =
    pack_instr k d a b 0 v (plain_bits k d a b g.1 g.2 g.3 g.4) ∙ rw (ne_eqb k guest.halt (omega arith), lt-ltb k guest.load (omega arith))
guest_instr n (LOAD d a) g = pack_instr guest.load d a 0 0 0 (load_bits d a g)
guest_instr n (STORE a b) g = pack_instr guest.store 0 a b 0 0 (store_bits a b g)
guest_instr n (GOIF a b c v) g = pack_instr guest.goif 0 a b c v (goif_bits a b c g.0 g.1 g.2)
guest_instr n (GOX d a b c) g = pack_instr guest.gox d a b c 0 (gox_bits d a b c g)
guest_instr n (EVENT v) g = pack_instr guest.event 0 0 0 0 v event_bits
