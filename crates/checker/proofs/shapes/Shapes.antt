-- Laws of the shapes that begin with a guest's command: the tested word is that of the instruction that was read off.
use mathlib.Core.Path.{◌≡◌, refl, sym, ◌∙◌, ap, subst}
use mathlib.Core.Bool.{Bool, true, ◌&&◌}
use Prim.Native.Nat.{ℕ, ◌+◌, ◌-◌, ◌^◌, ◌≤◌, ◌<◌}
use native.Mathlib.Omega.{arith}
use lib.Dec.{ltb, eqb}
use borrow.Author.Tests.{lt-ltb, le-leb, eqb-true, eq-eqb}
use Rattle.types.specs.declared.Layout.{Layout}
use Rattle.types.specs.declared.Fields.{Fields}
use Rattle.types.specs.declared.Instr.{Instr}
use Rattle.types.specs.declared.Instr.TheVariants.{PLAIN, GOIF}
use Rattle.types.specs.Names.{guest_registers, top_condition, guest, command, plain_step}
use Rattle.spec.specs.Words.{kind_of, d_of, a_of, b_of, c_of, v_of, zero_of, fields_of, pack_fields}
use Rattle.spec.specs.Commands.{limits_of, is_command, word_of}
use Rattle.spec.specs.Bundles.{address_of, shape_of, valid, is_bundle}
use Rattle.spec.proofs.Bools.{both}
use Rattle.spec.proofs.Tables.{all, raised}
use Rattle.spec.proofs.Facts.{Valid}
use Rattle.spec.proofs.Conditions.{valid_is}
use Rattle.spec.proofs.Packing.{InBits}
use Rattle.spec.proofs.WordLaws.{bits_pack, pack_fields_lem}
use Rattle.words.specs.Guests.{only_guest_registers}
use Rattle.words.proofs.Laws.{Within, command_in, command_from, bool_ext}
use Rattle.checker.specs.single.Single.{bundle_index, is_bundle_address}

-- ---- a command on guest registers, and a word packed from its fields

guests_in : (w : ℕ) → only_guest_registers w ≡ true → (ltb (d_of w) guest_registers ≡ true) × (ltb (a_of w) guest_registers ≡ true) × (ltb (b_of w) guest_registers ≡ true)
guests_in w t =
    let b = both (ltb (d_of w) guest_registers && ltb (a_of w) guest_registers) (ltb (b_of w) guest_registers) t in
    let a = both (ltb (d_of w) guest_registers) (ltb (a_of w) guest_registers) b.0 in
    (a.0, a.1, b.1)

read_back : (w : ℕ) (f : Fields) → InBits f.kind f.d f.a f.b f.c → eqb w (pack_fields f) ≡ true → (fields_of w ≡ f) × (zero_of w ≡ 0)
read_back w f h t =
    let e : w ≡ pack_fields f = eqb-true _ _ t in
    let b = bits_pack f h in
    (ap fields_of e ∙ b.0, ap zero_of e ∙ b.1)

-- ---- GOIF

module _ (l : Layout) (n w : ℕ) (fits : w < 2 ^ 64) (k : kind_of w ≡ command.goif) where
  abbrev g : ℕ
  g = bundle_index l (v_of w)

  abbrev goif : Instr
  goif = GOIF (a_of w) (b_of w) (c_of w) g

  abbrev goif_fields : Fields
  goif_fields = record { kind = command.goif; d = 0; a = a_of w; b = b_of w; c = c_of w; v = address_of l g }

  goif_in : (is_command w && only_guest_registers w && is_bundle_address l n (v_of w)) ≡ true → (valid n goif && eqb w (pack_fields goif_fields)) ≡ true
  unfolding valid
  goif_in t =
      let t₁ = both (is_command w && only_guest_registers w) (is_bundle_address l n (v_of w)) t in
      let t₀ = both (is_command w) (only_guest_registers w) t₁.0 in
      let i : Within (limits_of command.goif) w = subst (λ (j : ℕ). Within (limits_of j) w) k (command_in w t₀.0) in
      let r = guests_in w t₀.1 in
      let at = both (eqb (v_of w) (address_of l g)) (ltb g n) t₁.1 in
      let ev : v_of w ≡ address_of l g = eqb-true _ _ at.0 in
      let ed : d_of w ≡ 0 = omega (arith, i.d) in
      let ew : w ≡ pack_fields goif_fields = sym (rw (k, ed, ev) at (pack_fields_lem w i.zero)) in
      simp (r.1, r.2, le-leb (c_of w) top_condition i.c, at.1, eq-eqb w (pack_fields goif_fields) ew)

  goif_out : (valid n goif && eqb w (pack_fields goif_fields)) ≡ true → (is_command w && only_guest_registers w && is_bundle_address l n (v_of w)) ≡ true
  goif_out t =
      let t₀ = both (valid n goif) (eqb w (pack_fields goif_fields)) t in
      let h : Valid n goif = valid_is n goif t₀.0 in
      let back = read_back w goif_fields (omega arith, omega arith, omega arith, omega arith, omega arith) t₀.1 in
      let ed : d_of w ≡ 0 = ap (λ (f : Fields). f.d) back.0 in
      let ev : v_of w ≡ address_of l g = ap (λ (f : Fields). f.v) back.0 in
      let i : Within (limits_of command.goif) w =
      record { kind = omega arith; zero = back.1; d = omega arith; a = omega arith; b = omega arith; c = h.2; v = omega arith } in
      let c : is_command w ≡ true = command_from w (subst (λ (j : ℕ). Within (limits_of j) w) (sym k) i) in
      simp (c, lt-ltb (d_of w) guest_registers (omega arith), lt-ltb (a_of w) guest_registers h.0, lt-ltb (b_of w) guest_registers h.1, eq-eqb (v_of w) (address_of l g) ev, lt-ltb g n h.3)

  pub goif_is : (x y z : ℕ) → (is_command w && only_guest_registers w && is_bundle_address l n (v_of w) && eqb x 0 && eqb y 0 && eqb z 0) ≡ is_bundle l n goif w x y z
  unfolding is_bundle shape_of word_of
  goif_is x y z =
      ap (λ (t : Bool). t && eqb x 0 && eqb y 0 && eqb z 0)
      (bool_ext (is_command w && only_guest_registers w && is_bundle_address l n (v_of w)) (valid n goif && eqb w (pack_fields goif_fields)) goif_in goif_out)

-- ---- the plain kinds

no_condition : (k c : ℕ) → k ≤ command.sar → c ≤ (limits_of k).c → c ≤ 0
unfolding all
no_condition k c hi l = raised (λ k. (limits_of k).c) (λ _. 0) command.andi refl k c (omega arith) l

module _ (n w : ℕ) (lo : command.set ≤ kind_of w) (hi : kind_of w ≤ command.sar) where
  abbrev pub plain_instr : Instr
  plain_instr = PLAIN (kind_of w - plain_step) (d_of w) (a_of w) (b_of w) (v_of w)

  abbrev plain_fields : Fields
  plain_fields = record { kind = kind_of w - plain_step + plain_step; d = d_of w; a = a_of w; b = b_of w; c = 0; v = v_of w }

  next : kind_of w - plain_step + plain_step ≡ kind_of w
  next = omega arith

  plain_in : (is_command w && only_guest_registers w) ≡ true → (valid n plain_instr && eqb w (pack_fields plain_fields)) ≡ true
  unfolding valid
  plain_in t =
      let t₀ = both (is_command w) (only_guest_registers w) t in
      let i₀ : Within (limits_of (kind_of w)) w = command_in w t₀.0 in
      let i : Within (limits_of (kind_of w - plain_step + plain_step)) w = subst (λ (j : ℕ). Within (limits_of j) w) (sym next) i₀ in
      let r = guests_in w t₀.1 in
      let none = no_condition (kind_of w) (c_of w) hi i₀.c in
      let ec : c_of w ≡ 0 = omega arith in
      let ew : w ≡ pack_fields plain_fields = rw next (sym (rw ec at (pack_fields_lem w i₀.zero))) in
      simp (
        le-leb guest.set (kind_of w - plain_step) (omega arith),
        le-leb (kind_of w - plain_step) guest.sar (omega arith),
        r.0,
        r.1,
        r.2,
        le-leb _ _ i.d,
        le-leb _ _ i.a,
        le-leb _ _ i.b,
        le-leb _ _ i.v,
        eq-eqb w (pack_fields plain_fields) ew,
      )

  plain_out : (valid n plain_instr && eqb w (pack_fields plain_fields)) ≡ true → (is_command w && only_guest_registers w) ≡ true
  plain_out t =
      let t₀ = both (valid n plain_instr) (eqb w (pack_fields plain_fields)) t in
      let h : Valid n plain_instr = valid_is n plain_instr t₀.0 in
      let back = read_back w plain_fields (omega arith, omega arith, omega arith, omega arith, omega arith) t₀.1 in
      let ec : c_of w ≡ 0 = ap (λ (f : Fields). f.c) back.0 in
      let i : Within (limits_of (kind_of w - plain_step + plain_step)) w =
      record { kind = omega arith; zero = back.1; d = h.5; a = h.6; b = h.7; c = omega arith; v = h.8 } in
      let c : is_command w ≡ true = command_from w (subst (λ (j : ℕ). Within (limits_of j) w) next i) in
      simp (c, lt-ltb _ _ h.2, lt-ltb _ _ h.3, lt-ltb _ _ h.4)

  pub plain_is : (l : Layout) (x y z : ℕ) → (is_command w && only_guest_registers w && eqb x 0 && eqb y 0 && eqb z 0) ≡ is_bundle l n plain_instr w x y z
  unfolding is_bundle shape_of word_of
  plain_is l x y z =
      ap (λ (t : Bool). t && eqb x 0 && eqb y 0 && eqb z 0)
      (bool_ext (is_command w && only_guest_registers w) (valid n plain_instr && eqb w (pack_fields plain_fields)) plain_in plain_out)
