-- A register field names the hidden register if its four bits are 1: one AND tests all three fields. Assumes nothing.
use Prim.Native.Nat.{ℕ, ◌+◌, ◌/◌, ◌%◌, ◌^◌, ◌<◌}
use mathlib.Core.Path.{◌≡◌, refl, sym, ◌∙◌, ap}
use mathlib.Core.Bool.{Bool, true, false, ◌&&◌}
use native.Mathlib.Omega.{arith}
use borrow.Author.Tests.{eqb-true, eqb-false, eq-eqb, ne_eqb}
use lib.Dec.{eqb, ltb}
use native.Mathlib.Nat.{add_comm}
use lib.Pow.{shr-shr}
use lib.Bits.{bit_and, and_mask, and_mod, and_shr, and_zero_r}
use Rattle.types.specs.Names.{guest_registers}
use Rattle.spec.specs.Words.{kind_of, d_of, a_of, b_of, c_of, zero_of, v_of}
use Rattle.words.specs.fields.Guests.{only_guest_registers}
use Rattle.spec.proofs.Tables.{all, each}
use Rattle.words.proofs.fields.Masks.{field, all_zero}

-- the AND of a field's four bits
unfoldable four : ℕ → ℕ
four x = bit_and (bit_and (x % 2 ^ 1) (x / 2 % 2 ^ 1)) (bit_and (x / 4 % 2 ^ 1) (x / 8 % 2 ^ 1))

-- whether two truth values are equal
unfoldable same : Bool → Bool → Bool
same true b = b
same false true = false
same false false = true

same_is : (a b : Bool) → same a b ≡ true → a ≡ b
unfolding same
same_is true b h = sym h
same_is false false h = refl
same_is false true h = h

four_is : (x : ℕ) → x < 16 → eqb (four x) 0 ≡ ltb x guest_registers
unfolding all four same
four_is x h = same_is _ _ (each (λ (x : ℕ). same (eqb (four x) 0) (ltb x guest_registers)) x 16 refl h)

-- two bits at a time, then two of those: at bit k, the AND of the four bits from k on
module _ (w : ℕ) where
  abbrev pairs : ℕ
  pairs = bit_and w (w / 2 ^ 1)

  abbrev fours : ℕ
  fours = bit_and pairs (pairs / 2 ^ 2)

  corner : (k q : ℕ) → w / 2 ^ k % 2 ^ 1 ≡ q % 2 ^ 1 → w / 2 ^ 1 / 2 ^ k % 2 ^ 1 ≡ q / 2 % 2 ^ 1 → w / 2 ^ 2 / 2 ^ k % 2 ^ 1 ≡ q / 4 % 2 ^ 1
      → w / 2 ^ 1 / 2 ^ 2 / 2 ^ k % 2 ^ 1 ≡ q / 8 % 2 ^ 1 → fours / 2 ^ k % 2 ^ 1 ≡ four q
  unfolding four
  corner k q e0 e1 e2 e3 =
      field 1 k pairs (pairs / 2 ^ 2)
      ∙ rw (field 1 k w (w / 2 ^ 1), and_shr w (w / 2 ^ 1) 2, field 1 k (w / 2 ^ 2) (w / 2 ^ 1 / 2 ^ 2), e0, e1, e2, e3)

  -- the lowest bit of each register field
  abbrev lowest : ℕ
  lowest = 2 ^ 8 + 2 ^ 12 + 2 ^ 16

  abbrev masked : ℕ
  masked = bit_and fours lowest

  -- a masked register field is the AND of the field's bits
  at_four : (k : ℕ) → lowest / 2 ^ k % 2 ^ 4 ≡ 1 → masked / 2 ^ k % 2 ^ 4 ≡ four (w / 2 ^ k % 2 ^ 4)
  at_four k e =
      field 4 k fours lowest
      ∙ rw e (and_mask (fours / 2 ^ k % 2 ^ 4) 1 ∙ first (fours / 2 ^ k)
      ∙ corner k (w / 2 ^ k % 2 ^ 4) (sym (first (w / 2 ^ k))) (moved 1 ∙ second (w / 2 ^ k)) (moved 2
      ∙ third (w / 2 ^ k)) (rw (shr-shr w 1 2) (moved 3 ∙ fourth (w / 2 ^ k))))
    where
      first : (x : ℕ) → x % 2 ^ 4 % 2 ^ 1 ≡ x % 2 ^ 1
      first x = omega arith

      second : (x : ℕ) → x / 2 ^ 1 % 2 ^ 1 ≡ x % 2 ^ 4 / 2 % 2 ^ 1
      second x = omega arith

      third : (x : ℕ) → x / 2 ^ 2 % 2 ^ 1 ≡ x % 2 ^ 4 / 4 % 2 ^ 1
      third x = omega arith

      fourth : (x : ℕ) → x / 2 ^ 3 % 2 ^ 1 ≡ x % 2 ^ 4 / 8 % 2 ^ 1
      fourth x = omega arith

      moved : (j : ℕ) → w / 2 ^ j / 2 ^ k % 2 ^ 1 ≡ w / 2 ^ k / 2 ^ j % 2 ^ 1
      moved j = ap (λ (x : ℕ). x % 2 ^ 1) (shr-shr w j k ∙ ap (λ (i : ℕ). w / 2 ^ i) (add_comm j k) ∙ sym (shr-shr w k j))

  none_hidden : four (d_of w) ≡ 0 → four (a_of w) ≡ 0 → four (b_of w) ≡ 0 → masked ≡ 0
  none_hidden hd ha hb =
      all_zero masked (and_mod fours lowest 8 ∙ and_zero_r (kind_of fours)) (at_four 8 refl ∙ hd) (at_four 12 refl ∙ ha) (at_four 16 refl ∙ hb)
      (field 4 20 fours lowest ∙ and_zero_r (c_of fours)) (field 8 24 fours lowest ∙ and_zero_r (zero_of fours)) (and_shr fours lowest 32 ∙ and_zero_r (v_of fours))

  pub guests_are : eqb masked 0 ≡ only_guest_registers w
  guests_are =
      go (eqb (four (d_of w)) 0) (eqb (four (a_of w)) 0) (eqb (four (b_of w)) 0) refl refl refl
      ∙ rw (four_is (d_of w) (omega arith), four_is (a_of w) (omega arith), four_is (b_of w) (omega arith))
    where
      go : (d a b : Bool) → eqb (four (d_of w)) 0 ≡ d → eqb (four (a_of w)) 0 ≡ a → eqb (four (b_of w)) 0 ≡ b
          → eqb masked 0 ≡ (eqb (four (d_of w)) 0 && eqb (four (a_of w)) 0 && eqb (four (b_of w)) 0)
      go true true true ed ea eb = rw (ed, ea, eb) (eq-eqb masked 0 (none_hidden (eqb-true _ _ ed) (eqb-true _ _ ea) (eqb-true _ _ eb)))
      go false a b ed ea eb = rw ed (ne_eqb masked 0 (λ z. eqb-false _ _ ed (sym (at_four 8 refl) ∙ ap d_of z)))
      go true false b ed ea eb = rw (ed, ea) (ne_eqb masked 0 (λ z. eqb-false _ _ ea (sym (at_four 12 refl) ∙ ap a_of z)))
      go true true false ed ea eb = rw (ed, ea, eb) (ne_eqb masked 0 (λ z. eqb-false _ _ eb (sym (at_four 16 refl) ∙ ap b_of z)))
