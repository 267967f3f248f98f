-- Shifts of any size, in the library's words. Assumes nothing.
use Rattle.std.proofs.Common.{◌≡◌, ℕ, ◌+◌, ◌-◌, ◌*◌, ◌/◌, ◌%◌, ◌^◌, ◌<◌, ◌≤◌, min, ℤ, pos, negsuc, refl, ap, sym, ◌∙◌, arith, w32, pow-add, pow_mono, le_of_lt, lt_of_lt_of_le, lt_of_le_of_lt, inl, inr, to_z-of_z}
use Rattle.std.proofs.Math.Nat.{min-eq_left, min-eq_right, div-eq_of_lt}
use Rattle.std.proofs.lemmas.Bool.{cases_lt}
use Rattle.std.specs.Int.{cast_unsigned, cast_signed, int_shr}
use Rattle.std.specs.Int.Signed.{mag_shr}
use Rattle.std.specs.Int.RustNames.{FitsSigned}
use Rattle.types.specs.Names.{cell_bits, top_shift}
use Rattle.spec.specs.Signed.{twos, bits_of, sar_of}
use Rattle.spec.specs.Commands.{shl_of}

-- `twos` is the library's `cast_signed w32` letter for letter; `bits_of` is its `cast_unsigned w32`
bits_is : (z : ℤ) → bits_of z ≡ cast_unsigned w32 z
bits_is (pos n) = refl
bits_is (negsuc n) = refl

-- shifting by 32 or more leaves 0
lost : (x k : ℕ) → x * 2 ^ (k + cell_bits) % 2 ^ cell_bits ≡ 0
lost x k = rw pow-add (omega arith)

pub all_lost : (x v : ℕ) → cell_bits ≤ v → shl_of x v ≡ 0
all_lost x v h = let e : v ≡ v - cell_bits + cell_bits = omega arith in rw e (lost x (v - cell_bits))

none_left : (n v : ℕ) → n < 2 ^ top_shift → n / 2 ^ min v top_shift ≡ n / 2 ^ v
none_left n v h =
    elim (cases_lt v top_shift)
      [ inl l ↦ rw (min-eq_left (le_of_lt l))
      | inr g ↦ rw (min-eq_right g) (div-eq_of_lt h ∙ sym (div-eq_of_lt (lt_of_lt_of_le h (pow_mono g))))
      ]

-- a shift by more than 31 gives the same as a shift by 31: only the sign is left
sign_left : (z : ℤ) (v : ℕ) → FitsSigned w32 z → int_shr z (min v top_shift) ≡ int_shr z v
sign_left (pos n) v f = ap pos (none_left n v f.sfits)
sign_left (negsuc n) v f = ap negsuc (none_left n v f.sfits)

-- the code converts the number to its bits and back on the way, which changes nothing
pub shifted : (x v s : ℕ) (z : ℤ) → FitsSigned w32 z → z ≡ cast_signed w32 x → s ≡ min v top_shift
    → cast_unsigned w32 (cast_signed w32 (cast_unsigned w32 (int_shr (cast_signed w32 (cast_unsigned w32 z)) s))) ≡ sar_of x v
shifted x v s z f e m =
    let g : FitsSigned w32 (int_shr z s) = record { sfits = lt_of_le_of_lt (mag_shr z (2 ^ s)) f.sfits } in
    let k : int_shr z s ≡ int_shr (twos x) v = rw (m, sign_left z v f, e) in
    simp (to_z-of_z {w = w32} f, to_z-of_z {w = w32} g) (sym (bits_is (int_shr z s)) ∙ ap bits_of k)
