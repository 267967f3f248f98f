-- The size of an instruction by counting its map's bits.
use Rattle.std.proofs.Common.{◌≡◌, ℕ, zero, suc, ◌+◌, ◌*◌, ◌/◌, ◌%◌, ◌^◌, ◌<◌, refl, ap, ◌∙◌, arith}
use Rattle.std.specs.Prelude.{bit_and, count_ones}
use Rattle.std.specs.Int.Count.{ones}
use Rattle.std.proofs.lemmas.Nat.{and_mask, ones_cat}
use Rattle.spec.specs.Bytes.{size_of}

-- the lowest bit, and the others
ones_bit : (b : ℕ) → b < 2 → count_ones b ≡ b
unfolding ones
ones_bit zero h = refl
ones_bit (suc zero) h = refl
ones_bit (suc (suc b)) h = absurd (omega arith)

ones_step : (n : ℕ) → count_ones n ≡ count_ones (n / 2) + n % 2
ones_step n =
    let whole : n ≡ n / 2 * 2 ^ 1 + n % 2 = omega arith in
    let small : n % 2 < 2 = omega arith in
    ap count_ones whole ∙ ones_cat 1 (n / 2) (n % 2) small ∙ rw (ones_bit (n % 2) small)

five_bits : (n : ℕ) → n < 32 → count_ones n ≡ n % 2 + n / 2 % 2 + n / 2 / 2 % 2 + n / 2 / 2 / 2 % 2 + n / 2 / 2 / 2 / 2 % 2
five_bits n h =
    let last : n / 2 / 2 / 2 / 2 < 2 = omega arith in
    let top = ones_bit (n / 2 / 2 / 2 / 2) last in
    omega (arith, ones_step n, ones_step (n / 2), ones_step (n / 2 / 2), ones_step (n / 2 / 2 / 2))

pub counted_size : (m : ℕ) → 1 + count_ones (bit_and m 31) + 4 * (m / 32) ≡ size_of m
counted_size m =
    let low : bit_and m 31 ≡ m % 32 = and_mask m 5 in
    rw low (let k = five_bits (m % 32) (omega arith) in omega arith)
