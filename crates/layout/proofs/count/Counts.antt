-- Laws of the count of bundles and of the base.
use Rattle.std.proofs.Common.{◌≡◌, ℕ, ◌+◌, ◌-◌, ◌*◌, ◌/◌, ◌%◌, ◌≤◌, ◌<◌, ◌^◌, max, ap, ◌∙◌, arith, mod-eq_of_lt, lt_of_not-le, pow_mono, pow-add, sym}
use Rattle.std.proofs.lemmas.Nat.{and_mask}
use Rattle.std.specs.Int.{IsPowerOfTwo}
use Rattle.std.specs.Int.Bits.{bit_and}
use Rattle.std.specs.Int.Count.{ones, count_leading_zeros, count_trailing_zeros, leading_unique}
use Rattle.types.specs.Names.{bundle_length}
use Rattle.spec.specs.Words.{bundles_for}
use Rattle.spec.proofs.Masks.{one_bit}

-- n has at most 32 bits
pub next_power : (n p : ℕ) → n < 2 ^ 32 → IsPowerOfTwo p → n + 1 ≤ p → p / 2 < max 1 (n + 1) → p ≡ bundles_for n
unfolding bundles_for
next_power n p h (k, e) low high =
    let few : k < 33 = lt_of_not-le (λ (g : 33 ≤ k). omega (arith, e, pow_mono g)) in
    let r : 32 - k ≡ count_leading_zeros 32 n = leading_unique 32 n (32 - k) k (omega arith) (omega (arith, e)) (omega (arith, e)) in
    let s : k ≡ 32 - count_leading_zeros 32 n = omega arith in
    e ∙ ap (λ (y : ℕ). 2 ^ y) s

-- the remainder of a base below n is the base
pub below : (base n : ℕ) → base < n → base % (bundle_length * n) ≡ base
below base n h = mod-eq_of_lt (omega arith)

-- for a power of two, the remainder by 4n is what the bits below 4n keep
pub masked : (base n : ℕ) → n < 2 ^ 64 → ones n ≡ 1 → bit_and base (bundle_length * n - 1) ≡ base % (bundle_length * n)
masked base n h o =
    let k = count_trailing_zeros 64 n in
    let e : bundle_length * n ≡ 2 ^ (2 + k) = omega (arith, one_bit 64 n h o, pow-add 2 2 k) in
    ap (λ (y : ℕ). bit_and base (y - 1)) e ∙ and_mask base (2 + k) ∙ ap (λ (y : ℕ). base % y) (sym e)
