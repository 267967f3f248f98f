-- Two's complement: SAR divides and rounds down, and 'less' is the order of the integers.
use Prim.Native.Nat.{ℕ, zero, suc, ◌+◌, ◌-◌, ◌*◌, ◌/◌, ◌%◌, ◌^◌, ◌<◌, ◌≤◌}
use mathlib.Core.Path.{◌≡◌, refl, sym, ap, ◌∙◌}
use mathlib.Core.Bool.{Bool, true, false}
use native.Mathlib.Omega.{arith}
use native.Mathlib.Nat.{div-mul-le_self, lt-div-mul-add, div-le_self, mod-eq_of_lt, add-mod_right}
use lib.IntN.{ℤ, pos, negsuc, neg_ℤ, suc_ℤ, ◌*ℤ◌}
use lib.Signed.{shr_z, ◌≤ℤ◌, ◌<ℤ◌}
use lib.Dec.{ltb, le→leb, lt→ltb}
use lib.Pow.{pow_pos}
use borrow.Author.Tests.{ltb-true, ltb-false, lt-ltb, le-ltb}
use Rattle.spec.specs.Signed.{twos, bits_of, sar_of, less_of}
use Rattle.spec.specs.Claims.{SignLaws, Signs}

-- 32 bits stand for a number that is not negative, or for −(n + 1)
data Sign (x : ℕ) : Type 0 where
  none : x < 2 ^ 31 → twos x ≡ pos x → Sign x
  minus : (n : ℕ) → n < 2 ^ 31 → x ≡ 2 ^ 32 - suc n → twos x ≡ negsuc n → Sign x

sign : (x : ℕ) → x < 2 ^ 32 → Sign x
sign x h = go (ltb x (2 ^ 31)) refl
  where
    go : (t : Bool) → ltb x (2 ^ 31) ≡ t → Sign x
    go true e = none (ltb-true _ _ e) (rw e)
    go false e = let k : 2 ^ 31 ≤ x = ltb-false _ _ e in minus (2 ^ 32 - suc x) (omega arith) (omega arith) (rw e)

-- the integer −(q + 1), times m
negated : (q m : ℕ) → (negsuc q *ℤ pos (suc m)) ≡ negsuc (q * suc m + m)
negated q m = let e : suc q * suc m ≡ suc (q * suc m + m) = omega arith in ap (λ (k : ℕ). neg_ℤ (pos k)) e

-- −(n + 1) is at least −(q + 1) times m, and below −q times m
from_below : (q m n : ℕ) → 0 < m → n < q * m + m → (negsuc q *ℤ pos m) ≤ℤ negsuc n
from_below q zero n p h = absurd (omega arith)
from_below q (suc m) n p h = rw (negated q m) (record { le = le→leb n (q * suc m + m) (omega arith) })

below_next : (q m n : ℕ) → 0 < m → q * m ≤ n → negsuc n <ℤ (suc_ℤ (negsuc q) *ℤ pos m)
below_next zero m n p h = record { lt = tt }
below_next (suc q) zero n p h = absurd (omega arith)
below_next (suc q) (suc m) n p h = rw (negated q m) (record { lt = lt→ltb (q * suc m + m) n (omega arith) })

-- the bits of −(n + 1) stand for that number
back : (n : ℕ) → n < 2 ^ 31 → twos (2 ^ 32 - suc n) ≡ negsuc n
back n h = let e : 2 ^ 32 - suc (2 ^ 32 - suc n) ≡ n = omega arith in rw (le-ltb (2 ^ 32 - suc n) (2 ^ 31) (omega arith), e)

half : (x : ℕ) → x < 2 ^ 31 → (x + 2 ^ 31) % 2 ^ 32 ≡ x + 2 ^ 31
half x h = mod-eq_of_lt (omega arith)

turned : (n : ℕ) → n < 2 ^ 31 → (2 ^ 32 - suc n + 2 ^ 31) % 2 ^ 32 ≡ 2 ^ 31 - suc n
turned n h =
    let e : 2 ^ 32 - suc n + 2 ^ 31 ≡ 2 ^ 31 - suc n + 2 ^ 32 = omega arith in
    ap (λ (k : ℕ). k % 2 ^ 32) e ∙ add-mod_right (2 ^ 31 - suc n) (2 ^ 32) ∙ mod-eq_of_lt (omega arith)

-- two tests with the same result
same_test : (a b c d : ℕ) → (a < b → c < d) → (c < d → a < b) → ltb a b ≡ ltb c d
same_test a b c d f g = go (ltb a b) refl
  where
    go : (t : Bool) → ltb a b ≡ t → ltb a b ≡ ltb c d
    go true e = e ∙ sym (lt-ltb c d (f (ltb-true a b e)))
    go false e = let n : c < d → ⊥ = λ h. let k : b ≤ a = ltb-false a b e in omega (arith, g h) in e ∙ sym (le-ltb c d (omega arith))

less : (x y : ℕ) → Sign x → Sign y → less_of x y ≡ ltb ((x + 2 ^ 31) % 2 ^ 32) ((y + 2 ^ 31) % 2 ^ 32)
less x y (none h e) (none k f) = rw (e, f, half x h, half y k) (same_test x y (x + 2 ^ 31) (y + 2 ^ 31) (λ p. omega arith) (λ p. omega arith))
less x y (none h e) (minus n k i f) = rw (e, f, i, half x h, turned n k) (sym (le-ltb (x + 2 ^ 31) (2 ^ 31 - suc n) (omega arith)))
less x y (minus n k i f) (none h e) = rw (f, e, i, half y h, turned n k) (sym (lt-ltb (2 ^ 31 - suc n) (y + 2 ^ 31) (omega arith)))
less x y (minus n k i f) (minus m l j g) =
    rw (f, g, i, j, turned n k, turned m l) (same_test m n (2 ^ 31 - suc n) (2 ^ 31 - suc m) (λ p. omega arith) (λ p. omega arith))

of_sign : (x y v : ℕ) → Sign x → Sign y → SignLaws x y v
of_sign x y v (none h e) s =
    let q : x / 2 ^ v < 2 ^ 31 = omega (arith, div-le_self x (2 ^ v)) in
    let b : sar_of x v ≡ x / 2 ^ v = ap (λ (z : ℤ). bits_of (shr_z z (2 ^ v))) e in
    let t : twos (sar_of x v) ≡ pos (x / 2 ^ v) = ap twos b ∙ rw (lt-ltb (x / 2 ^ v) (2 ^ 31) q) in
    record {
      fits = rw b (omega arith);
      down = rw (t, e) (record { le = le→leb _ _ (div-mul-le_self x (2 ^ v)) });
      most = rw (t, e) (record { lt = lt→ltb x (suc (x / 2 ^ v) * 2 ^ v) (omega (arith, lt-div-mul-add {a = x} (pow_pos v))) });
      less = less x y (none h e) s;
    }
of_sign x y v (minus n h i e) s =
    let q : n / 2 ^ v < 2 ^ 31 = omega (arith, div-le_self n (2 ^ v)) in
    let b : sar_of x v ≡ 2 ^ 32 - suc (n / 2 ^ v) = ap (λ (z : ℤ). bits_of (shr_z z (2 ^ v))) e in
    let t : twos (sar_of x v) ≡ negsuc (n / 2 ^ v) = ap twos b ∙ back (n / 2 ^ v) q in
    record {
      fits = rw b (omega arith);
      down = rw (t, e) (from_below (n / 2 ^ v) (2 ^ v) n (pow_pos v) (lt-div-mul-add (pow_pos v)));
      most = rw (t, e) (below_next (n / 2 ^ v) (2 ^ v) n (pow_pos v) (div-mul-le_self n (2 ^ v)));
      less = less x y (minus n h i e) s;
    }

pub signs : Signs
signs x y v f g = of_sign x y v (sign x f) (sign y g)
