-- Laws of sets of bits, and of tests, counts and lists over the numbers below n.
use Prim.Native.Nat.{ℕ, zero, suc, ◌+◌, ◌-◌, ◌*◌, ◌/◌, ◌%◌, ◌^◌, ◌<◌, ◌≤◌, max}
use mathlib.Core.Path.{◌≡◌, refl, sym, ap, ap₂, ◌∙◌}
use mathlib.Core.Bool.{Bool, true, false, ◌&&◌, ◌||◌, cond, and_assoc, and-true}
use mathlib.Core.List.{List, [], ◌∷◌, ◌++◌}
use mathlib.Core.Logic.{⊎_elim}
use native.Mathlib.Nat.{mod-lt, mod-eq_of_lt, lt_of_lt_of_le, pow-suc}
use native.Mathlib.Omega.{arith}
use lib.Bits.{bit_or, or_block, or_shr, or_step, or_zero_r}
use lib.Count.{ones, ones_cat}
use lib.Dec.{eqb, ltb}
use lib.ListN.{length, get_or, drop, set, length-append, get_or-append}
use lib.Pow.{pow-add, pow_pos, pow-lt, pow_mono, high, low, split, mod-mod-pow, shl-shr, field}
use lib.Seq.{get_or_at, set_at, drop-cons, append_snoc}
use borrow.Author.Tests.{eqb-true, eqb-false, ne_eqb, ltb-true, ltb-false}
use Rattle.spec.proofs.Bools.{both, either, no, or_left, or_right}
use Rattle.policy_spec.specs.maps.Maps.{every, some, count, map_where, bit, build}

-- ---- every and some

pub every_at : (p : ℕ → Bool) (n i : ℕ) → every p n ≡ true → i < n → p i ≡ true
unfolding every
every_at p zero i e h = absurd (omega arith)
every_at p (suc n) i e h = go (eqb i n) refl (λ k. every_at p n i f.0 k)
  where
    f : (every p n ≡ true) × (p n ≡ true)
    f = both (every p n) (p n) e

    go : (b : Bool) → eqb i n ≡ b → (i < n → p i ≡ true) → p i ≡ true
    go true g k = ap p (eqb-true i n g) ∙ f.1
    go false g k = k (omega (arith, eqb-false i n g))

pub every_all : (p : ℕ → Bool) (n : ℕ) → ((i : ℕ) → i < n → p i ≡ true) → every p n ≡ true
unfolding every
every_all p zero f = refl
every_all p (suc n) f = rw (every_all p n (λ i h. f i (omega arith)), f n (omega arith))

pub every_none : (p : ℕ → Bool) → every p 0 ≡ true
unfolding every
every_none p = refl

pub every_first : (p : ℕ → Bool) (n : ℕ) → every p (suc n) ≡ (p 0 && every (λ j. p (suc j)) n)
unfolding every
every_first p zero = sym (and-true (p 0))
every_first p (suc n) = ap (λ (b : Bool). b && p (suc n)) (every_first p n) ∙ and_assoc (p 0) (every (λ j. p (suc j)) n) (p (suc n))

pub some_at : (p : ℕ → Bool) (n i : ℕ) → i < n → p i ≡ true → some p n ≡ true
unfolding some
some_at p zero i h e = absurd (omega arith)
some_at p (suc n) i h e = go (eqb i n) refl (λ k. some_at p n i k e)
  where
    go : (b : Bool) → eqb i n ≡ b → (i < n → some p n ≡ true) → (some p n || p n) ≡ true
    go true g k = or_right (some p n) (p n) (ap p (sym (eqb-true i n g)) ∙ e)
    go false g k = or_left (some p n) (p n) (k (omega (arith, eqb-false i n g)))

pub record Witness (p : ℕ → Bool) (n : ℕ) : Type 0 where
  pub at : ℕ
  pub below : at < n
  pub passes : p at ≡ true

pub some_find : (p : ℕ → Bool) (n : ℕ) → some p n ≡ true → Witness p n
unfolding some
some_find p zero e = no e
some_find p (suc n) e =
    ⊎_elim
    (λ g. let f = some_find p n g in record { at = f.at; below = omega (arith, f.below); passes = f.passes })
    (λ g. record { at = n; below = omega arith; passes = g })
    (either (some p n) (p n) e)

-- ---- counts

pub count_mono : (p : ℕ → Bool) (d n : ℕ) → count p n ≤ count p (n + d)
unfolding count
count_mono p zero n = let e : n + 0 ≡ n = omega arith in rw e (omega arith)
count_mono p (suc d) n = let e : n + suc d ≡ suc (n + d) = omega arith in rw e (omega (arith, count_mono p d n))

-- a number that passes is counted
pub count_less : (p : ℕ → Bool) (n i : ℕ) → i < n → p i ≡ true → count p i < count p n
unfolding count
count_less p n i h t =
    let e : suc i + (n - suc i) ≡ n = omega arith in
    let g : count p (suc i) ≡ count p i + 1 = rw t in
    let k : count p (suc i) ≤ count p n = rw e at (count_mono p (n - suc i) (suc i)) in
    omega arith

-- at most n numbers below n pass
pub count_le : (p : ℕ → Bool) (n : ℕ) → count p n ≤ n
unfolding count
count_le p zero = omega arith
count_le p (suc n) = go (p n) (count_le p n)
  where
    go : (b : Bool) → count p n ≤ n → count p n + cond b 1 0 ≤ suc n
    go true h = omega arith
    go false h = omega arith

pub count_sub : (p q : ℕ → Bool) (n : ℕ) → ((i : ℕ) → p i ≡ true → q i ≡ true) → count p n ≤ count q n
unfolding count
count_sub p q zero f = omega arith
count_sub p q (suc n) f = go (p n) (q n) refl refl (count_sub p q n f)
  where
    go : (a b : Bool) → p n ≡ a → q n ≡ b → count p n ≤ count q n → count p n + cond a 1 0 ≤ count q n + cond b 1 0
    go true true x y h = omega arith
    go true false x y h = no (sym y ∙ f n x)
    go false true x y h = omega arith
    go false false x y h = omega arith

pub count_sub_less : (p q : ℕ → Bool) (n k : ℕ) → ((i : ℕ) → p i ≡ true → q i ≡ true) → k < n → p k ≡ false → q k ≡ true → count p n < count q n
unfolding count
count_sub_less p q zero k f h x y = absurd (omega arith)
count_sub_less p q (suc n) k f h x y = go (eqb k n) refl (p n) (q n) refl refl (count_sub p q n f) (λ l. count_sub_less p q n k f l x y)
  where
    go : (c : Bool) → eqb k n ≡ c → (a b : Bool) → p n ≡ a → q n ≡ b → count p n ≤ count q n → (k < n → count p n < count q n) → count p n + cond a 1 0 < count q n + cond b 1 0
    go true t true b u v l r = no (sym x ∙ ap p (eqb-true k n t) ∙ u)
    go true t false true u v l r = omega arith
    go true t false false u v l r = no (sym v ∙ ap q (sym (eqb-true k n t)) ∙ y)
    go false t true true u v l r = omega (arith, r (omega (arith, eqb-false k n t)))
    go false t true false u v l r = no (sym v ∙ f n u)
    go false t false true u v l r = omega (arith, r (omega (arith, eqb-false k n t)))
    go false t false false u v l r = omega (arith, r (omega (arith, eqb-false k n t)))

-- ---- maps

map_step : (p : ℕ → Bool) (n : ℕ) (b : Bool) → map_where p n < 2 ^ n → map_where p n + cond b (2 ^ n) 0 < 2 ^ suc n
map_step p n true h = omega (arith, pow-suc 2 n)
map_step p n false h = omega (arith, pow-suc 2 n)

pub map_lt : (p : ℕ → Bool) (n : ℕ) → map_where p n < 2 ^ n
unfolding map_where
map_lt p zero = omega arith
map_lt p (suc n) = map_step p n (p n) (map_lt p n)

abbrev bit_of_lem : Bool → ℕ
bit_of_lem b = cond b 1 0

-- a set is its top bit and the rest
top : (p : ℕ → Bool) (n : ℕ) → map_where p (suc n) ≡ bit_of_lem (p n) * 2 ^ n + map_where p n
unfolding map_where
top p n = go (p n)
  where
    go : (b : Bool) → map_where p n + cond b (2 ^ n) 0 ≡ bit_of_lem b * 2 ^ n + map_where p n
    go true = omega arith
    go false = omega arith

or_bits : (a b : Bool) → bit_or (bit_of_lem a) (bit_of_lem b) ≡ bit_of_lem (a || b)
or_bits true true = refl
or_bits true false = refl
or_bits false true = refl
or_bits false false = refl

pub map_or : (p q : ℕ → Bool) (n : ℕ) → bit_or (map_where p n) (map_where q n) ≡ map_where (λ x. p x || q x) n
unfolding map_where
map_or p q zero = refl
map_or p q (suc n) =
    ap₂ bit_or (top p n) (top q n)
    ∙ or_block n (bit_of_lem (p n)) (bit_of_lem (q n)) (map_where p n) (map_where q n) (map_lt p n) (map_lt q n)
    ∙ ap₂ (λ (x y : ℕ). x * 2 ^ n + y) (or_bits (p n) (q n)) (map_or p q n)
    ∙ sym (top (λ x. p x || q x) n)

pub map_none : (e n : ℕ) → n ≤ e → map_where (eqb e) n ≡ 0
unfolding map_where
map_none e zero h = refl
map_none e (suc n) h = rw (ne_eqb e n (λ g. omega arith), map_none e n (omega arith))

pub map_one : (e n : ℕ) → e < n → map_where (eqb e) n ≡ 2 ^ e
unfolding map_where
map_one e zero h = absurd (omega arith)
map_one e (suc n) h = go (eqb e n) refl (λ k. map_one e n k)
  where
    go : (b : Bool) → eqb e n ≡ b → (e < n → map_where (eqb e) n ≡ 2 ^ e) → map_where (eqb e) n + cond b (2 ^ n) 0 ≡ 2 ^ e
    go true g k =
        let z : map_where (eqb e) n ≡ 0 = map_none e n (omega (arith, eqb-true e n g)) in
        let t : 2 ^ n ≡ 2 ^ e = ap (λ (x : ℕ). 2 ^ x) (sym (eqb-true e n g)) in
        omega arith
    go false g k = omega (arith, k (omega (arith, eqb-false e n g)))

pub map_ones : (p : ℕ → Bool) (n : ℕ) → ones (map_where p n) ≡ count p n
unfolding map_where count ones
map_ones p zero = refl
map_ones p (suc n) = ap ones (top p n) ∙ ones_cat n (bit_of_lem (p n)) (map_where p n) (map_lt p n) ∙ go (p n) (map_ones p n)
  where
    go : (b : Bool) → ones (map_where p n) ≡ count p n → ones (bit_of_lem b) + ones (map_where p n) ≡ count p n + cond b 1 0
    go true e = omega (arith, e)
    go false e = omega (arith, e)

-- the low bits of a set are the set of the low numbers
pub map_low : (p : ℕ → Bool) (d n : ℕ) → map_where p (n + d) % 2 ^ n ≡ map_where p n
map_low p zero n = let e : n + 0 ≡ n = omega arith in rw e (mod-eq_of_lt (map_lt p n))
map_low p (suc d) n =
    let e : n + suc d ≡ suc (n + d) = omega arith in
    let s : n + d ≡ d + n = omega arith in
    let m = map_where p (suc (n + d)) in
    let l : m % 2 ^ (n + d) ≡ map_where p (n + d) = ap (λ (x : ℕ). x % 2 ^ (n + d)) (top p (n + d)) ∙ low (bit_of_lem (p (n + d))) (n + d) (map_lt p (n + d)) in
    rw e (sym (mod-mod-pow m d n) ∙ ap (λ (x : ℕ). m % 2 ^ x % 2 ^ n) (sym s) ∙ ap (λ (x : ℕ). x % 2 ^ n) l ∙ map_low p d n)

-- ---- bits

pub bit_or_lem : (a b k : ℕ) → bit (bit_or a b) k ≡ (bit a k || bit b k)
unfolding bit
bit_or_lem a b k =
    ap (λ (x : ℕ). eqb (x % 2) 1) (or_shr a b k)
    ∙ go (a / 2 ^ k) (b / 2 ^ k)
  where
    digits : (x y : ℕ) → x < 2 → y < 2 → eqb (max x y) 1 ≡ (eqb x 1 || eqb y 1)
    digits zero zero h k = refl
    digits zero (suc zero) h k = refl
    digits (suc zero) zero h k = refl
    digits (suc zero) (suc zero) h k = refl
    digits zero (suc (suc y)) h k = absurd (omega arith)
    digits (suc zero) (suc (suc y)) h k = absurd (omega arith)
    digits (suc (suc x)) y h k = absurd (omega arith)

    go : (x y : ℕ) → eqb (bit_or x y % 2) 1 ≡ (eqb (x % 2) 1 || eqb (y % 2) 1)
    go x y =
        let m = max (x % 2) (y % 2) in
        let e : bit_or x y % 2 ≡ m = omega (arith, or_step x y) in
        ap (λ (z : ℕ). eqb z 1) e ∙ digits (x % 2) (y % 2) (omega arith) (omega arith)

pub bit_same : (k : ℕ) → bit (2 ^ k) k ≡ true
unfolding bit
bit_same k = let e : 2 ^ k / 2 ^ k ≡ 1 = ap (λ (x : ℕ). x / 2 ^ k) o ∙ shl-shr 1 k in rw e
  where
    o : 2 ^ k ≡ 1 * 2 ^ k
    o = omega arith

pub bit_zero : (k : ℕ) → bit 0 k ≡ false
unfolding bit
bit_zero k = let e : 0 / 2 ^ k ≡ 0 = ap (λ (x : ℕ). x / 2 ^ k) o ∙ shl-shr 0 k in rw e
  where
    o : 0 ≡ 0 * 2 ^ k
    o = omega arith

pub bit_other : (j k : ℕ) → (j ≡ k → ⊥) → bit (2 ^ j) k ≡ false
unfolding bit
bit_other j k ne = go (ltb j k) refl
  where
    go : (b : Bool) → ltb j k ≡ b → eqb (2 ^ j / 2 ^ k % 2) 1 ≡ false
    go true g =
        let z : 0 * 2 ^ k + 2 ^ j ≡ 2 ^ j = omega arith in
        let e : 2 ^ j / 2 ^ k ≡ 0 = rw z at (high 0 k {lo = 2 ^ j} (pow-lt (ltb-true j k g))) in
        rw e
    go false g =
        let d = j - suc k in
        let s : suc d + k ≡ j = omega (arith, ltb-false j k g) in
        let q : 2 ^ j ≡ 2 ^ suc d * 2 ^ k = ap (λ (x : ℕ). 2 ^ x) (sym s) ∙ pow-add 2 (suc d) k in
        let e : 2 ^ j / 2 ^ k ≡ 2 ^ suc d = ap (λ (x : ℕ). x / 2 ^ k) q ∙ shl-shr (2 ^ suc d) k in
        let r : 2 ^ suc d % 2 ≡ 0 = omega (arith, pow-suc 2 d) in
        rw (e, r)

-- bit e of the set says whether e passes
pub bit_map : (p : ℕ → Bool) (n e : ℕ) → e < n → bit (map_where p n) e ≡ p e
unfolding bit
bit_map p n e h =
    let s : suc e + (n - suc e) ≡ n = omega arith in
    let q : 1 + e ≡ suc e = omega arith in
    let l : map_where p n % 2 ^ suc e ≡ map_where p (suc e) = rw s at (map_low p (n - suc e) (suc e)) in
    let f : map_where p n / 2 ^ e % 2 ^ 1 ≡ bit_of_lem (p e) = sym (field (map_where p n) 1 e) ∙ ap (λ (x : ℕ). map_where p n % 2 ^ x / 2 ^ e) q
    ∙ ap (λ (x : ℕ). x / 2 ^ e) (l ∙ top p e) ∙ high (bit_of_lem (p e)) e (map_lt p e) in
    ap (λ (x : ℕ). eqb x 1) f ∙ go (p e)
  where
    go : (b : Bool) → eqb (bit_of_lem b) 1 ≡ b
    go true = refl
    go false = refl

-- a number of n bits has no bit above them
pub bit_high : (m n k : ℕ) → m < 2 ^ n → n ≤ k → bit m k ≡ false
unfolding bit
bit_high m n k h l =
    let b : m < 2 ^ k = lt_of_lt_of_le h (pow_mono {i = n} {j = k} l) in
    let z : 0 * 2 ^ k + m ≡ m = omega arith in
    let e : m / 2 ^ k ≡ 0 = rw z at (high 0 k {lo = m} b) in
    rw e

-- setting a bit that is set changes nothing
pub bit_kept : (s k : ℕ) → bit s k ≡ true → bit_or s (2 ^ k) ≡ s
unfolding bit
bit_kept s k t =
    let q = s / 2 ^ k in
    let r = s % 2 ^ k in
    let o : q % 2 ≡ 1 = eqb-true (q % 2) 1 t in
    let w : q * 2 ^ k + r ≡ s = split s k in
    let u : 1 * 2 ^ k + 0 ≡ 2 ^ k = omega arith in
    let b : bit_or q 1 ≡ q = odd q o in
    ap₂ bit_or (sym w) (sym u)
    ∙ or_block k q 1 r 0 (mod-lt s (pow_pos k)) (pow_pos k)
    ∙ ap₂ (λ (x y : ℕ). x * 2 ^ k + y) b (or_zero_r r)
    ∙ w
  where
    odd : (q : ℕ) → q % 2 ≡ 1 → bit_or q 1 ≡ q
    odd q o =
        let z : bit_or (q / 2) 0 ≡ q / 2 = or_zero_r (q / 2) in
        or_step q 1 ∙ ap₂ (λ (x y : ℕ). x * 2 + y) z (ap (λ (x : ℕ). max x 1) o) ∙ omega arith

-- ---- lists

pub length_build : (f : ℕ → ℕ) (n : ℕ) → length (build f n) ≡ n
unfolding build
length_build f zero = refl
length_build f (suc n) = omega (arith, length-append (build f n) (f n ∷ []), length_build f n)

pub build_at : (f : ℕ → ℕ) (n i d : ℕ) → i < n → get_or (build f n) i d ≡ f i
unfolding build
build_at f zero i d h = absurd (omega arith)
build_at f (suc n) i d h = go (eqb i n) refl (λ k. build_at f n i d k)
  where
    go : (b : Bool) → eqb i n ≡ b → (i < n → get_or (build f n) i d ≡ f i) → get_or (build f n ++ (f n ∷ [])) i d ≡ f i
    go true g k = let e = eqb-true i n g in rw e (get_or_at (build f n) (f n) [] d n (length_build f n))
    go false g k =
        let h₁ : i < n = omega (arith, eqb-false i n g) in
        get_or-append (build f n) (f n ∷ []) d i (omega (arith, length_build f n)) ∙ k h₁

-- one more entry, written over the old one
pub build_more : (f : ℕ → ℕ) (t : List ℕ) (i : ℕ) → i < length t → set (build f i ++ drop i t) i (f i) ≡ build f (i + 1) ++ drop (i + 1) t
unfolding build
build_more f t i h =
    let n : i + 1 ≡ suc i = omega arith in
    rw (n, drop-cons t i 0 h) (set_at (build f i) (get_or t i 0) (drop (suc i) t) (f i) i (length_build f i) ∙ sym (append_snoc (build f i) (f i) (drop (suc i) t)))
