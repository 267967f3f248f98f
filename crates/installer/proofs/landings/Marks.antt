-- The list of landings, entry by entry: whether it rises, and the cells that hold its bits.
use Prim.Native.Nat.{ℕ, zero, suc, ◌+◌, ◌*◌, ◌/◌, ◌%◌, ◌^◌, ◌<◌, ◌≤◌, max}
use mathlib.Core.Path.{◌≡◌, refl, sym, ap, ap₂, ◌∙◌, subst}
use mathlib.Core.Bool.{Bool, true, false, ◌&&◌, ◌||◌, cond, or-true, or-false, or_assoc}
use mathlib.Core.Logic.{◌⊎◌, inl, inr, ⊎_elim}
use mathlib.Core.List.{List, [], ◌∷◌}
use native.Mathlib.Omega.{arith}
use native.Mathlib.Nat.{pow-suc, max-zero}
use lib.Dec.{eqb, leb, ltb}
use Rattle.std.specs.List.{IsAllAdjacentAnswer, list_all}
use lib.Bits.{bit_or, or_step, or_zero_r}
use lib.Pow.{pow_mono, pow_pos}
use lib.ListN.{length, get_or, set, take, length-set, replicate}
use lib.Seq.{take-suc, take_all, ext_get_or, get_or-set_same, get_or-set_other}
use borrow.Author.Tests.{leb-true, le-leb, eqb-true, eqb-false, eq-eqb, ne_eqb, ltb-true, ltb-false}
use Rattle.types.specs.Names.{most_bundles, landing_cells, cell_bits}
use Rattle.spec.specs.Landings.{listed, rising_from, right_landings, bits_from, landings_of}
use Rattle.spec.specs.Guests.{snoc}
use Rattle.spec.proofs.Bools.{both, cases}
use Rattle.spec.proofs.Landings.{length_landings, landings_at}

-- ---- a rising list

-- neighbours of a rising list rise
neighbours : (low : ℕ) (ls : List ℕ) (k : ℕ) → rising_from low ls ≡ true → k + 1 < length ls → get_or ls k 0 < get_or ls (k + 1) 0
neighbours low [] k e h = absurd (omega arith)
neighbours low (x ∷ []) k e h = absurd (omega arith)
neighbours low (x ∷ y ∷ ys) zero e h =
    let r = (both (leb low x && ltb x most_bundles) (rising_from (x + 1) (y ∷ ys)) e).1 in
    let g = leb-true (x + 1) y (both (leb (x + 1) y) (ltb y most_bundles) (both (leb (x + 1) y && ltb y most_bundles) (rising_from (y + 1) ys) r).0).0 in
    omega (arith, g)
neighbours low (x ∷ y ∷ ys) (suc k) e h =
    let n : suc k + 1 ≡ suc (k + 1) = omega arith in
    rw n (neighbours (x + 1) (y ∷ ys) k (both (leb low x && ltb x most_bundles) (rising_from (x + 1) (y ∷ ys)) e).1 (omega arith))

-- a list whose neighbours rise is a rising one if its entries are low enough
rises : (low : ℕ) (ls : List ℕ) → ((k : ℕ) → k + 1 < length ls → get_or ls k 0 < get_or ls (k + 1) 0) → (0 < length ls → low ≤ get_or ls 0 0)
    → list_all (λ x. ltb x most_bundles) ls ≡ rising_from low ls
rises low [] up l = refl
rises low (x ∷ xs) up l =
    rw (
      le-leb low x (l (omega arith)),
      rises (x + 1) xs (λ k h. let n : suc k + 1 ≡ suc (k + 1) = omega arith in rw n at (up (suc k) (omega arith))) (λ h. omega (arith, up 0 (omega arith))),
    )

-- what `is_sorted_by` and `all` answer
module _ (ls : List ℕ) (r : Bool) (s : IsAllAdjacentAnswer (λ x y b. b ≡ ltb x y) ls r) where
  pub all_rise : r ≡ true → (b : Bool) → b ≡ list_all (λ x. ltb x most_bundles) ls → b ≡ right_landings ls
  unfolding right_landings
  all_rise e b eb =
      let a : IsAllAdjacentAnswer (λ x y b. b ≡ ltb x y) ls true = subst (λ (q : Bool). IsAllAdjacentAnswer (λ x y b. b ≡ ltb x y) ls q) e s in
      eb ∙ rises 0 ls (λ k h. ltb-true _ _ (sym (a k 0 h))) (λ _. omega arith)

  pub one_falls : r ≡ false → r ≡ right_landings ls
  unfolding right_landings
  one_falls e =
      let a : IsAllAdjacentAnswer (λ x y b. b ≡ ltb x y) ls false = subst (λ (q : Bool). IsAllAdjacentAnswer (λ x y b. b ≡ ltb x y) ls q) e s in
      e ∙ sym (wrong (rising_from 0 ls) refl a.0 a.1 (a.2 0))
    where
      wrong : (q : Bool) → rising_from 0 ls ≡ q → (k : ℕ) → k + 1 < length ls → false ≡ ltb (get_or ls k 0) (get_or ls (k + 1) 0) → q ≡ false
      wrong true eq k h f = absurd (let u = neighbours 0 ls k eq h in let v = ltb-false _ _ (sym f) in omega arith)
      wrong false eq k h f = refl

-- every entry is below 1,024
each_below : (low : ℕ) (ls : List ℕ) (i : ℕ) → rising_from low ls ≡ true → i < length ls → get_or ls i 0 < most_bundles
each_below low [] i e h = absurd (omega arith)
each_below low (x ∷ xs) zero e h = ltb-true x most_bundles (both (leb low x) _ (both (leb low x && ltb x most_bundles) (rising_from (x + 1) xs) e).0).1
each_below low (x ∷ xs) (suc i) e h = each_below (x + 1) xs i (both (leb low x && ltb x most_bundles) (rising_from (x + 1) xs) e).1 (omega arith)

pub below_most : (ls : List ℕ) (i : ℕ) → right_landings ls ≡ true → i < length ls → get_or ls i 0 < most_bundles
unfolding right_landings
below_most ls i e h = each_below 0 ls i e h

pub one_shifted : (s : ℕ) → s < 32 → 1 * 2 ^ s % 2 ^ 32 ≡ 2 ^ s
one_shifted s l = let g : suc s ≤ 32 = l in omega (arith, pow_mono g, pow-suc 2 s, pow_pos s)

pub marked_in : (cells : List ℕ) (x : ℕ) → x < most_bundles → set cells (x / cell_bits) (bit_or (get_or cells (x / cell_bits) 0) (1 * 2 ^ (x % cell_bits) % 2 ^ 32))
    ≡ set cells (x / cell_bits) (bit_or (get_or cells (x / cell_bits) 0) (2 ^ (x % cell_bits)))
marked_in cells x l = rw (one_shifted (x % cell_bits) (omega arith))

pub no_marks : replicate landing_cells 0 ≡ landings_of []
unfolding landings_of bits_from
no_marks = refl

-- ---- one more bit

listed_snoc : (ls : List ℕ) (x y : ℕ) → listed (snoc ls x) y ≡ (listed ls y || eqb y x)
listed_snoc [] x y = or-false (eqb y x)
listed_snoc (z ∷ ls) x y = ap (λ (b : Bool). eqb y z || b) (listed_snoc ls x y) ∙ sym (or_assoc (eqb y z) (listed ls y) (eqb y x))

listed_other : (ls : List ℕ) (x y : ℕ) → (y ≡ x → ⊥) → listed (snoc ls x) y ≡ listed ls y
listed_other ls x y f = listed_snoc ls x y ∙ ap (λ (b : Bool). listed ls y || b) (ne_eqb y x f) ∙ or-false (listed ls y)

listed_same : (ls : List ℕ) (x y : ℕ) → y ≡ x → listed (snoc ls x) y ≡ true
listed_same ls x y e = listed_snoc ls x y ∙ ap (λ (b : Bool). listed ls y || b) (eq-eqb y x e) ∙ or-true (listed ls y)

bits_other : (ls : List ℕ) (x from n : ℕ) → (x < from) ⊎ (from + n ≤ x) → bits_from (snoc ls x) from n ≡ bits_from ls from n
unfolding bits_from
bits_other ls x from zero o = refl
bits_other ls x from (suc n) o =
    ap₂ (λ (b : Bool) (r : ℕ). cond b 1 0 + 2 * r)
    (listed_other ls x from (λ e. ⊎_elim (λ (h : x < from). omega arith) (λ (h : from + suc n ≤ x). omega arith) o))
    (bits_other ls x (from + 1) n (⊎_elim (λ (h : x < from). inl (omega arith)) (λ (h : from + suc n ≤ x). inr (omega arith)) o))

halved : (b : Bool) (r : ℕ) → (cond b 1 0 + 2 * r) / 2 ≡ r
halved true r = omega arith
halved false r = omega arith

odd : (b : Bool) (r : ℕ) → (cond b 1 0 + 2 * r) % 2 ≡ cond b 1 0
odd true r = omega arith
odd false r = omega arith

or_one : (b : Bool) (r : ℕ) → bit_or (cond b 1 0 + 2 * r) (2 ^ 0) ≡ 1 + 2 * r
or_one b r =
    or_step (cond b 1 0 + 2 * r) 1
    ∙ ap₂ (λ (x y : ℕ). bit_or x 0 * 2 + max y 1) (halved b r) (odd b r)
    ∙ ap₂ (λ (x y : ℕ). x * 2 + y) (or_zero_r r) (top b) ∙ omega arith
  where
    top : (b : Bool) → max (cond b 1 0) 1 ≡ 1
    top true = refl
    top false = refl

or_higher : (b : Bool) (r j : ℕ) → bit_or (cond b 1 0 + 2 * r) (2 ^ suc j) ≡ cond b 1 0 + 2 * bit_or r (2 ^ j)
or_higher b r j =
    let h : 2 ^ suc j / 2 ≡ 2 ^ j = omega (arith, pow-suc 2 j) in
    let o : 2 ^ suc j % 2 ≡ 0 = omega (arith, pow-suc 2 j) in
    or_step (cond b 1 0 + 2 * r) (2 ^ suc j)
    ∙ ap₂ (λ (x y : ℕ). bit_or x y * 2 + max ((cond b 1 0 + 2 * r) % 2) (2 ^ suc j % 2)) (halved b r) h
    ∙ ap₂ (λ (x y : ℕ). bit_or r (2 ^ j) * 2 + max x y) (odd b r) o
    ∙ ap (λ (x : ℕ). bit_or r (2 ^ j) * 2 + x) (max-zero (cond b 1 0)) ∙ omega arith

bits_more : (ls : List ℕ) (from n j : ℕ) → j < n → bit_or (bits_from ls from n) (2 ^ j) ≡ bits_from (snoc ls (from + j)) from n
unfolding bits_from
bits_more ls from zero j l = absurd (omega arith)
bits_more ls from (suc n) zero l =
    or_one (listed ls from) (bits_from ls (from + 1) n)
    ∙ ap₂ (λ (b : Bool) (r : ℕ). cond b 1 0 + 2 * r) (sym (listed_same ls (from + 0) from (omega arith))) (sym (bits_other ls (from + 0) (from + 1) n (inl (omega arith))))
bits_more ls from (suc n) (suc j) l =
    let z : from + 1 + j ≡ from + suc j = omega arith in
    or_higher (listed ls from) (bits_from ls (from + 1) n) j
    ∙ ap₂ (λ (b : Bool) (r : ℕ). cond b 1 0 + 2 * r) (sym (listed_other ls (from + suc j) from (λ e. omega arith)))
    (bits_more ls (from + 1) n j (omega arith) ∙ ap (λ (x : ℕ). bits_from (snoc ls x) (from + 1) n) z)

-- ---- one more landing

marks_more : (ls : List ℕ) (x : ℕ) → x < most_bundles → set (landings_of ls) (x / cell_bits) (bit_or (get_or (landings_of ls) (x / cell_bits) 0) (2 ^ (x % cell_bits))) ≡ landings_of (snoc ls x)
marks_more ls x l =
    let k = x / cell_bits in
    let lk : k < landing_cells = omega arith in
    let v = bit_or (get_or (landings_of ls) k 0) (2 ^ (x % cell_bits)) in
    let at : cell_bits * k + x % cell_bits ≡ x = omega arith in
    ext_get_or 0 (set (landings_of ls) k v) (landings_of (snoc ls x)) (length-set (landings_of ls) k v ∙ length_landings ls ∙ sym (length_landings (snoc ls x)))
    (λ i h.
    let li : i < landing_cells = omega (arith, length-set (landings_of ls) k v, length_landings ls) in
    ⊎_elim
    (λ q.
    let e = eqb-true i k q in
    rw e (get_or-set_same (landings_of ls) k v 0 (omega (arith, length_landings ls))
    ∙ ap (λ (c : ℕ). bit_or c (2 ^ (x % cell_bits))) (landings_at ls k lk)
    ∙ bits_more ls (cell_bits * k) cell_bits (x % cell_bits) (omega arith)
    ∙ ap (λ (y : ℕ). bits_from (snoc ls y) (cell_bits * k) cell_bits) at
    ∙ sym (landings_at (snoc ls x) k lk)))
    (λ q.
    let f = eqb-false i k q in
    get_or-set_other (landings_of ls) k i v 0 f ∙ landings_at ls i li
    ∙ sym (bits_other ls x (cell_bits * i) cell_bits (paired i f))
    ∙ sym (landings_at (snoc ls x) i li))
    (cases (eqb i k)))
  where
    paired : (i : ℕ) → (i ≡ x / cell_bits → ⊥) → (x < cell_bits * i) ⊎ (cell_bits * i + cell_bits ≤ x)
    paired i f = ⊎_elim (λ q. inl (omega (arith, ltb-true (x / cell_bits) i q))) (λ q. inr (omega (arith, ltb-false (x / cell_bits) i q))) (cases (ltb (x / cell_bits) i))

module _ (ls cells : List ℕ) (i : ℕ) (e : cells ≡ landings_of (take i ls)) where
  pub mark_more : i < length ls → get_or ls i 0 < most_bundles → (cells' : List ℕ)
      → cells' ≡ set cells (get_or ls i 0 / cell_bits) (bit_or (get_or cells (get_or ls i 0 / cell_bits) 0) (2 ^ (get_or ls i 0 % cell_bits)))
      → cells' ≡ landings_of (take (i + 1) ls)
  mark_more h l cells' q =
      let n : i + 1 ≡ suc i = omega arith in
      rw (q, e, n, take-suc ls i 0 h) (marks_more (take i ls) (get_or ls i 0) l)

  pub marked_all : length ls ≤ i → cells ≡ landings_of ls
  marked_all h = e ∙ ap landings_of (take_all i ls h)

  pub marked_long : length cells ≡ landing_cells
  marked_long = ap length e ∙ length_landings (take i ls)
