-- Testing four bytes at once: what the test says about one byte, and that the other bytes do not change it.
use Prim.Native.Nat.{ℕ, zero, suc, ◌+◌, ◌-◌, ◌*◌, ◌/◌, ◌%◌, ◌^◌, ◌<◌, ◌≤◌}
use mathlib.Core.Path.{◌≡◌, refl, sym, ap, ap₂, ◌∙◌}
use mathlib.Core.Bool.{Bool, true, false, not, ◌&&◌, ◌||◌}
use mathlib.Core.List.{List, [], ◌∷◌}
use native.Mathlib.Nat.{mod-lt, mod-eq_of_lt}
use native.Mathlib.Omega.{arith}
use lib.Bits.{bit_and, bit_or, and_block, or_block, and_lt, or_lt, and_shr, or_shr, and_le_l, and_le_r, and_mask, and_high, and_zero_r, or_add_and}
use lib.Dec.{eqb, leb, ltb, lit<, lit≤}
use lib.ListN.{length, get_or, take, drop}
use lib.Seq.{drop-cons}
use Rattle.std.specs.Simd.{first_chunks}
use Rattle.std.specs.Int.{from_le_bytes, w32}
use Rattle.words.proofs.Chunks.{chunk_element}
use lib.Pow.{split}
use borrow.Author.Tests.{eqb-true, eqb-false, ltb-true, ltb-false, leb-true, le-leb, eq-eqb, ne_eqb, not-true, not-false}
use Rattle.types.specs.Names.{most_states, no_arrow}
use Rattle.spec.specs.Policies.{entry_right, entries_right, states_right}
use Rattle.installer.specs.table_words.Words.{low_bytes, word_bytes, word_right}
use Rattle.spec.proofs.Bools.{both}

-- ---- state counts

-- whether a state count is from 1 to 16
pub fit : (s : ℕ) (r : Bool) → r ≡ states_right s → not r ≡ false → (1 ≤ s) × (s ≤ most_states)
fit s r e h =
    let b = both (leb 1 s) (leb s most_states) (sym e ∙ not-false r h) in
    (leb-true 1 s b.0, leb-true s most_states b.1)

pub states_wrong : (s w : ℕ) (r : Bool) → r ≡ states_right s → not r ≡ true → false ≡ word_right s w
unfolding word_right
states_wrong s w r e h = rw (← e, not-true r h)

pub word_entries : (s w : ℕ) → 1 ≤ s → s ≤ most_states → word_right s w ≡ entries_right s (low_bytes word_bytes w)
unfolding word_right
word_entries s w some most = rw (le-leb 1 s some, le-leb s most_states most)

-- ---- `tops`: d is added to the low bits m of a number, joined with the number by `&` or `|`, and the top bits t are kept

abbrev tops : (ℕ → ℕ → ℕ) → ℕ → ℕ → ℕ → ℕ → ℕ
tops op m d t w = bit_and (op (bit_and w m + d) w) t

record Bitwise (op : ℕ → ℕ → ℕ) : Type 0 where
  block : (k a b r s : ℕ) → r < 2 ^ k → s < 2 ^ k → op (a * 2 ^ k + r) (b * 2 ^ k + s) ≡ op a b * 2 ^ k + op r s
  below : (k a b : ℕ) → a < 2 ^ k → b < 2 ^ k → op a b < 2 ^ k
  shr : (a b k : ℕ) → op a b / 2 ^ k ≡ op (a / 2 ^ k) (b / 2 ^ k)

ands : Bitwise bit_and
ands = record { block = and_block; below = and_lt; shr = and_shr }

ors : Bitwise bit_or
ors = record { block = or_block; below = or_lt; shr = or_shr }

module _ {op : ℕ → ℕ → ℕ} (laws : Bitwise op) (x : ℕ) (small : x ≤ 128) where
  -- the lowest byte does not affect those above it: its sum has eight bits
  apart : (m d t w : ℕ) → tops op (m * 256 + 127) (d * 256 + x) (t * 256 + 128) w ≡ tops op m d t (w / 256) * 256 + tops op 127 x 128 (w % 256)
  apart m d t w =
      let a = w / 256 in
      let r = w % 256 in
      let e : a * 256 + r ≡ w = split w 8 in
      let l : r < 256 = mod-lt w (lit< tt) in
      let sum : bit_and r 127 + x < 256 = omega (arith, and_le_r r 127) in
      let low : bit_and w (m * 256 + 127) ≡ bit_and a m * 256 + bit_and r 127 = ap (λ (v : ℕ). bit_and v (m * 256 + 127)) (sym e) ∙ and_block 8 a m r 127 l (lit< tt) in
      let added : bit_and w (m * 256 + 127) + (d * 256 + x) ≡ (bit_and a m + d) * 256 + (bit_and r 127 + x) = omega (arith, low) in
      let joined : op (bit_and w (m * 256 + 127) + (d * 256 + x)) w ≡ op (bit_and a m + d) a * 256 + op (bit_and r 127 + x) r =
      ap₂ op added (sym e) ∙ laws.block 8 (bit_and a m + d) a (bit_and r 127 + x) r sum l in
      ap (λ (v : ℕ). bit_and v (t * 256 + 128)) joined
      ∙ and_block 8 (op (bit_and a m + d) a) t (op (bit_and r 127 + x) r) 128 (laws.below 8 _ _ sum l) (lit< tt)

  -- one byte's top bit
  one_top : (b : ℕ) → b < 256 → tops op 127 x 128 b ≡ op ((b % 128 + x) / 128) (b / 128) * 128
  one_top b l =
      let y = op (b % 128 + x) b in
      let byte : y < 256 = laws.below 8 (b % 128 + x) b (omega arith) l in
      let bit : y / 128 < 2 = omega arith in
      ap (λ (v : ℕ). bit_and (op (v + x) b) 128) (and_mask b 7) ∙ and_high y 1 7
      ∙ ap (λ (v : ℕ). v * 128) (mod-eq_of_lt bit ∙ laws.shr (b % 128 + x) b 7)

-- ---- one byte: S or above, and 255

module _ (s b : ℕ) (some : 1 ≤ s) (most : s ≤ most_states) (l : b < 256) where
  abbrev above : ℕ
  above = (b % 128 + (128 - s)) / 128

  abbrev last : ℕ
  last = (b % 128 + 1) / 128

  abbrev half : ℕ
  half = b / 128

  by_bits : (m n : Bool) → ltb b s ≡ m → eqb b no_arrow ≡ n → eqb (bit_or above half * 128) (bit_and last half * 128) ≡ (m || n)
  by_bits true n e f =
      let h = ltb-true b s e in
      let p : above ≡ 0 = omega arith in
      let q : half ≡ 0 = omega arith in
      let z : last ≡ 0 = omega arith in
      rw (p, q, z)
  by_bits false true e f =
      let h = eqb-true b no_arrow f in
      let p : above ≡ 1 = omega arith in
      let q : half ≡ 1 = omega arith in
      let z : last ≡ 1 = omega arith in
      rw (p, q, z)
  by_bits false false e f =
      let h = ltb-false b s e in
      let g = eqb-false b no_arrow f in
      let p : 1 ≤ above + half = omega arith in
      let z : last + half ≤ 1 = omega arith in
      ne_eqb (bit_or above half * 128) (bit_and last half * 128) (λ k. omega (arith, or_add_and above half, and_le_l above half, and_le_r above half, and_le_l last half, and_le_r last half))

  one_byte : eqb (tops bit_or 127 (128 - s) 128 b) (tops bit_and 127 1 128 b) ≡ entry_right s b
  one_byte = ap₂ eqb (one_top ors (128 - s) (omega arith) b l) (one_top ands 1 (lit≤ tt) b l) ∙ by_bits (ltb b s) (eqb b no_arrow) refl refl

-- ---- all bytes

-- the same number in each of n bytes
abbrev pub fill : ℕ → ℕ → ℕ
fill x zero = 0
fill x (suc n) = fill x n * 256 + x

pair : (a b x y : ℕ) → x < 256 → y < 256 → eqb (a * 256 + x) (b * 256 + y) ≡ (eqb x y && eqb a b)
pair a b x y h k = by (eqb x y) (eqb a b) refl refl
  where
    by : (m n : Bool) → eqb x y ≡ m → eqb a b ≡ n → eqb (a * 256 + x) (b * 256 + y) ≡ (m && n)
    by true true e f = eq-eqb (a * 256 + x) (b * 256 + y) (omega (arith, eqb-true x y e, eqb-true a b f))
    by true false e f = ne_eqb (a * 256 + x) (b * 256 + y) (λ g. eqb-false a b f (omega (arith, eqb-true x y e)))
    by false n e f = ne_eqb (a * 256 + x) (b * 256 + y) (λ g. eqb-false x y e (omega arith))

-- the top bits of the bytes that are no state, where x is 128 − S, and of those that are 255
abbrev over : ℕ → ℕ → ℕ → ℕ
over n x w = tops bit_or (fill 127 n) (fill x n) (fill 128 n) w

abbrev full : ℕ → ℕ → ℕ
full n w = tops bit_and (fill 127 n) (fill 1 n) (fill 128 n) w

module _ (s : ℕ) (some : 1 ≤ s) (most : s ≤ most_states) where
  each : (n w : ℕ) → eqb (over n (128 - s) w) (full n w) ≡ entries_right s (low_bytes n w)
  each zero w = ap₂ eqb (and_zero_r (bit_or (bit_and w 0 + 0) w)) (and_zero_r (bit_and (bit_and w 0 + 0) w))
  each (suc n) w =
      let b = w % 256 in
      let x = 128 - s in
      let high = w / 256 in
      ap₂ eqb (apart ors x (omega arith) (fill 127 n) (fill x n) (fill 128 n) w) (apart ands 1 (lit≤ tt) (fill 127 n) (fill 1 n) (fill 128 n) w)
      ∙ pair (over n x high) (full n high) (tops bit_or 127 x 128 b) (tops bit_and 127 1 128 b) (omega (arith, and_le_r (bit_or (bit_and b 127 + x) b) 128))
      (omega (arith, and_le_r (bit_and (bit_and b 127 + 1) b) 128))
      ∙ ap₂ ◌&&◌ (one_byte s b some most (mod-lt w (lit< tt))) (each n high)

  -- the test of a word with these four constants
  pub together : (w m t d o : ℕ) → d ≡ fill (128 - s) word_bytes → m ≡ fill 127 word_bytes → t ≡ fill 128 word_bytes → o ≡ fill 1 word_bytes
      → eqb (tops bit_or m d t w) (tops bit_and m o t w) ≡ word_right s w
  together w m t d o ed em et eo = rw (em, et, ed, eo) (each word_bytes w ∙ sym (word_entries s w some most))

-- ---- the word of four bytes

bytes_word : (a b c d : ℕ) → a < 256 → b < 256 → c < 256 → d < 256 → low_bytes word_bytes (a + b * 2 ^ 8 + c * 2 ^ 16 + d * 2 ^ 24) ≡ a ∷ b ∷ c ∷ d ∷ []
bytes_word a b c d ha hb hc hd =
    let w = a + b * 2 ^ 8 + c * 2 ^ 16 + d * 2 ^ 24 in
    let q₁ : w / 256 ≡ b + c * 256 + d * 65536 = omega arith in
    let q₂ : (b + c * 256 + d * 65536) / 256 ≡ c + d * 256 = omega arith in
    let q₃ : (c + d * 256) / 256 ≡ d = omega arith in
    let r₀ : w % 256 ≡ a = omega arith in
    let r₁ : (b + c * 256 + d * 65536) % 256 ≡ b = omega arith in
    let r₂ : (c + d * 256) % 256 ≡ c = omega arith in
    let r₃ : d % 256 ≡ d = omega arith in
    rw (r₀, q₁, r₁, q₂, r₂, q₃, r₃)

four : (t : List ℕ) (i : ℕ) → i + word_bytes ≤ length t → take word_bytes (drop i t) ≡ get_or t i 0 ∷ get_or t (i + 1) 0 ∷ get_or t (i + 2) 0 ∷ get_or t (i + 3) 0 ∷ []
four t i h =
    let e₁ : i + 1 ≡ suc i = omega arith in
    let e₂ : i + 2 ≡ suc (suc i) = omega arith in
    let e₃ : i + 3 ≡ suc (suc (suc i)) = omega arith in
    rw (e₁, e₂, e₃, drop-cons t i 0 (omega arith), drop-cons t (suc i) 0 (omega arith), drop-cons t (suc (suc i)) 0 (omega arith), drop-cons t (suc (suc (suc i))) 0 (omega arith))

pub word_of : (t : List ℕ) (i a b c d : ℕ) → i + word_bytes ≤ length t → (a ≡ get_or t i 0) × (a < 256) → (b ≡ get_or t (i + 1) 0) × (b < 256)
    → (c ≡ get_or t (i + 2) 0) × (c < 256) → (d ≡ get_or t (i + 3) 0) × (d < 256)
    → low_bytes word_bytes (a + (b * 2 ^ 8) % 2 ^ 32 + (c * 2 ^ 16) % 2 ^ 32 + (d * 2 ^ 24) % 2 ^ 32) ≡ take word_bytes (drop i t)
word_of t i a b c d h ea eb ec ed =
    let wb : (b * 2 ^ 8) % 2 ^ 32 ≡ b * 2 ^ 8 = omega arith in
    let wc : (c * 2 ^ 16) % 2 ^ 32 ≡ c * 2 ^ 16 = omega arith in
    let wd : (d * 2 ^ 24) % 2 ^ 32 ≡ d * 2 ^ 24 = omega arith in
    rw (wb, wc, wd) (bytes_word a b c d ea.1 eb.1 ec.1 ed.1 ∙ rw (ea.0, eb.0, ec.0, ed.0) (sym (four t i h)))

-- the word of the four bytes of chunk i
pub chunk_word : (t : List ℕ) (k i : ℕ) (bs : List (List ℕ)) → bs ≡ first_chunks word_bytes k t → i < k → word_bytes * k ≤ length t → ((j : ℕ) → get_or t j 0 < 256)
    → (w : ℕ) → w ≡ from_le_bytes w32 (get_or bs i []) → low_bytes word_bytes w ≡ take word_bytes (drop (word_bytes * i) t)
chunk_word t k i bs eb h l small w e =
    let at : ℕ = word_bytes * i in
    let byte : (j : ℕ) → j < word_bytes → get_or (get_or bs i []) j 0 ≡ get_or t (at + j) 0 = λ j m. rw eb (chunk_element word_bytes k t i j [] 0 h m) in
    let z : at + 0 ≡ at = omega arith in
    rw (e, byte 0 (omega arith), z, byte 1 (omega arith), byte 2 (omega arith), byte 3 (omega arith))
    (bytes_word (get_or t at 0) (get_or t (at + 1) 0) (get_or t (at + 2) 0) (get_or t (at + 3) 0) (small at) (small (at + 1)) (small (at + 2)) (small (at + 3)) ∙ sym (four t at (omega arith)))
