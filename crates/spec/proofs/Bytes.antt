-- Laws of reading and writing a routine's bytes.
use mathlib.Core.Path.{◌≡◌, refl, sym, ap, ◌∙◌}
use mathlib.Core.Bool.{not}
use mathlib.Core.List.{List, [], ◌∷◌, ◌++◌}
use Prim.Native.Nat.{ℕ, zero, suc, ◌+◌, ◌*◌, ◌/◌, ◌%◌, ◌≤◌, ◌<◌}
use native.Mathlib.Omega.{arith}
use lib.ListN.{length, get_or, drop, length-append}
use lib.Dec.{ltb, eqb}
use borrow.Author.Tests.{le-ltb, lt-ltb, eq-eqb, ne_eqb, eqb-true, eqb-false, ltb-false}
use Rattle.types.specs.declared.Fields.{Fields}
use Rattle.types.specs.declared.Answer.{Answer}
use Rattle.types.specs.Results.{Decoded}
use Rattle.types.specs.Results.{Word, RefusedWith}
use Rattle.types.specs.declared.Refusal.TheVariants.{Short, Foreign, Oversize, SmallOutput}
use Rattle.types.specs.Names.{most_instructions, number_of, refusal, room_for}
use Rattle.spec.specs.Words.{fields_refusal, word_refusal, first_refused, pack_fields}
use Rattle.spec.specs.Bytes.{bit_of, map_of, size_of, fields_at, decode_fields, decode_map, decode_one, then_answer, scan_of, then_words, words_of, count_of, words_in, read_answer}
use Rattle.spec.specs.Bytes.{byte_out, quad_out, regs_out, fields_out, bytes_of, routine_of, write_answer}
use Rattle.spec.proofs.Bools.{cond_ind}
use Rattle.spec.proofs.Refusals.{TakesEach, takes_each, none_refused, taken_then}

-- ---- one instruction read

pub one_none : (s : List ℕ) → length s ≡ 0 → RefusedWith (number_of Short) ≡ decode_one s
unfolding decode_one
one_none s h = simp (eq-eqb _ _ h)

module _ (s : List ℕ) (m : ℕ) (e : m ≡ get_or s 0 0) (h : (length s ≡ 0 → ⊥)) where
  one_map : decode_map m s ≡ decode_one s
  unfolding decode_one
  one_map = simp (ne_eqb _ _ h, ← e)

  pub one_large : 63 < m → RefusedWith (number_of Foreign) ≡ decode_one s
  unfolding decode_map
  one_large g = simp (lt-ltb _ _ g) at one_map

  pub one_short : (u : ℕ) → u ≡ size_of m → m ≤ 63 → length s < u → RefusedWith (number_of Short) ≡ decode_one s
  unfolding decode_map
  one_short u eu g l = simp (le-ltb 63 m g, ← eu, lt-ltb _ _ l) at one_map

  pub one_fields : (f : Fields) → f ≡ fields_at m s → (u : ℕ) → u ≡ size_of m → m ≤ 63 → u ≤ length s
      → (r : Decoded) → r ≡ decode_fields m f → r ≡ decode_one s
  unfolding decode_map
  one_fields f ef u eu g l r er = er ∙ (simp (le-ltb 63 m g, ← eu, le-ltb _ _ l, ← ef) at one_map)

pub fields_are : (m : ℕ) (s : List ℕ) (k d a b c v : ℕ) → k ≡ (fields_at m s).kind → d ≡ (fields_at m s).d → a ≡ (fields_at m s).a → b ≡ (fields_at m s).b
    → c ≡ (fields_at m s).c → v ≡ (fields_at m s).v → record { kind = k; d = d; a = a; b = b; c = c; v = v } ≡ fields_at m s
fields_are m s k d a b c v ek ed ea eb ec ev = λ i. record { kind = ek i; d = ed i; a = ea i; b = eb i; c = ec i; v = ev i }

-- the refusal number decides what `decode_fields` gives
module _ (m : ℕ) (f : Fields) (n : ℕ) (en : n ≡ map_of f) (x : ℕ) (ex : x ≡ fields_refusal (not (eqb m n)) f) where
  same : x ≡ fields_refusal (not (eqb m (map_of f))) f
  same = ex ∙ rw en

  pub fields_word : x ≡ 0 → (p u : ℕ) → p ≡ pack_fields f → u ≡ size_of m → Word p u ≡ decode_fields m f
  unfolding decode_fields
  fields_word z p u ep eu = rw (← same, eq-eqb _ _ z, ep, eu)

  pub fields_refused : (x ≡ 0 → ⊥) → RefusedWith x ≡ decode_fields m f
  unfolding decode_fields
  fields_refused z = rw (← same, ne_eqb _ _ z)

-- what holds of an instruction that was read
pub record Read (s : List ℕ) (w u : ℕ) (f : Fields) : Type 0 where
  pub full : 0 < length s
  pub small : get_or s 0 0 ≤ 63
  pub fits : u ≤ length s
  pub size : u ≡ size_of (get_or s 0 0)
  pub clean : fields_refusal (not (eqb (get_or s 0 0) (map_of f))) f ≡ 0
  pub word : w ≡ pack_fields f

no_word : {w u x : ℕ} {A : Type 0} → Word w u ≡ RefusedWith x → A
no_word {w} {u} {x} {A} e = let z : ◌≡◌ {A = ℕ} 0 1 = cc in absurd (omega arith)

pub one_read : (s : List ℕ) (w u : ℕ) → Word w u ≡ decode_one s → Read s w u (fields_at (get_or s 0 0) s)
unfolding decode_one decode_map decode_fields
one_read s w u =
    let m : ℕ = get_or s 0 0 in
    let f : Fields = fields_at m s in
    let P : Decoded → Type 0 = λ o. Word w u ≡ o → Read s w u f in
    cond_ind P (eqb (length s) 0) (λ _ e. no_word e) (λ h0.
    cond_ind P (ltb 63 m) (λ _ e. no_word e) (λ h1.
    cond_ind P (ltb (length s) (size_of m)) (λ _ e. no_word e) (λ h2.
    cond_ind P (eqb (fields_refusal (not (eqb m (map_of f))) f) 0) (λ h3 e.
    let eu : u ≡ size_of m = cc in
    record {
      full = omega (arith, eqb-false (length s) 0 h0);
      small = ltb-false 63 m h1;
      fits = omega (arith, ltb-false (length s) (size_of m) h2);
      size = eu;
      clean = eqb-true _ _ h3;
      word = cc;
    })
    (λ _ e. no_word e))))

pos_of_ne : {x : ℕ} → (x ≡ 0 → ⊥) → 0 < x
pos_of_ne {x} n = omega arith

-- no refusal has number 0
unfoldable pub Named : Decoded → Type 0
Named (Word w u) = Unit {0}
Named (RefusedWith x) = 0 < x

pub named : (s : List ℕ) → Named (decode_one s)
unfolding Named decode_one decode_map decode_fields
named s =
    let m : ℕ = get_or s 0 0 in
    let f : Fields = fields_at m s in
    cond_ind Named (eqb (length s) 0) (λ _. omega arith) (λ _.
    cond_ind Named (ltb 63 m) (λ _. omega arith) (λ _.
    cond_ind Named (ltb (length s) (size_of m)) (λ _. omega arith) (λ _.
    cond_ind Named (eqb (fields_refusal (not (eqb m (map_of f))) f) 0) (λ _. tt)
    (λ h. pos_of_ne (eqb-false _ _ h)))))

-- ---- a routine read

-- if nothing is refused, there are n words, and the place is their number
scan_ok : (n i : ℕ) (s : List ℕ) → (scan_of n i s).number ≡ 0 → (length (words_of n s) ≡ n) × ((scan_of n i s).place ≡ i + n)
unfolding scan_of words_of Named
scan_ok zero i s e =
    cond_ind (λ (a : Answer). a.number ≡ 0 → (◌≡◌ {A = ℕ} 0 0) × (a.place ≡ i + 0)) (eqb (length s) 0)
    (λ _ _. (refl, omega arith)) (λ _ f. absurd (omega arith)) e
scan_ok (suc n) i s e = go (decode_one s) (named s) (λ u. scan_ok n (i + 1) (drop u s)) e
  where
    go : (o : Decoded) → Named o
        → ((u : ℕ) → (scan_of n (i + 1) (drop u s)).number ≡ 0 → (length (words_of n (drop u s)) ≡ n) × ((scan_of n (i + 1) (drop u s)).place ≡ i + 1 + n))
        → (then_answer o i (λ u. scan_of n (i + 1) (drop u s))).number ≡ 0
        → (length (then_words o (λ u. words_of n (drop u s))) ≡ suc n) × ((then_answer o i (λ u. scan_of n (i + 1) (drop u s))).place ≡ i + suc n)
    go (Word w u) p ih f = (ap suc (ih u f).0, omega (arith, (ih u f).1))
    go (RefusedWith x) p ih f = absurd (omega arith)

module _ (s : List ℕ) (room : ℕ) where
  pub read_short : length s < 2 → refusal Short 0 ≡ read_answer s room
  unfolding read_answer
  read_short h = simp (lt-ltb _ _ h)

  module _ (h : 2 ≤ length s) (n : ℕ) (e : n ≡ count_of s) where
    pub read_many : most_instructions < n → refusal Oversize 0 ≡ read_answer s room
    unfolding read_answer
    read_many g = simp (le-ltb _ _ h, ← e, lt-ltb _ _ g)

    pub read_room : n ≤ most_instructions → room < n → refusal SmallOutput 0 ≡ read_answer s room
    unfolding read_answer
    read_room g l = simp (le-ltb _ _ h, ← e, le-ltb _ _ g, lt-ltb _ _ l)

    pub read_scan : n ≤ most_instructions → n ≤ room → (a : Answer) → a ≡ scan_of n 0 (drop 2 s) → a ≡ read_answer s room
    unfolding read_answer
    read_scan g l a ea = ea ∙ simp (le-ltb _ _ h, ← e, le-ltb _ _ g, le-ltb _ _ l)

-- what holds of bytes that reading takes
pub record ReadOk (s : List ℕ) (room n : ℕ) : Type 0 where
  pub two : 2 ≤ length s
  pub few : count_of s ≤ most_instructions
  pub fits : n ≤ room
  pub count : n ≡ count_of s
  pub words : length (words_in s) ≡ n
  pub scan : (scan_of (count_of s) 0 (drop 2 s)).number ≡ 0

pub read_ok : (s : List ℕ) (room : ℕ) → (read_answer s room).number ≡ 0 → ReadOk s room (read_answer s room).place
unfolding read_answer
read_ok s room =
    let n : ℕ = count_of s in
    let P : Answer → Type 0 = λ a. a.number ≡ 0 → ReadOk s room a.place in
    cond_ind P (ltb (length s) 2) (λ _ e. absurd (omega arith)) (λ h0.
    cond_ind P (ltb most_instructions n) (λ _ e. absurd (omega arith)) (λ h1.
    cond_ind P (ltb room n) (λ _ e. absurd (omega arith)) (λ h2 e.
    let all = scan_ok n 0 (drop 2 s) e in
    let same_count : (scan_of n 0 (drop 2 s)).place ≡ n = omega (arith, all.1) in
    record {
      two = ltb-false (length s) 2 h0;
      few = ltb-false most_instructions n h1;
      fits = omega (arith, ltb-false room n h2);
      count = same_count;
      words = all.0 ∙ sym same_count;
      scan = e;
    })))

-- ---- one word written
module _ (x : ℕ) where
  pub byte_none : x ≡ 0 → byte_out x ≡ []
  unfolding byte_out
  byte_none e = simp (eq-eqb _ _ e)

  pub byte_some : (x ≡ 0 → ⊥) → byte_out x ≡ x ∷ []
  unfolding byte_out
  byte_some n = simp (ne_eqb _ _ n)

  pub length_byte : length (byte_out x) ≡ bit_of x
  unfolding byte_out
  length_byte =
      cond_ind (λ (l : List ℕ). length l ≡ bit_of x) (eqb x 0)
      (λ h. omega (arith, eqb-true x 0 h)) (λ h. omega (arith, eqb-false x 0 h))

  pub quad_none : x ≡ 0 → quad_out x ≡ []
  unfolding quad_out
  quad_none e = simp (eq-eqb _ _ e)

  pub quad_some : (x ≡ 0 → ⊥) → quad_out x ≡ x % 256 ∷ x / 256 % 256 ∷ x / 256 / 256 % 256 ∷ x / 256 / 256 / 256 % 256 ∷ []
  unfolding quad_out
  quad_some n = simp (ne_eqb _ _ n)

  pub length_quad : length (quad_out x) ≡ 4 * bit_of x
  unfolding quad_out
  length_quad =
      cond_ind (λ (l : List ℕ). length l ≡ 4 * bit_of x) (eqb x 0)
      (λ h. omega (arith, eqb-true x 0 h)) (λ h. omega (arith, eqb-false x 0 h))

pub bit_le : (x : ℕ) → bit_of x ≤ 1
bit_le x = omega arith

rearrange : (p q r t x y : ℕ) → suc (p + (q + r + (t + x) + 4 * y)) ≡ 1 + p + q + r + t + x + 4 * y
rearrange p q r t x y = omega arith

pub length_two : (x y : ℕ) → length (byte_out x ++ byte_out y) ≡ bit_of x + bit_of y
length_two x y = rw (length-append, length_byte x, length_byte y)

pub length_regs : (f : Fields) → length (regs_out f) ≡ bit_of f.d + bit_of f.a + (bit_of f.b + bit_of f.c)
unfolding regs_out
length_regs f = rw (length-append, length_two f.d f.a, length_two f.b f.c)

pub length_fields : (f : Fields) → length (fields_out f) ≡ 1 + bit_of f.kind + bit_of f.d + bit_of f.a + bit_of f.b + bit_of f.c + 4 * bit_of f.v
unfolding fields_out
length_fields f =
    let l0 = length-append (byte_out f.kind) (regs_out f ++ quad_out f.v) in
    let l1 = length-append (regs_out f) (quad_out f.v) in
    rw (l0, l1, length_byte, length_regs, length_quad) (rearrange _ _ _ _ _ _)

-- ---- a routine written

pub length_routine : (ws : List ℕ) → length (routine_of ws) ≡ 2 + length (bytes_of ws)
unfolding routine_of
length_routine ws = omega arith

module _ (ws : List ℕ) (room : ℕ) where
  pub write_many : most_instructions < length ws → refusal Oversize 0 ≡ write_answer ws room
  unfolding write_answer
  write_many h = simp (lt-ltb _ _ h)

  module _ (h : length ws ≤ most_instructions) where
    pub write_few : write_answer ws room ≡ first_refused word_refusal ws 0 (room_for room (length (routine_of ws)))
    unfolding write_answer
    write_few = rw (le-ltb most_instructions (length ws) h)

    pub write_taken : TakesEach word_refusal ws → write_answer ws room ≡ room_for room (length (routine_of ws))
    write_taken all = write_few ∙ none_refused word_refusal ws 0 _ all

-- what holds of words that writing takes
pub record WriteOk (ws : List ℕ) (room n : ℕ) : Type 0 where
  pub few : length ws ≤ most_instructions
  pub fits : length (routine_of ws) ≤ room
  pub size : n ≡ length (routine_of ws)
  pub each : TakesEach word_refusal ws

pub write_ok : (ws : List ℕ) (room : ℕ) → (write_answer ws room).number ≡ 0 → WriteOk ws room (write_answer ws room).place
unfolding write_answer
write_ok ws room =
    let k : ℕ = length (routine_of ws) in
    let P : Answer → Type 0 = λ r. r.number ≡ 0 → WriteOk ws room r.place in
    cond_ind P (ltb most_instructions (length ws)) (λ _ e. absurd (omega arith)) (λ h0 e.
    taken_then word_refusal (λ r. WriteOk ws room r.place) ws 0 (room_for room k)
    (cond_ind P (ltb room k) (λ _ f. absurd (omega arith)) (λ h1 _.
    record { few = ltb-false most_instructions (length ws) h0; fits = ltb-false room k h1; size = refl; each = takes_each word_refusal ws 0 _ e })) e)
