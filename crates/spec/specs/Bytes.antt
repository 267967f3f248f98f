-- The byte form of a routine, and what reading and writing answer and leave.
use Rattle.std.specs.Prelude.{ℕ, zero, suc, ◌+◌, ◌*◌, ◌/◌, ◌%◌, min, not, cond, List, [], ◌∷◌, ◌++◌, length, get_or, drop, ltb, eqb}
use Rattle.spec.specs.Types.{Fields, Answer, Decoded, Word, RefusedWith, Short, Foreign, Oversize, Trailing, SmallOutput}
use Rattle.types.specs.Names.{taken_number, most_instructions, count_bytes, number_of, answer, refusal, output_of, room_for, first}
use Rattle.spec.specs.Words.{fields_refusal, word_refusal, first_refused, fields_of, pack_fields}

-- 1 if a number is not 0, else 0
abbrev pub bit_of : ℕ → ℕ
bit_of x = min x 1

-- 'a map byte: bit 0 kind, 1 d, 2 a, 3 b, 4 c, 5 v'; 'A field that is 0 is absent'
abbrev pub map_of : Fields → ℕ
map_of f = bit_of f.kind + 2 * bit_of f.d + 4 * bit_of f.a + 8 * bit_of f.b + 16 * bit_of f.c + 32 * bit_of f.v

-- how many bytes an instruction with map m takes: the map, one for each field, four for v
abbrev pub size_of : ℕ → ℕ
size_of m = 1 + m % 2 + m / 2 % 2 + m / 2 / 2 % 2 + m / 2 / 2 / 2 % 2 + m / 2 / 2 / 2 / 2 % 2 + 4 * (m / 2 / 2 / 2 / 2 / 2)

-- ---- reading

-- a field of one byte, and v in four bytes, low first; 'An absent field is 0'
unfoldable pub byte_at : ℕ → List ℕ → ℕ → ℕ
byte_at bit s at = cond (eqb bit 0) 0 (get_or s at 0)

unfoldable pub quad_at : ℕ → List ℕ → ℕ → ℕ
quad_at bit s at =
    cond (eqb bit 0) 0
    (get_or s at 0 + 256 * get_or s (at + 1) 0 + 65536 * get_or s (at + 2) 0 + 16777216 * get_or s (at + 3) 0)

-- 'Then only the fields whose bit stands, in that order'
unfoldable pub fields_at : ℕ → List ℕ → Fields
fields_at m s =
    record {
      kind = byte_at (m % 2) s 1;
      d = byte_at (m / 2 % 2) s (1 + m % 2);
      a = byte_at (m / 2 / 2 % 2) s (1 + m % 2 + m / 2 % 2);
      b = byte_at (m / 2 / 2 / 2 % 2) s (1 + m % 2 + m / 2 % 2 + m / 2 / 2 % 2);
      c = byte_at (m / 2 / 2 / 2 / 2 % 2) s (1 + m % 2 + m / 2 % 2 + m / 2 / 2 % 2 + m / 2 / 2 / 2 % 2);
      v = quad_at (m / 2 / 2 / 2 / 2 / 2) s (1 + m % 2 + m / 2 % 2 + m / 2 / 2 % 2 + m / 2 / 2 / 2 % 2 + m / 2 / 2 / 2 / 2 % 2);
    }

-- an instruction, or its refusal x if that is not 0
abbrev pub or_refused : ℕ → Decoded → Decoded
or_refused x o = cond (eqb x 0) o (RefusedWith x)

-- refuses fields as unknown variety (3), foreign matter (2) or off grade (4); a present field that is 0 is foreign: the map marks exactly the nonzero fields
unfoldable pub decode_fields : ℕ → Fields → Decoded
decode_fields m f = or_refused (fields_refusal (not (eqb m (map_of f))) f) (Word (pack_fields f) (size_of m))

-- refuses a map of 64 or more as foreign matter (2), then missing bytes as short weight (1)
unfoldable pub decode_map : ℕ → List ℕ → Decoded
decode_map m s =
    cond (ltb 63 m) (RefusedWith (number_of Foreign))
    (cond (ltb (length s) (size_of m)) (RefusedWith (number_of Short)) (decode_fields m (fields_at m s)))

-- the instruction at the front of s; a missing map byte is refused as short weight (1)
unfoldable pub decode_one : List ℕ → Decoded
decode_one s = cond (eqb (length s) 0) (RefusedWith (number_of Short)) (decode_map (get_or s 0 0) s)

-- the answer of what follows an instruction, or the instruction's own refusal at place i
abbrev pub then_answer : Decoded → ℕ → (ℕ → Answer) → Answer
then_answer (Word w u) i go = go u
then_answer (RefusedWith x) i go = answer x i

-- what reading n instructions from s answers, the first at place i; bytes left over are refused as overweight (6)
unfoldable pub scan_of : ℕ → ℕ → List ℕ → Answer
scan_of zero i s = cond (eqb (length s) 0) (answer taken_number i) (refusal Trailing 0)
scan_of (suc n) i s = then_answer (decode_one s) i (λ u. scan_of n (i + 1) (drop u s))

-- an instruction's word and the words that follow, or none if it is refused
abbrev pub then_words : Decoded → (ℕ → List ℕ) → List ℕ
then_words (Word w u) go = w ∷ go u
then_words (RefusedWith x) go = []

-- the words of n instructions from s on
unfoldable pub words_of : ℕ → List ℕ → List ℕ
words_of zero s = []
words_of (suc n) s = then_words (decode_one s) (λ u. words_of n (drop u s))

-- 'n in two bytes, low first'
abbrev pub count_of : List ℕ → ℕ
count_of s = get_or s 0 0 + 256 * get_or s 1 0

-- the words of a routine's bytes
abbrev pub words_in : List ℕ → List ℕ
words_in s = words_of (count_of s) (drop count_bytes s)

-- 'Reading: 1 for the count, 5, 9; per instruction map 2, 1, 3, 2, 4; then 6'; room is the output's length
unfoldable pub read_answer : List ℕ → ℕ → Answer
read_answer s room =
    first
    ((ltb (length s) count_bytes, refusal Short 0)
    ∷ (ltb most_instructions (count_of s), refusal Oversize 0)
    ∷ (ltb room (count_of s), refusal SmallOutput 0)
    ∷ [])
    (scan_of (count_of s) 0 (drop count_bytes s))

-- the output after reading
unfoldable pub read_output : List ℕ → List ℕ → List ℕ
read_output s out = output_of (read_answer s (length out)) (words_in s) out

-- ---- writing

unfoldable pub byte_out : ℕ → List ℕ
byte_out x = cond (eqb x 0) [] (x ∷ [])

unfoldable pub quad_out : ℕ → List ℕ
quad_out v = cond (eqb v 0) [] (v % 256 ∷ v / 256 % 256 ∷ v / 256 / 256 % 256 ∷ v / 256 / 256 / 256 % 256 ∷ [])

unfoldable pub regs_out : Fields → List ℕ
regs_out f = (byte_out f.d ++ byte_out f.a) ++ (byte_out f.b ++ byte_out f.c)

unfoldable pub fields_out : Fields → List ℕ
fields_out f = map_of f ∷ (byte_out f.kind ++ (regs_out f ++ quad_out f.v))

-- the bytes of a word, and of a list of words
abbrev pub encode_one : ℕ → List ℕ
encode_one w = fields_out (fields_of w)

unfoldable pub bytes_of : List ℕ → List ℕ
bytes_of [] = []
bytes_of (w ∷ ws) = encode_one w ++ bytes_of ws

-- a routine's bytes: 'n in two bytes, low first, then n instructions'
unfoldable pub routine_of : List ℕ → List ℕ
routine_of ws = length ws % 256 ∷ length ws / 256 ∷ bytes_of ws

-- 'Writing: 5; per word 3, 2, 4; then 9'
unfoldable pub write_answer : List ℕ → ℕ → Answer
write_answer ws room =
    cond (ltb most_instructions (length ws)) (refusal Oversize 0) (first_refused word_refusal ws 0 (room_for room (length (routine_of ws))))

-- the output after writing
unfoldable pub write_output : List ℕ → List ℕ → List ℕ
write_output ws out = output_of (write_answer ws (length out)) (routine_of ws) out
