-- Reading and writing are inverse: words written are read again, and bytes read are written again.
use mathlib.Core.Path.{◌≡◌, refl, sym, ap, ◌∙◌}
use mathlib.Core.Bool.{Bool, true, false, not}
use mathlib.Core.List.{List, [], ◌∷◌, ◌++◌, append_assoc}
use Prim.Native.Nat.{ℕ, zero, suc, ◌+◌, ◌*◌, ◌/◌, ◌%◌, ◌≤◌, ◌<◌}
use native.Mathlib.Omega.{arith}
use native.Mathlib.Nat.{le-add_right, zero-add, add-zero}
use native.Mathlib.Numerals.{towards_suc}
use lib.ListN.{length, get_or, take, drop, length-append}
use lib.Seq.{drop-cons, drop_at, get_or_at, get_or-drop, get_or-append-add}
use lib.Dec.{eqb, ltb}
use borrow.Author.Tests.{ne_eqb, eq-eqb, eqb-true, le-ltb, ltb-false}
use Rattle.types.specs.Results.{Decoded}
use Rattle.types.specs.Results.{Word, RefusedWith}
use Rattle.types.specs.declared.Answer.{Answer}
use Rattle.types.specs.declared.Fields.{Fields}
use Rattle.types.specs.Names.{most_instructions, top_word, answer}
use Rattle.spec.specs.Words.{fields_refusal, pack_fields, fields_of, zero_of, word_refusal}
use Rattle.spec.specs.Bytes.{bit_of, map_of, size_of, byte_at, quad_at, fields_at, decode_one, then_answer, scan_of, then_words, words_of, count_of, words_in, read_answer, read_output}
use Rattle.spec.specs.Bytes.{byte_out, quad_out, regs_out, fields_out, encode_one, bytes_of, routine_of, write_answer, write_output}
use Rattle.spec.specs.Claims.{WordsRoundTrip, BytesRoundTrip}
use Rattle.spec.proofs.Bools.{no, cond_ind}
use Rattle.spec.proofs.Refusals.{TakesEach, output_start}
use Rattle.spec.proofs.WordLaws.{bounds, clean, fields_pack, pack_fields_lem}
use Rattle.spec.proofs.Bytes.{one_read, one_fields, fields_are, fields_word, read_ok, named, Named, read_scan}
use Rattle.spec.proofs.Bytes.{byte_some, byte_none, quad_some, quad_none, bit_le, length_byte, length_fields, write_ok, write_taken}

-- every element is a byte
Bytes : List ℕ → Type 0
Bytes s = (j : ℕ) → get_or s j 0 < 256

digit : (v a r : ℕ) → v ≡ a + 256 * r → a < 256 → (v % 256 ≡ a) × (v / 256 ≡ r)
digit v a r e h = (omega arith, omega arith)

-- ---- a field that was written is read again
module _ (p t : List ℕ) (n : ℕ) (l : length p ≡ n) where
  byte_back : (x : ℕ) → byte_at (bit_of x) (p ++ (byte_out x ++ t)) n ≡ x
  unfolding byte_at
  byte_back zero = refl
  byte_back (suc x) =
      let b : bit_of (suc x) ≡ 0 → ⊥ = λ e. omega arith in
      rw (ne_eqb _ _ b, byte_some (suc x) (λ e. omega arith)) (get_or_at p (suc x) t 0 n l)

  quad_back : (v : ℕ) → v ≤ top_word → quad_at (bit_of v) (p ++ (quad_out v ++ t)) n ≡ v
  unfolding quad_at
  quad_back zero h = refl
  quad_back (suc v) h =
      let b : bit_of (suc v) ≡ 0 → ⊥ = λ e. omega arith in
      let k : ℕ = suc v in
      let q : List ℕ = k % 256 ∷ k / 256 % 256 ∷ k / 256 / 256 % 256 ∷ k / 256 / 256 / 256 % 256 ∷ t in
      rw (ne_eqb _ _ b, quad_some k (λ e. omega arith))
      (omega (arith, get_or_at p (k % 256) (drop 1 q) 0 n l, rw l at (get_or-append-add p q 1 0), rw l at (get_or-append-add p q 2 0), rw l at (get_or-append-add p q 3 0)))

-- ---- a field that was read is written again
module _ (s : List ℕ) (n b : ℕ) where
  byte_front : (x : ℕ) → x ≡ byte_at b s n → b ≡ bit_of x → n + b ≤ length s → drop n s ≡ byte_out x ++ drop (n + b) s
  unfolding byte_at
  byte_front zero e eb f =
      let z : n + b ≡ n = omega arith in
      rw (byte_none zero refl, z)
  byte_front (suc x) e eb f =
      let n0 : b ≡ 0 → ⊥ = λ z. omega arith in
      let z : n + b ≡ suc n = omega arith in
      let g : suc x ≡ get_or s n 0 = e ∙ rw (ne_eqb _ _ n0) in
      rw (byte_some (suc x) (λ k. omega arith), z, g) (drop-cons s n 0 (omega arith))

  quad_front : Bytes s → (v : ℕ) → v ≡ quad_at b s n → b ≡ bit_of v → n + 4 * b ≤ length s → drop n s ≡ quad_out v ++ drop (n + 4 * b) s
  unfolding quad_at Bytes
  quad_front B zero e eb f =
      let z : n + 4 * b ≡ n = omega arith in
      rw (quad_none zero refl, z)
  quad_front B (suc x) e eb f =
      let v : ℕ = suc x in
      let n0 : b ≡ 0 → ⊥ = λ z. omega arith in
      let z : n + 4 * b ≡ n + 4 = omega arith in
      let g : v ≡ get_or s n 0 + 256 * get_or s (n + 1) 0 + 65536 * get_or s (n + 2) 0 + 16777216 * get_or s (n + 3) 0 = e ∙ rw (ne_eqb _ _ n0) in
      let r3 : ℕ = get_or s (n + 3) 0 in
      let r2 : ℕ = get_or s (n + 2) 0 + 256 * r3 in
      let r1 : ℕ = get_or s (n + 1) 0 + 256 * r2 in
      let e0 = digit v (get_or s n 0) r1 (omega arith) (B n) in
      let e1 = digit (v / 256) (get_or s (n + 1) 0) r2 e0.1 (B (n + 1)) in
      let e2 = digit (v / 256 / 256) (get_or s (n + 2) 0) r3 e1.1 (B (n + 2)) in
      let e3 = digit (v / 256 / 256 / 256) r3 0 (omega (arith, e2.1)) (B (n + 3)) in
      let c0 = drop-cons s n 0 (omega arith) in
      let c1 = drop-cons s (suc n) 0 (omega arith) in
      let c2 = drop-cons s (suc (suc n)) 0 (omega arith) in
      let c3 = drop-cons s (suc (suc (suc n))) 0 (omega arith) in
      rw (quad_some v (λ k. omega arith), z, e0.0, e1.0, e2.0, e3.0)
      (simp towards_suc (rw (c0, c1, c2, c3)))

-- ---- the bits of a map, and the fields of a word

half : (m x r : ℕ) → m ≡ x + 2 * r → x ≤ 1 → (m % 2 ≡ x) × (m / 2 ≡ r)
half m x r e h = (omega arith, omega arith)

record Bits (m : ℕ) (f : Fields) : Type 0 where
  b0 : m % 2 ≡ bit_of f.kind
  b1 : m / 2 % 2 ≡ bit_of f.d
  b2 : m / 2 / 2 % 2 ≡ bit_of f.a
  b3 : m / 2 / 2 / 2 % 2 ≡ bit_of f.b
  b4 : m / 2 / 2 / 2 / 2 % 2 ≡ bit_of f.c
  b5 : m / 2 / 2 / 2 / 2 / 2 ≡ bit_of f.v

regroup2 : (x0 x1 x2 x3 x4 x5 : ℕ) → x0 + 2 * x1 + 4 * x2 + 8 * x3 + 16 * x4 + 32 * x5 ≡ x0 + 2 * (x1 + 2 * (x2 + 2 * (x3 + 2 * (x4 + 2 * x5))))
regroup2 x0 x1 x2 x3 x4 x5 = omega arith

bits : (m : ℕ) (f : Fields) → m ≡ map_of f → Bits m f
bits m f e =
    let h0 = half m (bit_of f.kind) _ (e ∙ regroup2 _ _ _ _ _ _) (bit_le _) in
    let h1 = half (m / 2) (bit_of f.d) _ h0.1 (bit_le _) in
    let h2 = half (m / 2 / 2) (bit_of f.a) _ h1.1 (bit_le _) in
    let h3 = half (m / 2 / 2 / 2) (bit_of f.b) _ h2.1 (bit_le _) in
    let h4 = half (m / 2 / 2 / 2 / 2) (bit_of f.c) _ h3.1 (bit_le _) in
    record { b0 = h0.0; b1 = h1.0; b2 = h2.0; b3 = h3.0; b4 = h4.0; b5 = h4.1 }

same_map : (x y : ℕ) → not (eqb x y) ≡ false → x ≡ y
same_map x y e = eqb-true x y (not_not (eqb x y) e)
  where
    not_not : (b : Bool) → not b ≡ false → b ≡ true
    not_not true h = refl
    not_not false h = no (sym h)

-- ---- a word that was written is read again

-- the bytes of the fields, one after the other
row : Fields → List ℕ → List ℕ
row f t = map_of f ∷ (byte_out f.kind ++ (byte_out f.d ++ (byte_out f.a ++ (byte_out f.b ++ (byte_out f.c ++ (quad_out f.v ++ t))))))

in_row : (f : Fields) (t : List ℕ) → fields_out f ++ t ≡ row f t
unfolding fields_out regs_out row
in_row f t = simp append_assoc

-- how many bytes come before each field
before2 : (m x y : ℕ) → length (m ∷ (byte_out x ++ byte_out y)) ≡ 1 + bit_of x + bit_of y
before2 m x y = omega (arith, length-append (byte_out x) (byte_out y), length_byte x, length_byte y)

before3 : (m x y z : ℕ) → length (m ∷ (byte_out x ++ (byte_out y ++ byte_out z))) ≡ 1 + bit_of x + bit_of y + bit_of z
before3 m x y z =
    omega (arith, length-append (byte_out x) (byte_out y ++ byte_out z), length-append (byte_out y) (byte_out z), length_byte x, length_byte y, length_byte z)

before4 : (m x y z u : ℕ) → length (m ∷ (byte_out x ++ (byte_out y ++ (byte_out z ++ byte_out u)))) ≡ 1 + bit_of x + bit_of y + bit_of z + bit_of u
before4 m x y z u =
    let h = before3 m y z u in
    omega (arith, length-append (byte_out x) (byte_out y ++ (byte_out z ++ byte_out u)), length_byte x)

before5 : (m x y z u v : ℕ)
    → length (m ∷ (byte_out x ++ (byte_out y ++ (byte_out z ++ (byte_out u ++ byte_out v))))) ≡ 1 + bit_of x + bit_of y + bit_of z + bit_of u + bit_of v
before5 m x y z u v =
    let h = before4 m y z u v in
    omega (arith, length-append (byte_out x) (byte_out y ++ (byte_out z ++ (byte_out u ++ byte_out v))), length_byte x)

row_back : (f : Fields) → f.v ≤ top_word → (t : List ℕ) → f ≡ fields_at (map_of f) (row f t)
unfolding row fields_at
row_back f hv t =
    let m : ℕ = map_of f in
    let K : List ℕ = byte_out f.kind in
    let D : List ℕ = byte_out f.d in
    let A : List ℕ = byte_out f.a in
    let B : List ℕ = byte_out f.b in
    let C : List ℕ = byte_out f.c in
    let Q : List ℕ = quad_out f.v in
    let e = bits m f refl in
    let k = byte_back (m ∷ []) (D ++ (A ++ (B ++ (C ++ (Q ++ t))))) 1 refl f.kind in
    let d = byte_back (m ∷ K) (A ++ (B ++ (C ++ (Q ++ t)))) (1 + bit_of f.kind) (omega (arith, length_byte f.kind)) f.d in
    let a = simp append_assoc at (byte_back (m ∷ (K ++ D)) (B ++ (C ++ (Q ++ t))) _ (before2 m f.kind f.d) f.a) in
    let b = simp append_assoc at (byte_back (m ∷ (K ++ (D ++ A))) (C ++ (Q ++ t)) _ (before3 m f.kind f.d f.a) f.b) in
    let c = simp append_assoc at (byte_back (m ∷ (K ++ (D ++ (A ++ B)))) (Q ++ t) _ (before4 m f.kind f.d f.a f.b) f.c) in
    let v = simp append_assoc at (quad_back (m ∷ (K ++ (D ++ (A ++ (B ++ C))))) t _ (before5 m f.kind f.d f.a f.b f.c) f.v hv) in
    fields_are m (row f t) f.kind f.d f.a f.b f.c f.v
    (rw e.b0 (sym k)) (rw (e.b0, e.b1) (sym d)) (rw (e.b0, e.b1, e.b2) (sym a)) (rw (e.b0, e.b1, e.b2, e.b3) (sym b))
    (rw (e.b0, e.b1, e.b2, e.b3, e.b4) (sym c)) (rw (e.b0, e.b1, e.b2, e.b3, e.b4, e.b5) (sym v))

length_size : (m : ℕ) (f : Fields) → Bits m f → length (fields_out f) ≡ size_of m
length_size m f e = rw (e.b0, e.b1, e.b2, e.b3, e.b4, e.b5) (length_fields f)

small_sum : (x0 x1 x2 x3 x4 x5 : ℕ) → x0 ≤ 1 → x1 ≤ 1 → x2 ≤ 1 → x3 ≤ 1 → x4 ≤ 1 → x5 ≤ 1 → x0 + 2 * x1 + 4 * x2 + 8 * x3 + 16 * x4 + 32 * x5 ≤ 63
small_sum x0 x1 x2 x3 x4 x5 h0 h1 h2 h3 h4 h5 = omega arith

map_small : (f : Fields) → map_of f ≤ 63
map_small f = small_sum _ _ _ _ _ _ (bit_le _) (bit_le _) (bit_le _) (bit_le _) (bit_le _) (bit_le _)

row_first : (f : Fields) (t : List ℕ) → (map_of f ≡ get_or (row f t) 0 0) × (length (row f t) ≡ 0 → ⊥)
unfolding row
row_first f t = (refl, λ z. omega arith)

fields_back : (f : Fields) → fields_refusal false f ≡ 0 → (t : List ℕ) → decode_one (fields_out f ++ t) ≡ Word (pack_fields f) (length (fields_out f))
fields_back f j t =
    let m : ℕ = map_of f in
    let s : List ℕ = row f t in
    let b = row_first f t in
    let u : ℕ = length (fields_out f) in
    let eu : u ≡ size_of m = length_size m f (bits m f refl) in
    let ls : u ≤ length s = rw (← (in_row f t), length-append) (le-add_right _ _) in
    let z : fields_refusal (not (eqb m m)) f ≡ 0 = rw (eq-eqb m m refl) j in
    ap decode_one (in_row f t)
    ∙ sym (one_fields s m b.0 b.1 f (row_back f (bounds false f j).word t) u eu (map_small f) ls _
    (fields_word m f m refl (fields_refusal (not (eqb m m)) f) refl z (pack_fields f) u refl eu))

one_back : (w : ℕ) → word_refusal w ≡ 0 → (t : List ℕ) → decode_one (encode_one w ++ t) ≡ Word w (length (encode_one w))
one_back w g t =
    let c = clean (ltb 0 (zero_of w)) (fields_of w) g in
    let z : zero_of w ≡ 0 = omega (arith, ltb-false 0 (zero_of w) c) in
    fields_back (fields_of w) (rw c at g) t ∙ ap (λ (x : ℕ). Word x (length (encode_one w))) (pack_fields_lem w z)

scan_back : (ws : List ℕ) (i : ℕ) → TakesEach word_refusal ws
    → (scan_of (length ws) i (bytes_of ws) ≡ answer 0 (i + length ws)) × (words_of (length ws) (bytes_of ws) ≡ ws)
unfolding bytes_of scan_of words_of
scan_back [] i all = (rw add-zero, refl)
scan_back (w ∷ ws) i all =
    let o : decode_one (encode_one w ++ bytes_of ws) ≡ Word w (length (encode_one w)) = one_back w (all 0 (omega arith)) (bytes_of ws) in
    let rest : drop (length (encode_one w)) (encode_one w ++ bytes_of ws) ≡ bytes_of ws = drop_at (encode_one w) (bytes_of ws) _ refl in
    let ih = scan_back ws (i + 1) (λ j l. all (suc j) (omega arith)) in
    (rw (o, rest, ih.0) (ap (λ (n : ℕ). answer 0 n) (omega arith)), rw (o, rest, ih.1))

routine_back : (ws : List ℕ) (room room' : ℕ) → (write_answer ws room).number ≡ 0 → length ws ≤ room'
    → (read_answer (routine_of ws) room' ≡ answer 0 (length ws)) × (words_in (routine_of ws) ≡ ws) × (count_of (routine_of ws) ≡ length ws)
unfolding routine_of
routine_back ws room room' g l =
    let f = write_ok ws room g in
    let n : ℕ = length ws in
    let s : List ℕ = routine_of ws in
    let b = scan_back ws 0 f.each in
    let few = f.few in
    let e : n ≡ count_of s = omega arith in
    let two : 2 ≤ length s = omega arith in
    (sym (read_scan s room' two n e few l (answer 0 n) (sym (b.0 ∙ rw zero-add))), rw (← e) b.1, sym e)

-- the output after a success
taken_bytes : (ws out : List ℕ) → (write_answer ws (length out)).number ≡ 0 → (n : ℕ) → length (routine_of ws) ≡ n → take n (write_output ws out) ≡ routine_of ws
unfolding write_output
taken_bytes ws out e n l = output_start (write_answer ws (length out)) (routine_of ws) out e n l

taken_words : (s words : List ℕ) → (read_answer s (length words)).number ≡ 0 → (n : ℕ) → length (words_in s) ≡ n → take n (read_output s words) ≡ words_in s
unfolding read_output
taken_words s words e n l = output_start (read_answer s (length words)) (words_in s) words e n l

pub words_round_trip : WordsRoundTrip
words_round_trip ws out words e l =
    let bytes = taken_bytes ws out e _ (sym (write_ok ws (length out) e).size) in
    let back = routine_back ws (length out) (length words) e l in
    let n : (read_answer (routine_of ws) (length words)).number ≡ 0 = ap (λ (a : Answer). a.number) back.0 in
    record {
      answers = rw bytes back.0;
      leaves = rw bytes (taken_words (routine_of ws) words n (length ws) (ap length back.1) ∙ back.1);
    }

-- ---- a word that was read is written again

row_front : (s : List ℕ) → Bytes s → (f : Fields) → f ≡ fields_at (get_or s 0 0) s → get_or s 0 0 ≡ map_of f → 0 < length s → size_of (get_or s 0 0) ≤ length s
    → s ≡ row f (drop (size_of (get_or s 0 0)) s)
unfolding row fields_at
row_front s B f ef em full fits =
    let m : ℕ = get_or s 0 0 in
    let e = bits m f em in
    let f0 = drop-cons s 0 0 full in
    let k = byte_front s 1 (m % 2) f.kind (ap (λ (g : Fields). g.kind) ef) e.b0 (omega arith) in
    let d = byte_front s _ (m / 2 % 2) f.d (ap (λ (g : Fields). g.d) ef) e.b1 (omega arith) in
    let a = byte_front s _ (m / 2 / 2 % 2) f.a (ap (λ (g : Fields). g.a) ef) e.b2 (omega arith) in
    let b = byte_front s _ (m / 2 / 2 / 2 % 2) f.b (ap (λ (g : Fields). g.b) ef) e.b3 (omega arith) in
    let c = byte_front s _ (m / 2 / 2 / 2 / 2 % 2) f.c (ap (λ (g : Fields). g.c) ef) e.b4 (omega arith) in
    let v = quad_front s _ (m / 2 / 2 / 2 / 2 / 2) B f.v (ap (λ (g : Fields). g.v) ef) e.b5 (omega arith) in
    f0 ∙ rw (← em) (ap (λ (l : List ℕ). m ∷ l)
    (k ∙ ap (λ (l : List ℕ). byte_out f.kind ++ l)
    (d ∙ ap (λ (l : List ℕ). byte_out f.d ++ l)
    (a ∙ ap (λ (l : List ℕ). byte_out f.a ++ l)
    (b ∙ ap (λ (l : List ℕ). byte_out f.b ++ l)
    (c ∙ ap (λ (l : List ℕ). byte_out f.c ++ l) v))))))

-- a word that is read is an instruction
pub one_clean : (s : List ℕ) (w u : ℕ) → Word w u ≡ decode_one s → word_refusal w ≡ 0
one_clean s w u e =
    let f : Fields = fields_at (get_or s 0 0) s in
    let t = one_read s w u e in
    let j : fields_refusal false f ≡ 0 = rw (clean _ f t.clean) at t.clean in
    let un = fields_pack f (bounds false f j) in
    rw (t.word, un.0, un.1) j

one_front : (s : List ℕ) (w u : ℕ) → Bytes s → Word w u ≡ decode_one s → (s ≡ encode_one w ++ drop u s) × (word_refusal w ≡ 0)
one_front s w u B e =
    let m : ℕ = get_or s 0 0 in
    let f : Fields = fields_at m s in
    let t = one_read s w u e in
    let none = clean _ f t.clean in
    let em : m ≡ map_of f = same_map m (map_of f) none in
    let j : fields_refusal false f ≡ 0 = rw none at t.clean in
    let un = fields_pack f (bounds false f j) in
    let size = t.size in
    let r = row_front s B f refl em t.full (rw size at t.fits) in
    (rw (t.word, un.0, in_row, size) r, one_clean s w u e)

write_back : (n i : ℕ) (s : List ℕ) → Bytes s → (scan_of n i s).number ≡ 0 → (bytes_of (words_of n s) ≡ s) × TakesEach word_refusal (words_of n s)
unfolding Bytes scan_of words_of bytes_of Named
write_back zero i [] B e = (refl, λ j h. absurd (omega arith))
write_back zero i (x ∷ s) B e =
    cond_ind (λ (a : Answer). a.number ≡ 0 → (◌≡◌ {A = List ℕ} [] (x ∷ s)) × TakesEach word_refusal []) (eqb (suc (length s)) 0)
    (λ h _. absurd (omega (arith, eqb-true (suc (length s)) 0 h))) (λ _ f. absurd (omega arith)) e
write_back (suc n) i s B e =
    go (decode_one s) refl (named s) (λ u. write_back n (i + 1) (drop u s) (λ j. rw get_or-drop (B (u + j)))) e
  where
    go : (o : Decoded) → o ≡ decode_one s → Named o
        → ((u : ℕ) → (scan_of n (i + 1) (drop u s)).number ≡ 0 → (bytes_of (words_of n (drop u s)) ≡ drop u s) × TakesEach word_refusal (words_of n (drop u s)))
        → (then_answer o i (λ u. scan_of n (i + 1) (drop u s))).number ≡ 0
        → (bytes_of (then_words o (λ u. words_of n (drop u s))) ≡ s) × TakesEach word_refusal (then_words o (λ u. words_of n (drop u s)))
    go (Word w u) eo p ih f =
        let w1 = one_front s w u B eo in
        let r = ih u f in
        (rw r.0 (sym w1.0), elim [ zero ↦ λ h. w1.1 | suc j ↦ λ h. r.1 j (omega arith) ])
    go (RefusedWith x) eo p ih f = absurd (omega arith)

routine_is : (ws s : List ℕ) → bytes_of ws ≡ s → routine_of ws ≡ length ws % 256 ∷ length ws / 256 ∷ s
unfolding routine_of
routine_is ws s e = rw e

-- writing takes the words that were read, and gives the bytes that were read
routine_front : (s : List ℕ) (room room' : ℕ) → Bytes s → (read_answer s room).number ≡ 0 → length s ≤ room'
    → (routine_of (words_in s) ≡ s) × (write_answer (words_in s) room' ≡ answer 0 (length s))
unfolding Bytes
routine_front s room room' B e l =
    let k = read_ok s room e in
    let n : ℕ = count_of s in
    let ws : List ℕ = words_of n (drop 2 s) in
    let b0 = B 0 in
    let b1 = B 1 in
    let count : (read_answer s room).place ≡ n = k.count in
    let len : length ws ≡ n = k.words ∙ count in
    let two : 2 ≤ length s = k.two in
    let h0 : n % 256 ≡ get_or s 0 0 = omega arith in
    let h1 : n / 256 ≡ get_or s 1 0 = omega arith in
    let f0 = drop-cons s 0 0 (omega arith) in
    let f1 = drop-cons s 1 0 (omega arith) in
    let back = write_back n 0 (drop 2 s) (λ j. rw get_or-drop (B (2 + j))) k.scan in
    let same : routine_of ws ≡ s = routine_is ws (drop 2 s) back.0 ∙ rw (len, h0, h1) (sym (f0 ∙ ap (λ (l : List ℕ). get_or s 0 0 ∷ l) f1)) in
    let few : length ws ≤ most_instructions = omega (arith, len, k.few) in
    (same, write_taken ws room' few back.1 ∙ rw (same, le-ltb room' (length s) l))

pub bytes_round_trip : BytesRoundTrip
unfolding Bytes
bytes_round_trip s words out B e l =
    let k = read_ok s (length words) e in
    let ws = taken_words s words e _ k.words in
    let front = routine_front s (length words) (length out) B e l in
    let n : (write_answer (words_in s) (length out)).number ≡ 0 = ap (λ (a : Answer). a.number) front.1 in
    record {
      answers = rw ws front.1;
      leaves = rw ws (taken_bytes (words_in s) out n (length s) (ap length front.0) ∙ front.0);
    }
