-- Laws of writing the fields of one word.
use mathlib.Core.Path.{◌≡◌, refl, sym, ap, ◌∙◌}
use mathlib.Core.List.{List, [], ◌∷◌, ◌++◌}
use Prim.Native.Nat.{ℕ, ◌+◌, ◌/◌, ◌≤◌, ◌<◌}
use native.Mathlib.Omega.{arith}
use native.Mathlib.Numerals.{add-one}
use lib.ListN.{length, get_or, drop, set, length-append}
use Rattle.std.proofs.lemmas.List.{append-nil}
use lib.Seq.{sets as stores}
use Rattle.std.proofs.Common.{append_assoc}
use Rattle.std.specs.Int.{w32, to_le_bytes}
use Rattle.types.specs.declared.Fields.{Fields}
use Rattle.spec.specs.Words.{fields_of}
use Rattle.spec.specs.Bytes.{map_of, byte_out, quad_out, regs_out, fields_out, encode_one}
use Rattle.spec.proofs.Bytes.{quad_some}
use Rattle.codec_write.proofs.Storing.{sets-append, each_length, each_more, each_done}

-- the bytes of fields of one byte, in order
abbrev pub bytes_out : List ℕ → List ℕ
bytes_out [] = []
bytes_out (x ∷ xs) = byte_out x ++ bytes_out xs

-- these fields of an instruction
abbrev pub single : Fields → List ℕ
single f = f.kind ∷ f.d ∷ f.a ∷ f.b ∷ f.c ∷ []

pub quad_bytes : (v : ℕ) → (v ≡ 0 → ⊥) → to_le_bytes w32 v ≡ quad_out v
quad_bytes v n =
    let second : v / 65536 ≡ v / 256 / 256 = omega arith in
    let third : v / 16777216 ≡ v / 256 / 256 / 256 = omega arith in
    rw (second, third) (sym (quad_some v n))

-- fields of one byte, one after another
module _ (xs : List ℕ) (i : ℕ) where
  module _ (h : i < length xs) where
    pub fields_length : length (bytes_out (drop i xs)) ≡ length (byte_out (get_or xs i 0)) + length (bytes_out (drop (i + 1) xs))
    fields_length = each_length byte_out bytes_out refl (λ _ _. refl) xs i h

    pub fields_more : (out : List ℕ) (to : ℕ) → stores out to (bytes_out (drop i xs))
        ≡ stores (stores out to (byte_out (get_or xs i 0))) (to + length (byte_out (get_or xs i 0))) (bytes_out (drop (i + 1) xs))
    fields_more = each_more byte_out bytes_out refl (λ _ _. refl) xs i h

  pub fields_done : length xs ≤ i → bytes_out (drop i xs) ≡ []
  fields_done = each_done byte_out bytes_out refl (λ _ _. refl) xs i

joined : (f : Fields) → fields_out f ≡ map_of f ∷ (bytes_out (single f) ++ quad_out f.v)
unfolding fields_out regs_out
joined f = simp (append_assoc, append-nil)

module _ (w : ℕ) (f : Fields) (e : f ≡ fields_of w) where
  word_joined : encode_one w ≡ map_of f ∷ (bytes_out (single f) ++ quad_out f.v)
  word_joined = sym (ap fields_out e) ∙ joined f

  pub word_length : length (encode_one w) ≡ 1 + length (bytes_out (single f)) + length (quad_out f.v)
  word_length = omega (arith, ap length word_joined, length-append (bytes_out (single f)) (quad_out f.v))

  pub word_out : (out : List ℕ) (at : ℕ) → stores out at (encode_one w)
      ≡ stores (stores (set out at (map_of f)) (at + 1) (bytes_out (single f))) (at + 1 + length (bytes_out (single f))) (quad_out f.v)
  word_out out at = rw (word_joined, add-one) (sets-append _ _ (bytes_out (single f)) (quad_out f.v))

pub ruleset encoding = (fields_length, fields_more, fields_done, word_length, word_out)
