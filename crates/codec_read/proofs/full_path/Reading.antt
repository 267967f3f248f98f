-- Laws of reading one instruction, in the form that the functions' proofs cite.
use mathlib.Core.Path.{◌≡◌, sym, ap, ◌∙◌}
use mathlib.Core.Bool.{not}
use mathlib.Core.List.{List}
use Prim.Native.Nat.{ℕ, ◌+◌, ◌/◌, ◌%◌, ◌<◌}
use native.Mathlib.Omega.{arith}
use lib.Dec.{eqb}
use Rattle.std.proofs.Common.{Result, Ok, Err}
use Rattle.std.specs.Prelude.{IsErrAnd}
use Rattle.types.specs.declared.Fields.{Fields}
use Rattle.types.specs.declared.Refusal.{Refusal}
use Rattle.types.specs.Names.{number_of}
use Rattle.types.specs.Results.{Word, RefusedWith, decoded_of}
use Rattle.spec.specs.Words.{fields_refusal, pack_fields}
use Rattle.words.specs.fields.Truncation.{truncate_fields}
use Rattle.spec.specs.Bytes.{byte_at, quad_at, fields_at, map_of, size_of, decode_fields}
use Rattle.spec.proofs.Bytes.{fields_are, fields_word}
use Rattle.words.proofs.RefusalLaws.{untruncated}

-- fields that stand one after another, each present if its bit of the map is 1
pub fields_read : (m : ℕ) (s : List ℕ) → m < 64 → (p q r t x y : ℕ) → p ≡ m % 2 → q ≡ m / 2 % 2 → r ≡ m / 4 % 2 → t ≡ m / 8 % 2 → x ≡ m / 16 % 2 → y ≡ m / 32 % 2
    → (k d a b c v : ℕ) → k ≡ byte_at p s 1 → d ≡ byte_at q s (1 + p) → a ≡ byte_at r s (1 + p + q) → b ≡ byte_at t s (1 + p + q + r)
    → c ≡ byte_at x s (1 + p + q + r + t) → v ≡ quad_at y s (1 + p + q + r + t + x) → record { kind = k; d = d; a = a; b = b; c = c; v = v } ≡ fields_at m s
unfolding fields_at
fields_read m s h p q r t x y ep eq er et ex ey k d a b c v ek ed ea eb ec ev =
    let fr : r ≡ m / 2 / 2 % 2 = omega arith in
    let ft : t ≡ m / 2 / 2 / 2 % 2 = omega arith in
    let fx : x ≡ m / 2 / 2 / 2 / 2 % 2 = omega arith in
    let fy : y ≡ m / 2 / 2 / 2 / 2 / 2 = omega arith in
    fields_are m s k d a b c v (ek ∙ rw ep) (ed ∙ rw (ep, eq)) (ea ∙ rw (ep, eq, fr)) (eb ∙ rw (ep, eq, fr, ft)) (ec ∙ rw (ep, eq, fr, ft, fx)) (ev ∙ rw (ep, eq, fr, ft, fx, fy))

-- if fields are not refused, packing cuts nothing off
pub fields_good : (m : ℕ) (f : Fields) (n : ℕ) → n ≡ map_of f → (x : ℕ) → x ≡ fields_refusal (not (eqb m n)) f → x ≡ 0
    → (p u : ℕ) → p ≡ pack_fields (truncate_fields f) → u ≡ size_of m → Word p u ≡ decode_fields m f
fields_good m f n en x ex z p u ep eu = fields_word m f n en x ex z p u (ep ∙ ap pack_fields (untruncated _ f (sym ex ∙ z))) eu

-- what a `?` exit answers
pub exit_decoded : (r : Result (ℕ × ℕ) Refusal) (x : Refusal) → IsErrAnd r (λ y. y ≡ x) → decoded_of r ≡ RefusedWith (number_of x)
exit_decoded (Ok _) x h = absurd h
exit_decoded (Err y) x h = ap (λ z. RefusedWith (number_of z)) h
