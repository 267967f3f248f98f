-- Laws of guest words.
use mathlib.Core.Path.{◌≡◌}
use mathlib.Core.Bool.{Bool}
use Prim.Native.Nat.{◌%◌, ◌^◌}
use native.Mathlib.Omega.{arith}
use Rattle.types.specs.declared.Fields.{Fields}
use Rattle.spec.specs.Words.{fields_refusal}
use Rattle.words.specs.fields.Truncation.{truncate_fields}
use Rattle.spec.proofs.WordLaws.{bounds}

-- if an instruction is not refused, packing cuts nothing off
pub untruncated : (x : Bool) (f : Fields) → fields_refusal x f ≡ 0 → truncate_fields f ≡ f
untruncated x f e =
    let g = bounds x f e in
    let h0 : f.kind % 2 ^ 8 ≡ f.kind = omega (arith, g.kind) in
    let h1 : f.d % 2 ^ 4 ≡ f.d = omega (arith, g.d) in
    let h2 : f.a % 2 ^ 4 ≡ f.a = omega (arith, g.a) in
    let h3 : f.b % 2 ^ 4 ≡ f.b = omega (arith, g.b) in
    let h4 : f.c % 2 ^ 4 ≡ f.c = omega (arith, g.c) in
    let h5 : f.v % 2 ^ 32 ≡ f.v = omega (arith, g.word) in
    λ i. record { kind = h0 i; d = h1 i; a = h2 i; b = h3 i; c = h4 i; v = h5 i }
