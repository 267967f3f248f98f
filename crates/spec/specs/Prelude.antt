-- Re-exports what the definitions use from the kit beside its Prelude, so that each file here needs one line for it. The conventions of both:
-- - numbers are natural numbers without bound; x - y is 0 if y is greater; x / 0 is 0; x % 0 is x; eqb, leb and ltb test ≡, ≤ and <
-- - `get_or xs i d` is element i of a list, or d past its end; `set xs i x` replaces element i, `sets xs i ys` several from i on; past the end both do nothing
-- - `ones` counts the bits that are 1; `count_leading_zeros k` and `count_trailing_zeros k` count the zeros above and below them in k bits, and give k for 0
-- - of integers, `pos n` is n, `negsuc n` is −(n + 1), and `shr_z z m` is z divided by m, rounded down
pub use Rattle.std.proofs.lemmas.List.Edits.{sets}
pub use Rattle.std.specs.Int.Count.{ones, count_leading_zeros, count_trailing_zeros}
pub use Rattle.std.specs.Int.Bits.{bit_and, bit_or}
pub use Rattle.std.proofs.Math.IntN.{suc_ℤ}
pub use Rattle.std.specs.Int.Signed.{shr_z, lt_z}
pub use mir.Val.{sel}
