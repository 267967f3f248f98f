-- What must hold before a bundle's words are packed: a valid instruction, and fields cut to their widths.
pub use Rattle.words.specs.fields.Truncation.{truncated_word}
use Rattle.std.specs.Prelude.{ℕ, ◌^◌, ◌<◌, ◌≤◌, ◌≡◌, true}
use Rattle.types.specs.declared.Layout.{Layout}
use Rattle.types.specs.declared.Instr.{Instr}
use Rattle.types.specs.Names.{most_bundles}
use Rattle.spec.specs.Bundles.{address_of, valid as isValid}

-- an instruction that is valid among n bundles, which end at or before 2 ^ 32
pub record Packable (l : Layout) (n : ℕ) (i : Instr) : Type 0 where
  pub some : 0 < n
  pub most : n ≤ most_bundles
  pub top : address_of l n ≤ 2 ^ 32
  pub valid : isValid n i ≡ true
