-- Tests the words of a GOX bundle.
use Rattle.std.specs.Prelude.{ℕ, Bool}
use Rattle.types.specs.declared.Layout.{Layout}
use Rattle.types.specs.declared.Instr.TheVariants.{GOX}
use Rattle.spec.specs.Words.{a_of, b_of, c_of}
use Rattle.spec.specs.Bundles.{is_bundle}

-- whether four words are a GOX in a list of n bundles
abbrev pub gox_words : Layout → ℕ → ℕ → ℕ → ℕ → ℕ → Bool
gox_words l n w x y z = is_bundle l n (GOX (a_of w) (a_of z) (b_of z) (c_of z)) w x y z
