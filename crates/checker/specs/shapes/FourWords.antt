-- Tests four words against every shape.
use Rattle.std.specs.Prelude.{ℕ, Bool, ◌&&◌, ◌||◌, eqb}
use Rattle.types.specs.declared.Layout.{Layout}
use Rattle.types.specs.Names.{command}
use Rattle.spec.specs.Words.{kind_of}
use Rattle.spec.specs.Bundles.{decode_bundle, is_bundle}

-- whether four words are a bundle; it must be HALT if no more follow
abbrev pub passes_of : Layout → ℕ → ℕ → ℕ → ℕ → ℕ → Bool → Bool
passes_of l n w x y z more = is_bundle l n (decode_bundle l w y z) w x y z && (more || eqb (kind_of w) command.halt)
