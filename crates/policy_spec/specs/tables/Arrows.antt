-- The arrow that an entry of a table stands for.
use Rattle.std.specs.Prelude.{ℕ, cond, eqb, Option, None, Some}
use Rattle.types.specs.Names.{no_arrow}

abbrev pub arrow_from : ℕ → Option ℕ
arrow_from a = cond (eqb a no_arrow) None (Some a)
