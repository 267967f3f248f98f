-- What the fast path asks of its caller, and what it packs.
use Rattle.std.specs.Prelude.{ℕ, ◌<◌}
use Rattle.types.specs.declared.Fields.{Fields}

-- the most bytes of an instruction: the map, five fields of one byte, v
abbrev pub longest : ℕ
longest = 10

-- fields whose word has room for them, if those too wide for it are rejected afterwards
pub record FieldsFit (f : Fields) : Type 0 where
  pub kind : f.kind < 256
  pub d : f.d < 256
  pub a : f.a < 256
  pub b : f.b < 256
  pub c : f.c < 256
  pub v : f.v < 4294967296
