-- When a policy is right by itself, without a layout.
use Rattle.std.specs.Prelude.{◌*◌, Bool, ◌&&◌, length, eqb, ltb}
use Rattle.types.specs.Names.{events}
use Rattle.spec.specs.Policies.{Policy, states_right, entries_right}

-- S is from 1 to 16, the table has 16 × S bytes, the start is below S, and each byte is below S or 255
unfoldable pub table_right : Policy → Bool
table_right p = states_right p.states && eqb (length p.table) (events * p.states) && ltb p.start p.states && entries_right p.states p.table
