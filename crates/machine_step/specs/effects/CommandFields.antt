-- Commands whose registers and numbers are in range. Every decoded word is one.
use Rattle.std.specs.Prelude.{◌<◌, ◌≤◌}
use Rattle.types.specs.declared.Command.{Command}
use Rattle.types.specs.declared.Command.TheVariants.{Nop, Halt, Plain, Load, Store, GoIf, GoReg, Look, StopIf, Keep, Event, Invalid}
use Rattle.types.specs.Names.{registers, top_word}

-- the registers that the command reads, and its number
unfoldable pub FieldsInRange : Command → Type 0
FieldsInRange Nop = Unit {0}
FieldsInRange Halt = Unit {0}
FieldsInRange (Plain k d a b v) = (a < registers) × (b < registers) × (v ≤ top_word)
FieldsInRange (Load d a) = a < registers
FieldsInRange (Store a b) = (a < registers) × (b < registers)
FieldsInRange (GoIf a b c v) = (a < registers) × (b < registers) × (v ≤ top_word)
FieldsInRange (GoReg d a b c) = (d < registers) × (a < registers) × (b < registers)
FieldsInRange (Look d v) = v ≤ top_word
FieldsInRange (StopIf d) = d < registers
FieldsInRange (Keep d) = d < registers
FieldsInRange (Event v) = v ≤ top_word
FieldsInRange Invalid = Unit {0}
