-- Tests whether the register fields of a word name only guest registers.
use Rattle.std.specs.Prelude.{ℕ, Bool, ◌&&◌, ltb}
use Rattle.types.specs.Names.{guest_registers}
use Rattle.spec.specs.Words.{d_of, a_of, b_of}

-- whether no register field of a word names the hidden register
abbrev pub only_guest_registers : ℕ → Bool
only_guest_registers w = ltb (d_of w) guest_registers && ltb (a_of w) guest_registers && ltb (b_of w) guest_registers
