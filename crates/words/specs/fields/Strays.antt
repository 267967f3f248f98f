-- The reserved bits of each kind of word, computed from the limits of its fields.
use Rattle.std.specs.Prelude.{ℕ, ◌+◌, ◌-◌, ◌*◌, ◌^◌, cond, eqb}
use Rattle.types.specs.declared.Limits.{Limits}
use Rattle.types.specs.Names.{top_word}

-- a register field's reserved bits: all four if the kind lacks the field, else none
abbrev pub reserved_bits : ℕ → ℕ
reserved_bits n = cond (eqb n 0) 15 0

-- all reserved bits of a kind: those of the fields that it lacks, those above the limits of c and v, and bits 24 to 31
abbrev pub stray_of : Limits → ℕ
stray_of l =
    reserved_bits l.d * 2 ^ 8 + reserved_bits l.a * 2 ^ 12 + reserved_bits l.b * 2 ^ 16 + (15 - l.c) * 2 ^ 20 + 255 * 2 ^ 24 + (top_word - l.v) * 2 ^ 32
