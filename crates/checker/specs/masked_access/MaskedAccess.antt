-- Tests the words of a LOAD or STORE bundle.
use Rattle.std.specs.Prelude.{ℕ, Bool, ◌&&◌, cond, ltb, eqb}
use Rattle.types.specs.declared.Layout.{Layout}
use Rattle.types.specs.declared.Instr.{Instr}
use Rattle.types.specs.declared.Instr.TheVariants.{LOAD, STORE}
use Rattle.types.specs.Names.{guest_registers, hidden, command}
use Rattle.spec.specs.Words.{kind_of, d_of, a_of, b_of, pack_of}
use Rattle.spec.specs.Bundles.{is_bundle}

-- whether two words are the mask of LOAD and STORE, and whether the third is that of each
abbrev pub mask_words : Layout → ℕ → ℕ → Bool
mask_words l w x = ltb (a_of w) guest_registers && eqb w (pack_of command.andi hidden (a_of w) 0 0 l.high) && eqb x (pack_of command.ori hidden hidden 0 0 l.low)

abbrev pub load_word : ℕ → Bool
load_word y = ltb (d_of y) guest_registers && eqb y (pack_of command.load (d_of y) hidden 0 0 0)

abbrev pub store_word : ℕ → Bool
store_word y = ltb (b_of y) guest_registers && eqb y (pack_of command.store 0 hidden (b_of y) 0 0)

-- the instruction, LOAD or STORE, by the third word
abbrev pub access_of : ℕ → ℕ → Instr
access_of w y = cond (eqb (kind_of y) command.load) (LOAD (d_of y) (a_of w)) (STORE (a_of w) (b_of y))

-- whether four words are a LOAD or a STORE; how long the list is makes no difference
abbrev pub access_words : Layout → ℕ → ℕ → ℕ → ℕ → Bool
access_words l w x y z = is_bundle l 0 (access_of w y) w x y z
