-- Tests the words of an EVENT bundle.
use Rattle.std.specs.Prelude.{ℕ, Bool, ◌&&◌, ltb, eqb}
use Rattle.types.specs.Names.{hidden, events, command}
use Rattle.spec.specs.Words.{v_of, pack_of}

-- whether four words are an event bundle; LOOK and EVENT must name the same event
abbrev pub event_words : ℕ → ℕ → ℕ → ℕ → Bool
event_words w x y z =
    ltb (v_of w) events && eqb w (pack_of command.look hidden 0 0 0 (v_of w)) && eqb x (pack_of command.stopif hidden 0 0 0 0)
    && eqb y (pack_of command.event 0 0 0 0 (v_of w)) && eqb z (pack_of command.keep hidden 0 0 0 0)
