use Prim.Native.Nat.{◌≤◌, ◌*◌, ◌+◌}
use mathlib.Core.Path.{◌≡◌}
use lib.ListN.{length, drop}
use Rattle.types.specs.Names.{room_for}
use Rattle.spec.specs.Words.{word_refusal, first_refused}
use Rattle.spec.specs.Bytes.{bytes_of, routine_of}
use Rattle.codec_write.proofs.measure.Given as goal

abbrev pub invariant-loop-i : goal.invariant-loop-i
invariant-loop-i l = let whole = length (routine_of l.words) in record {
  most : l.size ≤ 2 + 10 * l.i;
  left : l.size + length (bytes_of (drop l.i l.words)) ≡ whole;
  clean : first_refused word_refusal l.words 0 (room_for l.room whole) ≡ first_refused word_refusal (drop l.i l.words) l.i (room_for l.room whole);
}
