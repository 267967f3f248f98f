use Prim.Native.Nat.{◌+◌, ◌≤◌}
use lib.ListN.{length, drop}
use Rattle.spec.specs.Bytes.{quad_out}
use Rattle.codec_write.proofs.Storing.{Stored}
use Rattle.codec_write.proofs.encode.Fields.{bytes_out}
use Rattle.codec_write.proofs.encode.encode_word.Given as goal

abbrev pub invariant-loop-x : goal.invariant-loop-x
invariant-loop-x l = record {
  stored : Stored bytes_out l.x-items l.initial.bytes (l.at + 1) l.x-index l.next l.bytes;
  room : l.next + length (bytes_out (drop l.x-index l.x-items)) + length (quad_out l.f.v) ≤ length l.bytes;
}
