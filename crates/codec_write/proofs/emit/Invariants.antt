use Prim.Native.Nat.{◌+◌, ◌≤◌}
use lib.ListN.{length, drop}
use Rattle.spec.specs.Bytes.{bytes_of}
use Rattle.codec_write.proofs.Storing.{Stored}
use Rattle.codec_write.proofs.emit.Given as goal

abbrev pub invariant-loop-w : goal.invariant-loop-w
invariant-loop-w l = record {
  stored : Stored bytes_of l.words l.initial.bytes l.at l.w-index l.to l.bytes;
  room : l.to + length (bytes_of (drop l.w-index l.words)) ≤ length l.bytes;
}
