use Rattle.buffers.proofs.stores.Storing.{Stored}
use Rattle.buffers.proofs.stores.store_bytes.Given as goal

abbrev pub invariant-loop-i : goal.invariant-loop-i
invariant-loop-i l = Stored l.initial.cells l.at l.bytes l.i l.cells
