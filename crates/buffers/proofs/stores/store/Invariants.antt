use Rattle.buffers.proofs.stores.Storing.{Stored}
use Rattle.buffers.proofs.stores.store.Given as goal

abbrev pub invariant-loop-i : goal.invariant-loop-i
invariant-loop-i g l = Stored l.initial.to l.at l.from l.i l.to
