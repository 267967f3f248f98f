use Rattle.forward.proofs.list.Scan.{Reaches}
use Rattle.forward.proofs.list.scan_bundles.Given as goal

abbrev pub invariant-loop-h : goal.invariant-loop-h
invariant-loop-h l = Reaches l.l l.commands l.h
