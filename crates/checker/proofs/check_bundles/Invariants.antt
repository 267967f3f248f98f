use Rattle.checker.proofs.Passing.{Reaches}
use Rattle.checker.proofs.check_bundles.Given as goal

abbrev pub invariant-loop-h : goal.invariant-loop-h
invariant-loop-h l = Reaches l.list.layout l.list.bundles l.commands l.h
