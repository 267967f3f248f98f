use Rattle.forward.proofs.Scan.{Reaches}
use Rattle.forward.proofs.scan_words.Given as goal

abbrev pub invariant-loop-h : goal.invariant-loop-h
invariant-loop-h l = Reaches l.words l.h
