use Rattle.words.proofs.routine.RefusalLaws.{Reaches}
use Rattle.words.proofs.routine.first_refusal.Given as goal

abbrev pub invariant-loop-i : goal.invariant-loop-i
invariant-loop-i l = Reaches l.words l.i
