use Rattle.policy_reachability.proofs.writing.Laws.{Copied}
use Rattle.policy_reachability.proofs.writing.copy.Given as goal

-- invariant: the arrows so far are copied
abbrev pub invariant-loop-i : goal.invariant-loop-i
invariant-loop-i l = Copied l.arrows l.initial.table l.i l.table
