use Rattle.std.proofs.Common.{◌≡◌}
use Rattle.policy_spec.specs.precedence.Precedence.{iterate}
use Rattle.policy_precedence.proofs.pairs.Pairs.fixpoint.Given as goal

-- invariant: the steps so far
abbrev pub invariant-loop-i : goal.invariant-loop-i
invariant-loop-i l = l.s ≡ iterate l.self.pairs.now l.i
