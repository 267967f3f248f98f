use Rattle.std.proofs.Common.{◌≡◌}
use Rattle.policy_spec.specs.precedence.Precedence.{firsts_in}
use Rattle.policy_precedence.proofs.pairs.Pairs.firsts_recorded.Given as goal

-- invariant: the pairs so far
abbrev pub invariant-loop-i : goal.invariant-loop-i
invariant-loop-i l = l.ok ≡ firsts_in l.self.pairs.now l.s l.e l.i
