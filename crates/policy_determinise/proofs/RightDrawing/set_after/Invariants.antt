use Rattle.std.proofs.Common.{◌≡◌}
use Rattle.policy_determinise.specs.Drawings.{union_of}
use Rattle.policy_determinise.proofs.RightDrawing.set_after.Given as goal

-- invariant: the union over the states so far
abbrev pub invariant-loop-k : goal.invariant-loop-k
invariant-loop-k l = l.set ≡ union_of l.self.arrows.now l.x l.n l.k
