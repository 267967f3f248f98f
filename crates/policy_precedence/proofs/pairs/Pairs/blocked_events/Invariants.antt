use Rattle.std.proofs.Common.{◌≡◌}
use Rattle.policy_spec.specs.maps.Maps.{map_where}
use Rattle.policy_spec.specs.precedence.Precedence.{blocked}
use Rattle.policy_precedence.proofs.pairs.Pairs.blocked_events.Given as goal

-- invariant: the events so far
abbrev pub invariant-loop-e : goal.invariant-loop-e
invariant-loop-e l = l.map ≡ map_where (blocked l.self.pairs.now l.s) l.e
