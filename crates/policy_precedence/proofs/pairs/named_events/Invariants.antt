use Rattle.std.proofs.Common.{◌≡◌}
use Rattle.types.specs.Names.{events}
use Rattle.policy_spec.specs.maps.Maps.{map_where}
use Rattle.policy_spec.specs.precedence.Precedence.{named_in}
use Rattle.policy_precedence.proofs.pairs.named_events.Given as goal

-- invariant: the events so far
abbrev pub invariant-loop-e : goal.invariant-loop-e
invariant-loop-e l = l.names ≡ map_where (named_in l.pairs l.e-index) events
