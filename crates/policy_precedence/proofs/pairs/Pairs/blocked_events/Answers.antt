use Rattle.std.proofs.Common.{ap, not}
use Rattle.policy_spec.proofs.precedence.Laws.{all_none, all_with, all_without, all_fits}
use Rattle.policy_precedence.proofs.pairs.Pairs.blocked_events.Goals as goal
use Rattle.policy_precedence.proofs.pairs.Pairs.blocked_events.Goals.{then-is_none, else-is_none}

pub loop-e-init : goal.loop-e-init
loop-e-init c = all_none _

pub overflow_add-map : goal.overflow_add-map
overflow_add-map c = record { fits = all_fits _ _ _ c.loop-e.invariant c.loop-e-test.true }

pub loop-e-preserved : goal.loop-e-preserved
loop-e-preserved c = elim c.if-is_none.branch [
  | then-is_none w ↦ rw w.map-is (all_with _ _ _ _ _ c.loop-e.invariant c.arrow.ensures.arrow (ap not w.if-is_none.ensures) c.loop-e-test.true)
  | else-is_none w ↦ rw w.map-is (all_without _ _ _ _ _ c.loop-e.invariant c.arrow.ensures.arrow (ap not w.if-is_none.ensures))
]
