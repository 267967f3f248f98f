use Rattle.std.proofs.Common.{refl, arith}
use Rattle.policy_spec.proofs.precedence.Laws.{event_below, names_none, names_more}
use Rattle.policy_precedence.proofs.pairs.named_events.Goals as goal

pub loop-e-init : goal.loop-e-init
loop-e-init c = names_none _

pub overflow_shl-names : goal.overflow_shl-names
overflow_shl-names c = omega (arith, event_below c.args.pairs.now c.requires c.loop-e.e-index c.loop-e-test.true)

pub loop-e-preserved : goal.loop-e-preserved
loop-e-preserved c = names_more _ _ _ _ c.loop-e.invariant refl (event_below c.args.pairs.now c.requires c.loop-e.e-index c.loop-e-test.true)
