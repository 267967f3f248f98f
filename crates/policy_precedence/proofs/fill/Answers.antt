use Rattle.std.proofs.Common.{arith}
use Rattle.policy_spec.proofs.maps.Tables.{fill_none, fill_more}
use Rattle.policy_spec.proofs.tables.Arrows.{entry_is}
use Rattle.policy_spec.proofs.precedence.Laws.{arrow_fits}
use Rattle.policy_precedence.proofs.fill.Goals as goal

pub loop-i-init : goal.loop-i-init
loop-i-init c = fill_none _ _

pub overflow_cast-entry : goal.overflow_cast-entry
overflow_cast-entry c = record { fits = rw (entry_is _ _ _ c.arrow.ensures.arrow c.unwrap_or.ensures) (arrow_fits _ _ c.args.pairs.now.valid _ _ (omega (arith, c.requires)) (omega arith)) }

pub loop-i-preserved : goal.loop-i-preserved
loop-i-preserved c = fill_more _ _ _ _ _ c.loop-i.invariant c.loop-i-test.true (entry_is _ _ _ c.arrow.ensures.arrow c.unwrap_or.ensures)
