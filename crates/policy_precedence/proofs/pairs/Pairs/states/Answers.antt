use Rattle.std.proofs.Common.{arith}
use Rattle.policy_spec.proofs.precedence.Laws.{ones_few, states_are}
use Rattle.policy_precedence.proofs.pairs.Pairs.states.Goals as goal

pub overflow_shl-result : goal.overflow_shl-result
overflow_shl-result c = omega (arith, ones_few _ _ c.args.self.now.valid)

pub returns : goal.returns
returns c = states_are _ _ c.args.self.now.valid
