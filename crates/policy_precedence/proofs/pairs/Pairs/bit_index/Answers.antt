use Rattle.policy_spec.proofs.precedence.Laws.{below_is}
use Rattle.policy_precedence.proofs.pairs.Pairs.bit_index.Goals as goal

pub returns : goal.returns
returns c = below_is c.args.self.now.names c.args.e c.requires
