use Rattle.policy_determinise.proofs.Laws.{below_is}
use Rattle.policy_determinise.proofs.fits_states.Goals as goal

pub returns : goal.returns
returns c = rw c.from.ensures (below_is c.args.m c.args.states c.requires)
