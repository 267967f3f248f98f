use Rattle.std.proofs.Common.{rules}
use Rattle.policy_merge.proofs.Laws.{smaller_is}
use Rattle.policy_merge.proofs.smaller.Goals as goal

pub returns : goal.returns
returns c = smaller_is _ _ c.args.c c.args.d _ c.from_fn.ensures.items (λ i r f' k. search rules)
