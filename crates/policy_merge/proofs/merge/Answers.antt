use Rattle.policy_merge.proofs.Laws.{merged_is, refused_is}
use Rattle.policy_merge.proofs.merge.Goals as goal

pub returns-in_err-made-clause-merged : goal.returns-in_err-made-clause-merged
returns-in_err-made-clause-merged c = refused_is _ _ _ _ _ _ _ c.in_err-made.ensures.made c.from_residual.ensures.1

pub returns-clause-merged : goal.returns-clause-merged
returns-clause-merged c = merged_is _ _ _ _ _ _ _ c.in_ok-made.ensures.made c.smaller.ensures
