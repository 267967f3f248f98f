use Rattle.std.proofs.Common.{rules}
use Rattle.policy_merge.specs.Pairs.{pair_after}
use Rattle.policy_merge.specs.Results.{policy_of_side}
use Rattle.policy_merge.proofs.Pairs.{start_pairs}
use Rattle.policy_merge.proofs.explore.Goals as goal

pub returns : goal.returns
returns c =
    let a = policy_of_side c.args.one.now in
    let b = policy_of_side c.args.other.now in
    rw c.pair-start.ensures at (c.explore.ensures (pair_after a b) (rw c.pair-start.ensures (start_pairs a b)) (λ x n r _ _ k. search rules))
