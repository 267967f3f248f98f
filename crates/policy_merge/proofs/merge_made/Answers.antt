use Rattle.std.proofs.Common.{arith}
use Rattle.policy_merge.proofs.Laws.{bad_policy, sides, makes}
use Rattle.policy_merge.proofs.merge_made.Goals as goal

pub returns-then-not-right : goal.returns-then-not-right
returns-then-not-right c = rw c.into.ensures (bad_policy _ _ _ _ c.right.ensures c.right-2.ensures _ c.if-not-right.true)

pub explore-requires : goal.explore-requires
explore-requires c = let s = sides _ _ _ _ c.right.ensures c.right-2.ensures c.if-not-right.false in (omega (arith, s.0), omega (arith, s.1))

pub returns : goal.returns
returns c = makes _ _ _ _ c.right.ensures c.right-2.ensures _ _ _ _ c.if-not-right.false c.explore.ensures c.write_policy.ensures.made c.write_policy.ensures.table
