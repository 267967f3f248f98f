use Rattle.std.proofs.Common.{sym}
use Rattle.policy_determinise.proofs.Laws.{union_start, union_with, union_without}
use Rattle.policy_determinise.proofs.RightDrawing.set_after.Goals as goal
use Rattle.policy_determinise.proofs.RightDrawing.set_after.Goals.{then-has_bit, else-has_bit}

pub loop-k-init : goal.loop-k-init
loop-k-init c = union_start _ _ _

pub loop-k-preserved : goal.loop-k-preserved
loop-k-preserved c = elim c.if-has_bit.branch [
  | then-has_bit w ↦ rw w.set-is (union_with _ _ _ _ _ c.requires c.loop-k.invariant (rw c.from.ensures at (sym w.if-has_bit.ensures)))
  | else-has_bit w ↦ rw w.set-is (union_without _ _ _ _ _ c.requires c.loop-k.invariant (rw c.from.ensures at (sym w.if-has_bit.ensures)))
]
