use Rattle.capi.proofs.merge.Laws.{narrow_merged, hosted}
use Rattle.capi.proofs.merge.hemdroas_merge.Goals as goal

pub answer_of-requires : goal.answer_of-requires
answer_of-requires c = rw c.from.ensures (narrow_merged _ _ _ _ _ _ c.in-Ok.ensures.merged)

pub answer_of-requires-in-Err : goal.answer_of-requires-in-Err
answer_of-requires-in-Err c = rw c.from-in-Err.ensures (narrow_merged _ _ _ _ _ _ c.in-Err.ensures.merged)

pub returns-in-Ok : goal.returns-in-Ok
returns-in-Ok c =
    let one = c.side_of.ensures in
    let other = c.side_of-2.ensures in
    rw (c.answer_of.ensures, c.from.ensures, c.merged_numbers.ensures)
    (hosted _ _ _ _ _ _ _ _ _ one.policy one.ceilings other.policy other.ceilings _ _ c.in-Ok.ensures.merged c.in-Ok.ensures.table)

pub returns-in-Err : goal.returns-in-Err
returns-in-Err c =
    let one = c.side_of.ensures in
    let other = c.side_of-2.ensures in
    rw (c.answer_of-in-Err.ensures, c.from-in-Err.ensures)
    (hosted _ _ _ _ _ _ _ _ _ one.policy one.ceilings other.policy other.ceilings _ _ c.in-Err.ensures.merged c.in-Err.ensures.table)
