use Rattle.std.proofs.Common.{◌∙◌, arith}
use Rattle.policy_merge.proofs.Laws.{next_none, next_left, next_right, next_pair, node_is}
use Rattle.policy_merge.proofs.pair_after.Goals as goal

pub returns-in_err-checked_sub : goal.returns-in_err-checked_sub
returns-in_err-checked_sub c = rw c.from_residual.ensures (next_none _ _ _ _ (omega (arith, c.in_err-checked_sub.ensures)))

pub returns-in_err-s : goal.returns-in_err-s
returns-in_err-s c =
    let pair = c.in_ok-checked_sub.ensures in
    rw c.from_residual-in_err-s.ensures (next_left _ _ _ _ _ pair.0 (c.from-p.ensures ∙ pair.1) c.requires c.in_err-s.ensures.arrow)

pub returns-in_err-t : goal.returns-in_err-t
returns-in_err-t c =
    let pair = c.in_ok-checked_sub.ensures in
    rw c.from_residual-in_err-t.ensures (next_right _ _ _ _ _ pair.0 (c.from-p.ensures ∙ pair.1) c.requires _ c.in_ok-s.ensures.arrow c.in_err-t.ensures.arrow)

pub returns : goal.returns
returns c =
    let pair = c.in_ok-checked_sub.ensures in
    node_is _ _ c.new.ensures ∙ c.pair.ensures ∙ next_pair _ _ _ _ _ pair.0 (c.from-p.ensures ∙ pair.1) c.requires _ _ c.in_ok-s.ensures.arrow c.in_ok-t.ensures.arrow
