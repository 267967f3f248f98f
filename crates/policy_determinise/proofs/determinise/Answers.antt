use Rattle.std.proofs.Common.{sym, ◌∙◌}
use Rattle.policy_determinise.proofs.Laws.{bad_drawing, makes}
use Rattle.policy_determinise.proofs.Runs.{fit_of}
use Rattle.policy_determinise.proofs.determinise.Goals as goal

pub returns-then-not-drawing_right : goal.returns-then-not-drawing_right
returns-then-not-drawing_right c = rw c.into.ensures (bad_drawing _ _ (sym c.drawing_right.ensures ∙ c.if-not-drawing_right.true))

pub returns : goal.returns
returns c =
    makes _ _ _ _ _ (sym c.drawing_right.ensures ∙ c.if-not-drawing_right.false) c.explore.ensures c.write_policy.ensures.made c.write_policy.ensures.table

pub invariant_of-drawing : goal.invariant_of-drawing
invariant_of-drawing c = record { valid = fit_of _ (sym c.drawing_right.ensures ∙ c.if-not-drawing_right.false) }
