use Rattle.policy_spec.proofs.precedence.Laws.{handed_on, no_pairs, no_room, makes, unreachable_fits}
use Rattle.policy_precedence.proofs.make.Goals as goal

pub returns-in_err-pairs : goal.returns-in_err-pairs
returns-in_err-pairs c =
    let refused = c.in_err-pairs.ensures.wrong in
    rw (handed_on c.from_residual.result _ c.from_residual.ensures.1, refused.1) (no_pairs _ _ refused.0)

pub returns-then-table-bytes : goal.returns-then-table-bytes
returns-then-table-bytes c =
    let made = c.in_ok-pairs.ensures.right in
    rw c.into.ensures (no_room _ _ made.0 (rw (c.states-states.ensures, made.1) at c.if-table-bytes.true))

pub overflow_cast-result-2 : goal.overflow_cast-result-2
overflow_cast-result-2 c = record { fits = rw c.unreachable.ensures (unreachable_fits _) }

pub returns : goal.returns
returns c =
    let made = c.in_ok-pairs.ensures.right in
    rw (c.fill.ensures, c.unreachable.ensures, c.states-states.ensures, made.1) (makes _ _ made.0 (rw (c.states-states.ensures, made.1) at c.if-table-bytes.false))
