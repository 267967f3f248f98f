use Rattle.std.proofs.Common.{refl, sym}
use Rattle.policy_spec.proofs.precedence.Laws.{unknown_wrong, odd_wrong, few_right, many_wrong, pairs_valid}
use Rattle.policy_precedence.proofs.pairs.Pairs.checked.Goals as goal
use Rattle.policy_precedence.proofs.pairs.Pairs.checked.Goals.{then-not-events_known-via-then-not-events_known, then-not-events_known-via-else-not-events_known+then-pairs-ne0}

pub returns-then-not-events_known-clause-wrong : goal.returns-then-not-events_known-clause-wrong
returns-then-not-events_known-clause-wrong c = elim c.then-not-events_known.branch [
  | then-not-events_known-via-then-not-events_known w ↦ (unknown_wrong _ (rw c.events_known.ensures at w.if-not-events_known.true), refl)
  | then-not-events_known-via-else-not-events_known+then-pairs-ne0 w ↦ (odd_wrong _ w.if-pairs-ne0.true, refl)
]

pub invariant_of-result : goal.invariant_of-result
invariant_of-result c = record { valid = pairs_valid _ _ c.named_events-names.ensures (sym c.if-not-events_known.ensures) c.if-few.true }

pub returns-then-few-clause-right : goal.returns-then-few-clause-right
returns-then-few-clause-right c =
    (few_right _ _ c.named_events-names.ensures (sym c.if-not-events_known.ensures) c.if-pairs-ne0.false c.if-few.true, refl)

pub returns-else-few-clause-wrong : goal.returns-else-few-clause-wrong
returns-else-few-clause-wrong c = (many_wrong _ _ c.named_events-names.ensures (sym c.if-not-events_known.ensures) c.if-few.false, refl)
