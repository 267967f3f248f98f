use borrow.Author.Rules.{rules}
use Rattle.engine_step.proofs.fetch.Fetching.{fetched_fields}
use Rattle.engine_step.proofs.effects.next_effect.Goals as goal

pub invariant_of-instruction_effect : goal.invariant_of-instruction_effect
invariant_of-instruction_effect c = record { fields = search (fetched_fields, rules) }
