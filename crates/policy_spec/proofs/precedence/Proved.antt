-- The proof of all claims of this module.
use Rattle.policy_spec.specs.precedence.Proved.{Proved}
use Rattle.policy_spec.proofs.precedence.Policies.{taken_writes_policy, made_right}
use Rattle.policy_spec.proofs.precedence.Orders.{allowed_in_order, states_are_maps}
use Rattle.policy_spec.proofs.precedence.Unreachable.{unreachable_allowed}
use Rattle.policy_spec.proofs.precedence.Samples.{worked_examples}

pub proved : Proved
proved =
    record {
      taken_writes_policy = taken_writes_policy;
      made_right = made_right;
      allowed_in_order = allowed_in_order;
      states_are_maps = states_are_maps;
      unreachable_exact = unreachable_allowed;
      worked_examples = worked_examples;
    }
