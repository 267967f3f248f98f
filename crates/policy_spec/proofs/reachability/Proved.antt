-- The proof of all claims of this module.
use Rattle.policy_spec.specs.reachability.Proved.{Proved}
use Rattle.policy_spec.proofs.reachability.Reach.{nodes_exact, taken_reaches, reach_right, allowed_reaches}
use Rattle.policy_spec.proofs.reachability.Samples.{worked_examples}

pub proved : Proved
proved =
    record {
      nodes_exact = nodes_exact;
      taken_reaches = taken_reaches;
      reach_right = reach_right;
      allowed_reaches = allowed_reaches;
      worked_examples = worked_examples;
    }
