-- The proof of all claims of this crate.
use Rattle.policy_determinise.specs.Proved.{Proved}
use Rattle.policy_determinise.proofs.Runs.{taken_writes_policy, made_right, allowed_runs, sets_are_ends, sets_exact}
use Rattle.policy_determinise.proofs.Samples.{worked_examples}

pub proved : Proved
proved =
    record {
      taken_writes_policy = taken_writes_policy;
      made_right = made_right;
      allowed_runs = allowed_runs;
      sets_are_ends = sets_are_ends;
      sets_exact = sets_exact;
      worked_examples = worked_examples;
    }
