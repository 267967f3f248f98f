-- The proof of all claims of this crate.
use Rattle.policy_merge.specs.Proved.{Proved}
use Rattle.policy_merge.proofs.Pairs.{taken_merges, merged_right, allowed_by_both, pairs_are_states, pairs_exact, ceilings_of_both, side_installs}
use Rattle.policy_merge.proofs.Swaps.{merge_commutes}
use Rattle.policy_merge.proofs.Samples.{worked_examples}

pub proved : Proved
proved =
    record {
      taken_merges = taken_merges;
      merged_right = merged_right;
      allowed_by_both = allowed_by_both;
      pairs_are_states = pairs_are_states;
      pairs_exact = pairs_exact;
      ceilings_of_both = ceilings_of_both;
      side_installs = side_installs;
      merge_commutes = merge_commutes;
      worked_examples = worked_examples;
    }
