-- All claims of this crate, one field each. Their proof is `proved` in proofs/Proved.antt.
use Rattle.policy_merge.specs.Claims.{TakenMerges, MergedRight, AllowedByBoth, PairsAreStates, PairsExact, CeilingsOfBoth, SideInstalls, MergeCommutes, WorkedExamples}

pub record Proved : Type 0 where
  pub taken_merges : TakenMerges
  pub merged_right : MergedRight
  pub allowed_by_both : AllowedByBoth
  pub pairs_are_states : PairsAreStates
  pub pairs_exact : PairsExact
  pub ceilings_of_both : CeilingsOfBoth
  pub side_installs : SideInstalls
  pub merge_commutes : MergeCommutes
  pub worked_examples : WorkedExamples
