-- All claims of this module, one field each. Their proof is `proved` in proofs/reachability/Proved.antt.
use Rattle.policy_spec.specs.reachability.Claims.{NodesExact, TakenReaches, ReachRight, AllowedReaches, WorkedExamples}

pub record Proved : Type 0 where
  pub nodes_exact : NodesExact
  pub taken_reaches : TakenReaches
  pub reach_right : ReachRight
  pub allowed_reaches : AllowedReaches
  pub worked_examples : WorkedExamples
