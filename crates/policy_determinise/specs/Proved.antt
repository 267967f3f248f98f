-- All claims of this crate, one field each. Their proof is `proved` in proofs/Proved.antt.
use Rattle.policy_determinise.specs.Claims.{TakenWritesPolicy, MadeRight, AllowedRuns, SetsAreEnds, SetsExact, WorkedExamples}

pub record Proved : Type 0 where
  pub taken_writes_policy : TakenWritesPolicy
  pub made_right : MadeRight
  pub allowed_runs : AllowedRuns
  pub sets_are_ends : SetsAreEnds
  pub sets_exact : SetsExact
  pub worked_examples : WorkedExamples
