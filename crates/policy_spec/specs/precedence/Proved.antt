-- All claims of this module, one field each. Their proof is `proved` in proofs/precedence/Proved.antt.
use Rattle.policy_spec.specs.precedence.Claims.{TakenWritesPolicy, MadeRight, AllowedInOrder, StatesAreMaps, UnreachableExact, WorkedExamples}

pub record Proved : Type 0 where
  pub taken_writes_policy : TakenWritesPolicy
  pub made_right : MadeRight
  pub allowed_in_order : AllowedInOrder
  pub states_are_maps : StatesAreMaps
  pub unreachable_exact : UnreachableExact
  pub worked_examples : WorkedExamples
