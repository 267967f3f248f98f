-- All claims of this crate, one field each. Their proof is `proved` in proofs/Proved.antt.
use Rattle.forward_spec.specs.Claims.{ChecksAgree, ForwardWritten, ForwardRead, Bounded, TakesStep, Finishes, FinishesIn, FinishesAtOnce, AlwaysFinish, FinishesResumed, RewrittenFinishesIn}
use Rattle.forward_spec.specs.Sample.{Answers, SampleReaches, Stepwise}

pub record Proved : Type 0 where
  pub checks_agree : ChecksAgree
  pub forward_written : ForwardWritten
  pub forward_read : ForwardRead
  pub bounded : Bounded
  pub takes_step : TakesStep
  pub finishes : Finishes
  pub finishes_in : FinishesIn
  pub finishes_at_once : FinishesAtOnce
  pub always_finish : AlwaysFinish
  pub finishes_resumed : FinishesResumed
  pub rewritten_finishes_in : RewrittenFinishesIn
  pub answers : Answers
  pub reaches : SampleReaches
  pub stepwise : Stepwise
