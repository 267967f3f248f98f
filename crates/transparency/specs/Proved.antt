-- All claims of this crate, one field each. Their proof is `proved` in proofs/Proved.antt.
use Rattle.transparency.specs.Claims.{Transparent, EngineTransparent, TransparentPaused, TransparentNext, TransparentStep, TransparentResumed, EngineTransparentNext, EngineTransparentStep}
use Rattle.transparency.specs.Sample.{SampleHolds}

pub record Proved : Type 0 where
  pub transparent : Transparent
  pub engine_transparent : EngineTransparent
  pub transparent_paused : TransparentPaused
  pub transparent_next : TransparentNext
  pub transparent_step : TransparentStep
  pub transparent_resumed : TransparentResumed
  pub engine_transparent_next : EngineTransparentNext
  pub engine_transparent_step : EngineTransparentStep
  pub sample_holds : SampleHolds
