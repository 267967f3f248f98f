-- All claims of this module, one field each. Their proof is `proved` in proofs/engine/Proved.antt.
use Rattle.samples.specs.engine.Sample.{SampleHolds}

pub record Proved : Type 0 where
  pub sample_holds : SampleHolds
