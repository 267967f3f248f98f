-- All claims of this crate, one field each. Their proof is `proved` in proofs/Proved.antt.
use Rattle.samples.specs.Tray.{TrayHolds}
use Rattle.samples.specs.Sample.{SampleHolds}
use Rattle.samples.specs.Trial.{TrialHolds}

pub record Proved : Type 0 where
  pub tray_holds : TrayHolds
  pub sample_holds : SampleHolds
  pub trial_holds : TrialHolds
