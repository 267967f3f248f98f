-- All claims of this crate, one field each. Their proof is `proved` in proofs/Proved.antt.
use Rattle.changes.specs.Claims.{SilentFirst, SilentRuns, ListsBefore, OldRefused}
use Rattle.changes.specs.Sample.{SampleHolds}

pub record Proved : Type 0 where
  pub silent_first : SilentFirst
  pub silent_runs : SilentRuns
  pub lists_before : ListsBefore
  pub old_refused : OldRefused
  pub sample_holds : SampleHolds
