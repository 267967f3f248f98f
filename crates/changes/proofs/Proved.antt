-- The proof of all claims of this crate.
use Rattle.changes.specs.Proved.{Proved}
use Rattle.changes.proofs.Pauses.{silent_first}
use Rattle.changes.proofs.Runs.{silent_runs}
use Rattle.changes.proofs.Before.{lists_before}
use Rattle.changes.proofs.OldOrder.{old_refused}
use Rattle.changes.proofs.Samples.{sample_holds}

pub proved : Proved
proved = record { silent_first = silent_first; silent_runs = silent_runs; lists_before = lists_before; old_refused = old_refused; sample_holds = sample_holds }
