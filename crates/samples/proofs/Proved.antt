-- The proof of all claims of this crate.
use Rattle.samples.specs.Proved.{Proved}
use Rattle.samples.proofs.Tray.{tray_holds}
use Rattle.samples.proofs.Samples.{sample_holds}
use Rattle.samples.proofs.Trial.{trial_holds}

pub proved : Proved
proved = record { tray_holds = tray_holds; sample_holds = sample_holds; trial_holds = trial_holds }
