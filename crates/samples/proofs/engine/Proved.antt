-- The proof of all claims of this module.
use Rattle.samples.specs.engine.Proved.{Proved}
use Rattle.samples.proofs.engine.Samples.{sample_holds}

pub proved : Proved
proved = record { sample_holds = sample_holds }
