-- The proof of all claims of this crate.
use Rattle.sandbox_spec.specs.Proved.{Proved}
use Rattle.sandbox_spec.proofs.Loading.{loads}

pub proved : Proved
proved = record { loads = loads }
