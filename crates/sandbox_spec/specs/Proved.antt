-- All claims of this crate, one field each. Their proof is `proved` in proofs/Proved.antt.
use Rattle.sandbox_spec.specs.Claims.{Loads}

pub record Proved : Type 0 where
  pub loads : Loads
