-- All claims of this module, one field each. Their proof is `proved` in proofs/engine/Proved.antt.
use Rattle.capi_spec.specs.engine.Claims.{EngineRoundTrips, HostEngineIsolation, HostEngineNoninterference, HostEntriesMix, HostUnjudgedIsolation, HostUnjudgedNoninterference}
use Rattle.capi_spec.specs.engine.Sample.{SampleHolds}

pub record Proved : Type 0 where
  pub engine_round_trips : EngineRoundTrips
  pub host_engine_isolation : HostEngineIsolation
  pub host_engine_noninterference : HostEngineNoninterference
  pub host_entries_mix : HostEntriesMix
  pub host_unjudged_isolation : HostUnjudgedIsolation
  pub host_unjudged_noninterference : HostUnjudgedNoninterference
  pub sample_holds : SampleHolds
