-- All claims of this crate, one field each. Their proof is `proved` in proofs/Proved.antt.
use Rattle.capi_spec.specs.Claims.{MachineRoundTrips, HostIsolation, HostNoninterference}
use Rattle.capi_spec.specs.Sample.{SampleHolds}

pub record Proved : Type 0 where
  pub machine_round_trips : MachineRoundTrips
  pub host_isolation : HostIsolation
  pub host_noninterference : HostNoninterference
  pub sample_holds : SampleHolds
