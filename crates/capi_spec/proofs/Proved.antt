-- The proof of all claims of this crate.
use Rattle.capi_spec.specs.Proved.{Proved}
use Rattle.capi_spec.proofs.Samples.{sample_holds}
use Rattle.capi_spec.proofs.Calls.{machine_round_trips, host_isolation, host_noninterference}

pub proved : Proved
proved = record { machine_round_trips = machine_round_trips; host_isolation = host_isolation; host_noninterference = host_noninterference; sample_holds = sample_holds }
