-- The proof of all claims of this module.
use Rattle.capi_spec.specs.engine.Proved.{Proved}
use Rattle.capi_spec.proofs.engine.Calls.{engine_round_trips, host_engine_isolation, host_engine_noninterference, host_entries_mix, host_unjudged_isolation, host_unjudged_noninterference}
use Rattle.capi_spec.proofs.engine.Samples.{sample_holds}

pub proved : Proved
proved = record {
  engine_round_trips = engine_round_trips;
  host_engine_isolation = host_engine_isolation;
  host_engine_noninterference = host_engine_noninterference;
  host_entries_mix = host_entries_mix;
  host_unjudged_isolation = host_unjudged_isolation;
  host_unjudged_noninterference = host_unjudged_noninterference;
  sample_holds = sample_holds;
}
