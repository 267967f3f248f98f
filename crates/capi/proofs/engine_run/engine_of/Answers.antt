use Rattle.types.specs.Names.{guest_registers}
use Rattle.engine_spec.specs.Engines.{engine_of}
use Rattle.capi_spec.proofs.Numbers.{record_read}
use Rattle.capi.proofs.engine_run.engine_of.Goals as goal

pub returns : goal.returns
returns c =
    record_read guest_registers c.args.xs.now _ engine_of _ c.read_record-status.ensures.registers c.read_record-status.ensures.status
