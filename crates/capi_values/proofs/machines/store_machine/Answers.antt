use Rattle.types.specs.Names.{registers}
use Rattle.capi_spec.proofs.Numbers.{record_left}
use borrow.Author.Rules.{rules}
use Rattle.capi_values.proofs.machines.store_machine.Goals as goal

pub returns : goal.returns
returns c = search (record_left registers, rules)
