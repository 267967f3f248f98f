use Rattle.capi_values.proofs.layouts.Layouts.{ceilings_of}
use borrow.Author.Rules.{rules}
use Rattle.capi_values.proofs.layouts.ceilings_from.Goals as goal

pub returns : goal.returns
returns c = search (ceilings_of, rules)
