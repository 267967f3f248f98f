use borrow.Author.Rules.{rules}
use Rattle.capi_values.proofs.layouts.Layouts.{layout_of_lem}
use Rattle.capi_values.proofs.layouts.layout_of.Goals as goal

pub returns : goal.returns
returns c = search (layout_of_lem, rules)
