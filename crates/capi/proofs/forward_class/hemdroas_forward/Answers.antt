use Rattle.capi.proofs.forward_class.Laws.{narrow_forward, forward_is}
use borrow.Author.Rules.{rules}
use Rattle.capi.proofs.forward_class.hemdroas_forward.Goals as goal

pub answer_of-requires : goal.answer_of-requires
answer_of-requires c = search (narrow_forward, rules)

pub returns : goal.returns
returns c = search (forward_is, rules)
