use Rattle.capi.proofs.forward_class.Laws.{narrow_check_forward, checked_forward}
use borrow.Author.Rules.{rules}
use Rattle.capi.proofs.forward_class.hemdroas_check_forward.Goals as goal

pub answer_of-requires : goal.answer_of-requires
answer_of-requires c = search (narrow_check_forward, rules)

pub returns : goal.returns
returns c = search (checked_forward, rules)
