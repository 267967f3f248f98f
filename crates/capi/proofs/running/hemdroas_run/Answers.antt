use Rattle.capi.proofs.running.Laws.{counts, left}
use borrow.Author.Rules.{rules}
use Rattle.capi.proofs.running.hemdroas_run.Goals as goal

pub run_answer_of-requires : goal.run_answer_of-requires
run_answer_of-requires c = counts _ _ _ _ _ _ _ _ _ _ c.lend-out.ensures.result c.ranges.budget.fits

pub returns : goal.returns
returns c = search (left, rules)
