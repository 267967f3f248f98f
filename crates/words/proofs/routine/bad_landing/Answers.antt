use borrow.Author.Rules.{rules}
use Rattle.words.proofs.routine.RefusalLaws.{lands}
use Rattle.words.proofs.routine.bad_landing.Goals as goal

pub returns : goal.returns
returns c = search (lands, rules)
