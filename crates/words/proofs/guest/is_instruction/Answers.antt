use borrow.Author.Rules.{rules}
use Rattle.words.proofs.guest.RefusalLaws.{clean_unknown, clean_is}
use Rattle.words.proofs.guest.is_instruction.Goals as goal

pub returns-then-k-gt-TOP_KIND : goal.returns-then-k-gt-TOP_KIND
returns-then-k-gt-TOP_KIND c = search (clean_unknown, rules)

pub returns : goal.returns
returns c = search (clean_is, rules)
