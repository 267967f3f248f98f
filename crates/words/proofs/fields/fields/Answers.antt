use borrow.Author.Rules.{rules}
use Rattle.spec.proofs.GuestWords.{fields_are}
use Rattle.words.proofs.fields.fields.Goals as goal

pub returns : goal.returns
returns c = search (fields_are, rules)
