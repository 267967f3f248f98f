use borrow.Author.Rules.{rules}
use mathlib.Core.Path.{sym}
use Rattle.words.proofs.command.Masks.{unknown}
use Rattle.words.proofs.command.is_command.Goals as goal

pub is_of_kind-requires : goal.is_of_kind-requires
is_of_kind-requires c = (c.if-k-lt-KINDS.true, sym c.kind-k.ensures)

pub returns : goal.returns
returns c = search (unknown, rules)
