use mathlib.Core.Path.{◌≡◌, sym, ap, ◌∙◌}
use mathlib.Core.Bool.{true, not}
use borrow.Author.Rules.{rules}
use Rattle.spec.specs.Commands.{is_command}
use Rattle.words.proofs.command.Laws.{named_is, named_plain, named_stray, stray_is}
use Rattle.words.proofs.command.command.Goals as goal
use Rattle.words.proofs.command.command.Goals.{Else-not-is_command}

-- at the match, the word is a command
ok : (c : Else-not-is_command) → is_command c.args.w ≡ true
ok c = sym c.is_command.ensures ∙ c.if-not-is_command.false

pub returns-then-not-is_command : goal.returns-then-not-is_command
returns-then-not-is_command c = stray_is _ _ c.is_command.ensures (ap not c.if-not-is_command.true)

pub returns-in-0 : goal.returns-in-0
returns-in-0 c = search (named_is, ok, rules)

pub returns-in-1 : goal.returns-in-1
returns-in-1 c = search (named_is, ok, rules)

pub returns-in-12 : goal.returns-in-12
returns-in-12 c = search (named_is, ok, rules)

pub returns-in-13 : goal.returns-in-13
returns-in-13 c = search (named_is, ok, rules)

pub returns-in-14 : goal.returns-in-14
returns-in-14 c = search (named_is, ok, rules)

pub returns-in-15 : goal.returns-in-15
returns-in-15 c = search (named_is, ok, rules)

pub returns-in-16 : goal.returns-in-16
returns-in-16 c = search (named_is, ok, rules)

pub returns-in-17 : goal.returns-in-17
returns-in-17 c = search (named_is, ok, rules)

pub returns-in-18 : goal.returns-in-18
returns-in-18 c = search (named_is, ok, rules)

pub returns-in-19 : goal.returns-in-19
returns-in-19 c = search (named_is, ok, rules)

pub returns-in-2-to-11 : goal.returns-in-2-to-11
returns-in-2-to-11 c = search (named_plain, ok, rules)

pub returns-in_default : goal.returns-in_default
returns-in_default c = search (named_stray, ok, rules)
