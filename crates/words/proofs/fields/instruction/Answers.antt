use borrow.Author.Rules.{rules}
use Rattle.spec.proofs.GuestWords.{instr_is, instr_plain, instr_event}
use Rattle.words.proofs.fields.instruction.Goals as goal

pub returns-in-0 : goal.returns-in-0
returns-in-0 c = search (instr_is, rules)

pub returns-in-8 : goal.returns-in-8
returns-in-8 c = search (instr_is, rules)

pub returns-in-9 : goal.returns-in-9
returns-in-9 c = search (instr_is, rules)

pub returns-in-10 : goal.returns-in-10
returns-in-10 c = search (instr_is, rules)

pub returns-in-11 : goal.returns-in-11
returns-in-11 c = search (instr_is, rules)

pub returns-in-1-to-7 : goal.returns-in-1-to-7
returns-in-1-to-7 c = search (instr_plain, rules)

pub returns-in_default : goal.returns-in_default
returns-in_default c = search (instr_event, rules)
