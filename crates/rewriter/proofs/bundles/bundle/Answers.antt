use borrow.Author.Rules.{rules}
use Rattle.words.proofs.BundleWords.{kind_fits, jump_fits, lay_halt, lay_plain, lay_load, lay_store, lay_goif, lay_event}
use Rattle.rewriter.proofs.bundles.Bases.{target_fits, laid_gox}
use Rattle.rewriter.proofs.bundles.bundle.Goals as goal

-- a plain instruction's command
pub overflow_add-k : goal.overflow_add-k
overflow_add-k c = search (kind_fits, rules)

-- a GOIF's address
pub overflow_mul-v : goal.overflow_mul-v
overflow_mul-v c = search (jump_fits, rules)

pub overflow_add-base : goal.overflow_add-base
overflow_add-base c = search (target_fits, rules)

-- the four words of each instruction, in the order of the match
pub returns-in-HALT : goal.returns-in-HALT
returns-in-HALT c = search (lay_halt, rules)

pub returns-in-PLAIN : goal.returns-in-PLAIN
returns-in-PLAIN c = search (lay_plain, rules)

pub returns-in-LOAD : goal.returns-in-LOAD
returns-in-LOAD c = search (lay_load, rules)

pub returns-in-STORE : goal.returns-in-STORE
returns-in-STORE c = search (lay_store, rules)

pub returns-in-GOIF : goal.returns-in-GOIF
returns-in-GOIF c = search (lay_goif, rules)

pub returns-in-GOX : goal.returns-in-GOX
returns-in-GOX c = search (laid_gox, rules)

pub returns-in-EVENT : goal.returns-in-EVENT
returns-in-EVENT c = search (lay_event, rules)
