use borrow.Author.Tests.{not-true, not-false}
use borrow.Author.Rules.{rules}
use Rattle.machine.proofs.Runs.{taken_run, refused_run}
use Rattle.machine.proofs.run_value.Goals as goal

pub returns-then-not-fits : goal.returns-then-not-fits
returns-then-not-fits c = search (refused_run, not-true, rules)

pub returns : goal.returns
returns c = search (taken_run, not-false, rules)
