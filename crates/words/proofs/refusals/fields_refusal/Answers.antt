use borrow.Author.Rules.{rules}
use Rattle.words.proofs.refusals.RefusalLaws.{judge_kind, judge_foreign, judge_high, judge_good}
use Rattle.words.proofs.refusals.fields_refusal.Goals as goal

pub returns-then-f-gt-TOP_KIND : goal.returns-then-f-gt-TOP_KIND
returns-then-f-gt-TOP_KIND c = search (judge_kind, rules)

pub returns-then-foreign-has_stray : goal.returns-then-foreign-has_stray
returns-then-foreign-has_stray c = search (judge_foreign, rules)

pub returns-then-has_high : goal.returns-then-has_high
returns-then-has_high c = search (judge_high, rules)

pub returns : goal.returns
returns c = search (judge_good, rules)
