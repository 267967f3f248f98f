use mathlib.Core.Path.{◌∙◌}
use lib.Dec.{lit<}
use Rattle.spec.proofs.Counts.{check_bound}
use Rattle.capi_values.proofs.answers.Places.{narrow}
use Rattle.capi.proofs.commands.Laws.{checked}
use Rattle.capi.proofs.commands.hemdroas_check.Goals as goal

pub answer_of-requires : goal.answer_of-requires
answer_of-requires c = narrow _ _ (c.from.ensures ∙ c.check.ensures) (check_bound _ _) (lit< tt)

pub returns : goal.returns
returns c = checked _ _ c.layout_of.ensures _ _ _ (c.from.ensures ∙ c.check.ensures) c.answer_of.ensures
