use mathlib.Core.Path.{◌∙◌}
use lib.Dec.{lit<}
use Rattle.spec.proofs.Counts.{rewrite_bound}
use Rattle.capi_values.proofs.answers.Places.{narrow}
use Rattle.capi.proofs.commands.Laws.{rewritten}
use Rattle.capi.proofs.commands.hemdroas_rewrite.Goals as goal

pub answer_of-requires : goal.answer_of-requires
answer_of-requires c = narrow _ _ (c.from.ensures ∙ c.rewrite.ensures.answer) (rewrite_bound _ _ _) (lit< tt)

pub returns : goal.returns
returns c = let both = rewritten _ _ c.layout_of.ensures _ _ _ _ _ (c.from.ensures ∙ c.rewrite.ensures.answer)
    c.rewrite.ensures.content c.answer_of.ensures in record { answer = both.0; content = both.1 }
