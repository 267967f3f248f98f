use lib.Dec.{lit<}
use Rattle.spec.proofs.Counts.{write_bound}
use Rattle.capi_values.proofs.answers.Places.{narrow}
use mathlib.Core.Path.{◌∙◌, ap}
use Rattle.capi_spec.specs.Numbers.{answer_to}
use Rattle.capi.proofs.bytes.hemdroas_write.Goals as goal

pub answer_of-requires : goal.answer_of-requires
answer_of-requires c = narrow _ _ (c.from.ensures ∙ c.write.ensures.answer) (write_bound _ _) (lit< tt)

pub returns : goal.returns
returns c = record { answer = c.answer_of.ensures ∙ ap answer_to (c.from.ensures ∙ c.write.ensures.answer); content = c.write.ensures.content }
