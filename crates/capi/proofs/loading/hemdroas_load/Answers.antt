use mathlib.Core.Path.{ap, ◌∙◌}
use Rattle.types.specs.Results.{Installed}
use lib.Dec.{lit<}
use Rattle.sandbox_spec.proofs.Loading.{load_bound}
use Rattle.capi_spec.specs.Numbers.{answer_to, machine_to}
use Rattle.capi_values.proofs.answers.Places.{narrow}
use Rattle.capi.proofs.loading.Laws.{loaded}
use Rattle.capi.proofs.loading.hemdroas_load.Goals as goal

pub answer_of-requires : goal.answer_of-requires
answer_of-requires c = narrow _ _ (c.from.ensures ∙ ap (λ (i : Installed). i.answer) c.in-Ok.ensures.answer) (load_bound _ _ _ _ _) (lit< tt)

pub answer_of-requires-in-Err : goal.answer_of-requires-in-Err
answer_of-requires-in-Err c = narrow _ _ (c.from-in-Err.ensures ∙ ap (λ (i : Installed). i.answer) c.in-Err.ensures.answer) (load_bound _ _ _ _ _) (lit< tt)

pub returns-in-Ok : goal.returns-in-Ok
returns-in-Ok c =
    loaded _ _ c.layout_of.ensures _ _ _ _ _ _ c.put_machine.ensures (c.answer_of.ensures ∙ ap answer_to c.from.ensures) _ _ _
    c.in-Ok.ensures.answer c.in-Ok.ensures.commands c.in-Ok.ensures.memory

pub returns-in-Err : goal.returns-in-Err
returns-in-Err c =
    loaded _ _ c.layout_of.ensures _ _ _ _ _ _ (c.put_machine-in-Err.ensures ∙ ap machine_to c.refused.ensures)
    (c.answer_of-in-Err.ensures ∙ ap answer_to c.from-in-Err.ensures) _ _ _
    c.in-Err.ensures.answer c.in-Err.ensures.commands c.in-Err.ensures.memory
