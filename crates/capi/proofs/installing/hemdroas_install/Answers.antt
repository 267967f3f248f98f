use mathlib.Core.Path.{ap, ◌∙◌}
use Rattle.types.specs.Results.{Installed}
use lib.Dec.{lit<}
use Rattle.spec.proofs.Counts.{install_bound}
use Rattle.capi_spec.specs.Numbers.{answer_to, machine_to}
use Rattle.capi_values.proofs.answers.Places.{narrow}
use Rattle.capi.proofs.installing.Laws.{installed}
use Rattle.capi.proofs.installing.hemdroas_install.Goals as goal

pub answer_of-requires-in-Err : goal.answer_of-requires-in-Err
answer_of-requires-in-Err c = narrow _ _ (c.from-in-Err.ensures ∙ ap (λ (i : Installed). i.answer) c.in-Err.ensures.value) (install_bound _ _ _) (lit< tt)

pub returns-in-Ok : goal.returns-in-Ok
returns-in-Ok c =
    installed _ _ c.layout_of.ensures _ _ _ _ _ _ c.put_machine.ensures (c.answer_of.ensures ∙ ap answer_to c.from.ensures) c.in-Ok.ensures.value c.in-Ok.ensures.leaves

pub returns-in-Err : goal.returns-in-Err
returns-in-Err c =
    installed _ _ c.layout_of.ensures _ _ _ _ _ _ (c.put_machine-in-Err.ensures ∙ ap machine_to c.refused.ensures)
    (c.answer_of-in-Err.ensures ∙ ap answer_to c.from-in-Err.ensures) c.in-Err.ensures.value c.in-Err.ensures.leaves
