-- `crate::loading::load` meets its contract.
use mathlib.Core.Path.{refl, sym, ◌∙◌}
use lib.Seq.{length-take-le}
use Rattle.types.proofs.Exits.{refusal_counts}
use Rattle.installer.specs.Lent.{policy_of_lent}
use Rattle.sandbox.proofs.loading.Laws.{exit, not_translated, not_installed, taken, within, passes, loaded}
use Rattle.sandbox.proofs.loading.load.Goals as goal

pub returns-in_err-length-clause-answer : goal.returns-in_err-length-clause-answer
returns-in_err-length-clause-answer c =
    exit _ _ c.from_residual.ensures.1 ∙ (not_translated c.args.layout (policy_of_lent c.args.policy) c.args.bytes.now c.args.commands.now c.args.memory.now _ c.in_err-length.ensures (refusal_counts _) _ refl).0

pub returns-in_err-length-clause-commands : goal.returns-in_err-length-clause-commands
returns-in_err-length-clause-commands c =
    (not_translated c.args.layout (policy_of_lent c.args.policy) c.args.bytes.now c.args.commands.now c.args.memory.now _ c.in_err-length.ensures (refusal_counts _) _ refl).1.0

pub returns-in_err-length-clause-memory : goal.returns-in_err-length-clause-memory
returns-in_err-length-clause-memory c =
    (not_translated c.args.layout (policy_of_lent c.args.policy) c.args.bytes.now c.args.commands.now c.args.memory.now _ c.in_err-length.ensures (refusal_counts _) _ refl).1.1.0

pub returns-in_err-install_answer-clause-answer : goal.returns-in_err-install_answer-clause-answer
returns-in_err-install_answer-clause-answer c =
    exit _ _ c.from_residual-in_err-install_answer.ensures.1 ∙ (not_installed c.args.layout (policy_of_lent c.args.policy) c.args.bytes.now c.args.commands.now c.args.memory.now _ c.in_ok-length.ensures refl _ c.in_err-install_answer.ensures (refusal_counts _) _ refl).0

pub returns-in_err-install_answer-clause-commands : goal.returns-in_err-install_answer-clause-commands
returns-in_err-install_answer-clause-commands c =
    (not_installed c.args.layout (policy_of_lent c.args.policy) c.args.bytes.now c.args.commands.now c.args.memory.now _ c.in_ok-length.ensures refl _ c.in_err-install_answer.ensures (refusal_counts _) _ refl).1.0

pub returns-in_err-install_answer-clause-memory : goal.returns-in_err-install_answer-clause-memory
returns-in_err-install_answer-clause-memory c =
    (not_installed c.args.layout (policy_of_lent c.args.policy) c.args.bytes.now c.args.commands.now c.args.memory.now _ c.in_ok-length.ensures refl _ c.in_err-install_answer.ensures (refusal_counts _) _ refl).1.1.0

pub write_routine-requires : goal.write_routine-requires
write_routine-requires c =
    taken c.args.layout (policy_of_lent c.args.policy) c.args.bytes.now c.args.commands.now c.args.memory.now _ c.in_ok-length.ensures refl

pub slice_bounds-check-end : goal.slice_bounds-check-end
slice_bounds-check-end c =
    within c.args.layout (policy_of_lent c.args.policy) c.args.bytes.now c.args.commands.now c.args.memory.now _ c.in_ok-length.ensures refl _ c.in_ok-install_answer.ensures _ c.write_routine.ensures

pub slice_bounds-check-end-2 : goal.slice_bounds-check-end-2
slice_bounds-check-end-2 c =
    sym (length-take-le _ _ (slice_bounds-check-end c))

pub returns-in_err-check-clause-answer : goal.returns-in_err-check-clause-answer
returns-in_err-check-clause-answer c =
    absurd (refusal_counts _ (passes c.args.layout (policy_of_lent c.args.policy) c.args.bytes.now c.args.commands.now c.args.memory.now _ c.in_ok-length.ensures refl _ c.in_ok-install_answer.ensures _ c.write_routine.ensures _ c.in_err-check.ensures))

pub returns-in_err-check-clause-commands : goal.returns-in_err-check-clause-commands
returns-in_err-check-clause-commands c =
    absurd (refusal_counts _ (passes c.args.layout (policy_of_lent c.args.policy) c.args.bytes.now c.args.commands.now c.args.memory.now _ c.in_ok-length.ensures refl _ c.in_ok-install_answer.ensures _ c.write_routine.ensures _ c.in_err-check.ensures))

pub returns-in_err-check-clause-memory : goal.returns-in_err-check-clause-memory
returns-in_err-check-clause-memory c =
    absurd (refusal_counts _ (passes c.args.layout (policy_of_lent c.args.policy) c.args.bytes.now c.args.commands.now c.args.memory.now _ c.in_ok-length.ensures refl _ c.in_ok-install_answer.ensures _ c.write_routine.ensures _ c.in_err-check.ensures))

pub returns-clause-answer : goal.returns-clause-answer
returns-clause-answer c =
    (loaded c.args.layout (policy_of_lent c.args.policy) c.args.bytes.now c.args.commands.now c.args.memory.now _ c.in_ok-length.ensures refl _ c.in_ok-install_answer.ensures _ c.write_routine.ensures refl _ c.in_ok-machine.ensures.value _ c.in_ok-machine.ensures.leaves).0

pub returns-clause-commands : goal.returns-clause-commands
returns-clause-commands c =
    (loaded c.args.layout (policy_of_lent c.args.policy) c.args.bytes.now c.args.commands.now c.args.memory.now _ c.in_ok-length.ensures refl _ c.in_ok-install_answer.ensures _ c.write_routine.ensures refl _ c.in_ok-machine.ensures.value _ c.in_ok-machine.ensures.leaves).1.0

pub returns-clause-memory : goal.returns-clause-memory
returns-clause-memory c =
    (loaded c.args.layout (policy_of_lent c.args.policy) c.args.bytes.now c.args.commands.now c.args.memory.now _ c.in_ok-length.ensures refl _ c.in_ok-install_answer.ensures _ c.write_routine.ensures refl _ c.in_ok-machine.ensures.value _ c.in_ok-machine.ensures.leaves).1.1.0

pub returns-clause-within : goal.returns-clause-within
returns-clause-within c =
    (loaded c.args.layout (policy_of_lent c.args.policy) c.args.bytes.now c.args.commands.now c.args.memory.now _ c.in_ok-length.ensures refl _ c.in_ok-install_answer.ensures _ c.write_routine.ensures refl _ c.in_ok-machine.ensures.value _ c.in_ok-machine.ensures.leaves).1.1.1 refl
