-- Claims about forward routines, which always finish. Each is a type; its proof, in proofs/, has the same name in small letters, with hyphens.
use Rattle.std.specs.Prelude.{ℕ, ◌+◌, ◌-◌, ◌*◌, ◌/◌, ◌≤◌, ◌≡◌, Bool, true, false, ◌⊎◌, List, [], ◌∷◌, ◌++◌, length}
use Rattle.types.specs.declared.Layout.{Layout}
use Rattle.types.specs.declared.Machine.{Machine}
use Rattle.types.specs.declared.Outcome.{Outcome}
use Rattle.types.specs.declared.Status.TheVariants.{Running, Ended, Stopped}
use Rattle.types.specs.declared.Ending.{Ending}
use Rattle.types.specs.declared.Ending.TheVariants.{Done, NoArrow, Fault, LogFull, Silent, Spent, NoLanding, Refused}
use Rattle.types.specs.Names.{bundle_length, pair_cells, answer}
use Rattle.spec.specs.Policies.{Policy}
use Rattle.spec.specs.Words.{bundles_for}
use Rattle.spec.specs.Bundles.{commands_of, rewrite_answer}
use Rattle.spec.specs.Claims.{Resumable}
use Rattle.spec.specs.Runs.{RunInput, Every, Run, run_on, all_runs, after, HostPremise}
use Rattle.forward_spec.specs.Forward.{forward_answer, check_forward_answer}

-- ---- the two checks agree

-- if the rewriter takes words, both checks give the same answer and place: for the words and for the commands written from them
abbrev pub ChecksAgree : Type 0
ChecksAgree =
    (lay : Layout) (code : List ℕ) (room : ℕ) → (rewrite_answer lay code room).number ≡ 0 → check_forward_answer lay (commands_of lay code) ≡ forward_answer code

-- so forward words are rewritten to a forward list
abbrev pub ForwardWritten : Type 0
ForwardWritten =
    (lay : Layout) (code : List ℕ) (room : ℕ) → (rewrite_answer lay code room).number ≡ 0 → (forward_answer code).number ≡ 0 →
    check_forward_answer lay (commands_of lay code) ≡ answer 0 0

-- and a forward list is what the rewriter writes for some forward words
pub record WrittenOf (lay : Layout) (ws : List ℕ) : Type 0 where
  pub code : List ℕ
  pub takes : rewrite_answer lay code (length ws) ≡ answer 0 (length ws)
  pub forward : forward_answer code ≡ answer 0 0
  pub same : commands_of lay code ≡ ws

abbrev pub ForwardRead : Type 0
ForwardRead = (lay : Layout) (ws : List ℕ) → (check_forward_answer lay ws).number ≡ 0 → WrittenOf lay ws

-- ---- how many steps it takes at most

-- '4 × (N − 1) + 1'
abbrev pub most_steps : ℕ → ℕ
most_steps N = bundle_length * (N - 1) + 1

-- the 'counted steps over all its runs'; a refused run answers 0
abbrev pub steps_in : List (Run Outcome) → ℕ
steps_in [] = 0
steps_in (r ∷ rs) = r.result.outcome.answer.steps + steps_in rs

-- a forward list, on demand 3's premise, stays within the bound, whatever the budgets, logs and readings
abbrev pub Bounded : Type 0
Bounded =
    (lay : Layout) (pol : Policy) (ws mem : List ℕ) (gs : List RunInput) → (check_forward_answer lay ws).number ≡ 0 → HostPremise lay pol ws mem gs →
    steps_in (all_runs lay pol ws mem gs) ≤ most_steps (length ws / bundle_length)

-- ---- it never gets stuck

-- whether a run pauses: log full (23) or probe silent (24)
abbrev pub pauses : Ending → Bool
pauses Done = false
pauses NoArrow = false
pauses Fault = false
pauses LogFull = true
pauses Silent = true
pauses Spent = false
pauses NoLanding = false
pauses Refused = false

-- 'each pause is resumed with a free pair and a reading', and with a memory that is not refused.
-- `paused` says whether the run before the list paused
abbrev pub ResumedAfter : Layout → Bool → List (Run Outcome) → Type 0
ResumedAfter lay paused [] = Unit {0}
ResumedAfter lay paused (r ∷ rs) =
    (paused ≡ true → Resumable lay r.input) × ResumedAfter lay (pauses r.result.outcome.answer.ending) rs

-- a running machine takes a step if its run has enough log, readings and budget
abbrev pub TakesStep : Type 0
TakesStep =
    (lay : Layout) (pol : Policy) (ws mem : List ℕ) (gs : List RunInput) → HostPremise lay pol ws mem gs →
    let c = after lay pol ws mem gs in
    c.machine.status ≡ Running → (g : RunInput) → Resumable lay g → 1 ≤ g.budget → 1 ≤ (run_on lay ws c g).outcome.answer.steps

-- ---- it finishes

-- 'ends or stops'
abbrev pub Terminated : Machine → Type 0
Terminated m = (m.status ≡ Ended) ⊎ (m.status ≡ Stopped)

-- the steps that a run is charged. A refused run: none. A run that pauses: those it counted. Any other run: its budget,
-- which it has used up if the machine is still running
abbrev pub steps_charged_for : Ending → ℕ → ℕ → ℕ
steps_charged_for Refused steps budget = 0
steps_charged_for LogFull steps budget = steps
steps_charged_for Silent steps budget = steps
steps_charged_for Spent steps budget = budget
steps_charged_for Done steps budget = budget
steps_charged_for NoArrow steps budget = budget
steps_charged_for Fault steps budget = budget
steps_charged_for NoLanding steps budget = budget

abbrev pub steps_charged_by : Run Outcome → ℕ
steps_charged_by r = steps_charged_for r.result.outcome.answer.ending r.result.outcome.answer.steps r.input.budget

abbrev pub steps_charged : List (Run Outcome) → ℕ
steps_charged [] = 0
steps_charged (r ∷ rs) = steps_charged_by r + steps_charged rs

-- 'the budgets suffice': once its runs were charged 4 × (N − 1) + 1 steps, a forward list has ended or stopped, whatever the logs and readings
abbrev pub Finishes : Type 0
Finishes =
    (lay : Layout) (pol : Policy) (ws mem : List ℕ) (gs : List RunInput) → (check_forward_answer lay ws).number ≡ 0 → HostPremise lay pol ws mem gs →
    most_steps (length ws / bundle_length) ≤ steps_charged (all_runs lay pol ws mem gs) → Terminated (after lay pol ws mem gs).machine

-- the same by the number of runs, if each has a free pair, a reading and a budget of at least 1: 4 × (N − 1) + 1 runs are enough
abbrev pub FinishesIn : Type 0
FinishesIn =
    (lay : Layout) (pol : Policy) (ws mem : List ℕ) (gs : List RunInput) → (check_forward_answer lay ws).number ≡ 0 → HostPremise lay pol ws mem gs →
    Every (Resumable lay) gs → Every (λ (g : RunInput). 1 ≤ g.budget) gs → most_steps (length ws / bundle_length) ≤ length gs →
    Terminated (after lay pol ws mem gs).machine

-- budget for every step that can be left, and log and readings for an event in each bundle except the last
pub record SufficesFor (lay : Layout) (N : ℕ) (g : RunInput) : Type 0 where
  pub memory : length g.memory ≡ lay.size
  pub budget : most_steps N ≤ g.budget
  pub log : pair_cells * (N - 1) ≤ length g.log
  pub readings : N - 1 ≤ length g.readings

-- one run with such an input finishes, whatever ran before
abbrev pub FinishesAtOnce : Type 0
FinishesAtOnce =
    (lay : Layout) (pol : Policy) (ws mem : List ℕ) (gs : List RunInput) (g : RunInput) → (check_forward_answer lay ws).number ≡ 0 →
    HostPremise lay pol ws mem (gs ++ (g ∷ [])) → SufficesFor lay (length ws / bundle_length) g → Terminated (after lay pol ws mem (gs ++ (g ∷ []))).machine

-- ---- the same for rewritten words

-- 'A rewritten routine of this class ends or stops within 4 × (N − 1) + 1 counted steps over all its runs'
pub record Finished (lay : Layout) (pol : Policy) (code mem : List ℕ) (gs : List RunInput) : Type 0 where
  pub over : Terminated (after lay pol (commands_of lay code) mem gs).machine
  pub within : steps_in (all_runs lay pol (commands_of lay code) mem gs) ≤ most_steps (bundles_for (length code))

-- 'provided that demand 3's premise holds .. and the budgets suffice', by the steps charged.
-- A pause is charged the steps that it counted, whether it is resumed or not; `FinishesResumed` has resuming as its premise
abbrev pub AlwaysFinish : Type 0
AlwaysFinish =
    (lay : Layout) (pol : Policy) (code mem : List ℕ) (room : ℕ) (gs : List RunInput) →
    (rewrite_answer lay code room).number ≡ 0 → (forward_answer code).number ≡ 0 → HostPremise lay pol (commands_of lay code) mem gs →
    most_steps (bundles_for (length code)) ≤ steps_charged (all_runs lay pol (commands_of lay code) mem gs) → Finished lay pol code mem gs

-- the same where 'each pause is resumed with a free pair and a reading', and 'the budgets suffice' by the number of runs.
-- No run is refused, and each has budget at least 1. Only a run that pauses at once counts no step, and the next one, resumed, counts one.
-- So two runs for each step are enough
abbrev pub FinishesResumed : Type 0
FinishesResumed =
    (lay : Layout) (pol : Policy) (code mem : List ℕ) (room : ℕ) (gs : List RunInput) →
    let ws = commands_of lay code in
    (rewrite_answer lay code room).number ≡ 0 → (forward_answer code).number ≡ 0 → HostPremise lay pol ws mem gs →
    ResumedAfter lay false (all_runs lay pol ws mem gs) →
    Every (λ (g : RunInput). length g.memory ≡ lay.size) gs → Every (λ (g : RunInput). 1 ≤ g.budget) gs →
    2 * most_steps (bundles_for (length code)) ≤ length gs → Finished lay pol code mem gs

-- if each run has a free pair and a reading, one run for each step is enough
abbrev pub RewrittenFinishesIn : Type 0
RewrittenFinishesIn =
    (lay : Layout) (pol : Policy) (code mem : List ℕ) (room : ℕ) (gs : List RunInput) →
    let ws = commands_of lay code in
    (rewrite_answer lay code room).number ≡ 0 → (forward_answer code).number ≡ 0 → HostPremise lay pol ws mem gs →
    Every (Resumable lay) gs → Every (λ (g : RunInput). 1 ≤ g.budget) gs → most_steps (bundles_for (length code)) ≤ length gs → Finished lay pol code mem gs
