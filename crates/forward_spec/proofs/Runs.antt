-- What holds of runs of any commands from any session: how many steps they count, and when they pause.
use mathlib.Core.Path.{◌≡◌, refl, sym, ◌∙◌, ap, subst}
use mathlib.Core.Bool.{true, false}
use mathlib.Core.Logic.{⊎_elim}
use mathlib.Core.List.{List}
use Prim.Native.Nat.{ℕ, zero, suc, ◌+◌, ◌≤◌}
use native.Mathlib.Omega.{arith}
use Rattle.types.specs.declared.Layout.{Layout}
use Rattle.types.specs.declared.Outcome.{Outcome}
use Rattle.types.specs.declared.Status.{Status}
use Rattle.types.specs.declared.Status.TheVariants.{Running, Ended, Stopped, Faulted, Strayed}
use Rattle.types.specs.declared.Ending.{Ending}
use Rattle.types.specs.declared.Effect.TheVariants.{Wait}
use Rattle.spec.specs.Commands.{fetch_of}
use Rattle.spec.specs.Machines.{State, RunResult, view_at, next_of, step_of, ending_of, run_from, loop_from}
use Rattle.spec.specs.Runs.{RunInput, each_run, after_all, Run, Session, after_run, run_as}
use Rattle.spec.proofs.Bools.{no}
use Rattle.spec.proofs.Loops.{Goes}
use Rattle.spec.proofs.Endings.{Pauses, pauses as pauses-only, run_ind}
use Rattle.forward_spec.specs.Claims.{pauses}

-- the runs of a list, and the session after them
abbrev pub runs_of : Layout → List ℕ → Session → List RunInput → List (Run Outcome)
runs_of lay ws c gs = each_run (run_as lay ws) (after_run lay ws) c gs

abbrev pub after_runs : Layout → List ℕ → Session → List RunInput → Session
after_runs lay ws c gs = after_all (after_run lay ws) c gs

-- an ending by status is no pause
pub ending_plain : (t : Status) → pauses (ending_of t) ≡ false
ending_plain Running = refl
ending_plain Ended = refl
ending_plain Stopped = refl
ending_plain Faulted = refl
ending_plain Strayed = refl

-- ---- steps
module _ (lay : Layout) (ws rd : List ℕ) where
  -- a run that starts counting at k counts at least k
  pub steps_more : (j k : ℕ) (s : State) → k ≤ (run_from lay ws rd j k s).outcome.answer.steps
  unfolding loop_from
  steps_more zero k s = omega arith
  steps_more (suc j) k s =
      run_ind lay ws rd j k s (λ (r : RunResult). k ≤ r.outcome.answer.steps) (λ _. omega arith) (λ _ w z. omega arith)
      (λ _ _. omega (arith, steps_more j (k + 1) (step_of lay ws rd s)))

  -- a run that can take a step takes one
  pub steps_some : (j k : ℕ) (s : State) → 1 ≤ j → s.status ≡ Running → Goes (next_of lay ws rd s) → k + 1 ≤ (run_from lay ws rd j k s).outcome.answer.steps
  steps_some zero k s l run go = absurd (omega arith)
  steps_some (suc j) k s l run go =
      run_ind lay ws rd j k s (λ (r : RunResult). k + 1 ≤ r.outcome.answer.steps) (λ f. absurd (f run)) (λ _ w z. absurd (go w z))
      (λ _ _. steps_more j (k + 1) (step_of lay ws rd s))

  -- a run that leaves the machine running found it running
  pub ran_before : (j k : ℕ) (s : State) → (run_from lay ws rd j k s).outcome.machine.status ≡ Running → s.status ≡ Running
  unfolding loop_from
  ran_before zero k s = λ e. e
  ran_before (suc j) k s =
      run_ind lay ws rd j k s (λ (r : RunResult). r.outcome.machine.status ≡ Running → s.status ≡ Running) (λ f e. e) (λ r w z e. r) (λ r g e. r)

  waits_only : (s : State) (w : Ending) → next_of lay ws rd s ≡ Wait w → pauses w ≡ true
  waits_only s w z =
      ⊎_elim (λ x. ap pauses x.0) (λ x. ap pauses x.0) (subst (Pauses (view_at lay rd s)) z (pauses-only (fetch_of ws lay.base s.pc) (view_at lay rd s)))

  -- and it used up its budget, unless it paused
  pub all_spent : (j k : ℕ) (s : State) → (run_from lay ws rd j k s).outcome.machine.status ≡ Running → pauses (run_from lay ws rd j k s).outcome.answer.ending ≡ false
      → k + j ≤ (run_from lay ws rd j k s).outcome.answer.steps
  unfolding loop_from
  all_spent zero k s = λ e f. omega arith
  all_spent (suc j) k s =
      run_ind lay ws rd j k s (λ (r : RunResult). r.outcome.machine.status ≡ Running → pauses r.outcome.answer.ending ≡ false → k + suc j ≤ r.outcome.answer.steps)
      (λ f e. absurd (f e))
      (λ r w z e p. no (sym p ∙ waits_only s w z))
      (λ r g e p. omega (arith, all_spent j (k + 1) (step_of lay ws rd s) e p))
