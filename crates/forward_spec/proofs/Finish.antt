-- A resumed machine takes a step, so a forward routine finishes.
use mathlib.Core.Path.{◌≡◌, refl, sym, ◌∙◌, ap}
use mathlib.Core.Bool.{Bool, true, false}
use mathlib.Core.Logic.{◌⊎◌, inl, inr, ⊎_elim}
use mathlib.Core.List.{List, [], ◌∷◌}
use Prim.Native.Nat.{ℕ, ◌+◌, ◌*◌, ◌/◌, ◌≤◌}
use native.Mathlib.Omega.{arith}
use borrow.Author.Tests.{eq-eqb}
use lib.ListN.{length}
use Rattle.types.specs.declared.Layout.{Layout}
use Rattle.types.specs.declared.Status.{Status}
use Rattle.types.specs.declared.Status.TheVariants.{Running, Ended, Stopped, Faulted, Strayed}
use Rattle.types.specs.declared.Ending.{Ending}
use Rattle.types.specs.declared.Ending.TheVariants.{Done, NoArrow, Fault, LogFull, Silent, Spent, NoLanding, Refused}
use Rattle.types.specs.Names.{bundle_length}
use Rattle.spec.specs.Layouts.{right_layout}
use Rattle.spec.specs.Policies.{Policy}
use Rattle.spec.specs.Commands.{fetch_of}
use Rattle.spec.specs.Bundles.{bundle_at}
use Rattle.spec.specs.Machines.{State, view_at, run_from, start_of, run_of, fits}
use Rattle.spec.specs.Guests.{Guest}
use Rattle.spec.specs.Runs.{RunInput, Session, initial_session, run_on, after_taken, after_run, run_as, all_runs, after, HostPremise, Every, each_run, after_all}
use Rattle.spec.proofs.Endings.{goes}
use Rattle.spec.proofs.Conditions.{layout_of_lem}
use Rattle.spec.proofs.Simulation.{InBundle, over, live}
use Rattle.spec.proofs.RunSimulation.{sim_invariant}
use Rattle.spec.proofs.Isolation.{list_simulated}
use Rattle.spec.specs.Claims.{Resumable}
use Rattle.forward_spec.specs.Forward.{check_forward_answer}
use Rattle.forward_spec.specs.Claims.{most_steps, steps_in, pauses, ResumedAfter, TakesStep, Terminated, steps_charged_for, steps_charged_by, steps_charged, Finishes, FinishesIn}
use Rattle.forward_spec.proofs.Runs.{runs_of, after_runs, steps_some, ran_before, all_spent}
use Rattle.forward_spec.proofs.Bound.{ahead_all}

-- ---- one run that is not refused
module _ (lay : Layout) (ws : List ℕ) (c : Session) (g : RunInput) (fit : fits lay g.memory ≡ true) where
  abbrev begin : State
  begin = start_of c.machine g.memory g.log

  taken : run_on lay ws c g ≡ run_from lay ws g.readings g.budget 0 begin
  unfolding run_on run_of
  taken = rw fit

  left : (after_run lay ws c g).machine ≡ (run_from lay ws g.readings g.budget 0 begin).outcome.machine
  unfolding after_run after_taken run_on run_of
  left = rw fit

  -- with a free pair and a reading it takes a step
  one_step_lem : c.machine.status ≡ Running → 2 ≤ length g.log → 1 ≤ length g.readings → 1 ≤ g.budget → 1 ≤ (run_on lay ws c g).outcome.answer.steps
  one_step_lem run ll lr b =
      let go = goes (fetch_of ws lay.base c.machine.pc) (view_at lay g.readings begin) (omega arith) (omega arith) in
      rw taken (omega (arith, steps_some lay ws g.readings g.budget 0 begin b run go))

  module _ (run : (after_run lay ws c g).machine.status ≡ Running) where
    -- a run that leaves the machine running found it running
    before : c.machine.status ≡ Running
    before = ran_before lay ws g.readings g.budget 0 begin (rw left at run)

    -- and it used up its budget, unless it paused
    spent : pauses (run_on lay ws c g).outcome.answer.ending ≡ false → g.budget ≤ (run_on lay ws c g).outcome.answer.steps
    spent p = rw taken (omega (arith, all_spent lay ws g.readings g.budget 0 begin (rw left at run) (rw taken at p)))

    charged : (e : Ending) → (run_on lay ws c g).outcome.answer.ending ≡ e → steps_charged_for e (run_on lay ws c g).outcome.answer.steps g.budget ≤ (run_on lay ws c g).outcome.answer.steps
    charged Refused e = omega (arith, spent (ap pauses e))
    charged LogFull e = omega arith
    charged Silent e = omega arith
    charged Spent e = spent (ap pauses e)
    charged Done e = spent (ap pauses e)
    charged NoArrow e = spent (ap pauses e)
    charged Fault e = spent (ap pauses e)
    charged NoLanding e = spent (ap pauses e)

-- ---- any run, and a list of runs that leaves the machine running
module _ (lay : Layout) (ws : List ℕ) where
  was_running : (c : Session) (g : RunInput) (t : Bool) → fits lay g.memory ≡ t → (after_run lay ws c g).machine.status ≡ Running → c.machine.status ≡ Running
  unfolding after_run
  was_running c g true t e = before lay ws c g t e
  was_running c g false t e = rw t at e

  took : (c : Session) (g : RunInput) (t : Bool) → fits lay g.memory ≡ t → (after_run lay ws c g).machine.status ≡ Running
      → steps_charged_by (run_as lay ws c g) ≤ (run_on lay ws c g).outcome.answer.steps
  unfolding run_on run_of
  took c g true t e = charged lay ws c g t e _ refl
  took c g false t e = rw t (omega arith)

  ran_all : (c : Session) (gs : List RunInput) → (after_runs lay ws c gs).machine.status ≡ Running → c.machine.status ≡ Running
  unfolding after_all
  ran_all c [] e = e
  ran_all c (g ∷ gs) e = was_running c g _ refl (ran_all (after_run lay ws c g) gs e)

  took_all : (c : Session) (gs : List RunInput) → (after_runs lay ws c gs).machine.status ≡ Running → steps_charged (runs_of lay ws c gs) ≤ steps_in (runs_of lay ws c gs)
  unfolding after_all each_run
  took_all c [] e = omega arith
  took_all c (g ∷ gs) e =
      let x = took c g _ refl (ran_all (after_run lay ws c g) gs e) in
      let y = took_all (after_run lay ws c g) gs e in
      omega arith

fit_of : (lay : Layout) (g : RunInput) → right_layout lay ≡ true → Resumable lay g → fits lay g.memory ≡ true
fit_of lay g right ok = rw (right, eq-eqb _ _ ok.memory)

-- ---- on the premise, a machine runs, has ended or stopped: a passed list never faults, and a forward one never strays
pub going_or_over : (lay : Layout) (pol : Policy) (ws mem : List ℕ) (gs : List RunInput) → (check_forward_answer lay ws).number ≡ 0
    → HostPremise lay pol ws mem gs → ((after lay pol ws mem gs).machine.status ≡ Running) ⊎ Terminated (after lay pol ws mem gs).machine
going_or_over lay pol ws mem gs f v =
    let t = list_simulated lay pol ws mem gs v in
    let c = after lay pol ws mem gs in
    by c _ _ _ (ahead_all lay pol ws mem gs f v).lands (sim_invariant lay pol ws _ _ t.right t.bundled c.records c.consumed [] _ c.begun
    (start_of c.machine c.memory []) t.last).1.sim
  where
    status : (t : Status) → (t ≡ Strayed → ⊥) → (t ≡ Faulted → ⊥) → (t ≡ Running) ⊎ ((t ≡ Ended) ⊎ (t ≡ Stopped))
    status Running l f = inl refl
    status Ended l f = inr (inl refl)
    status Stopped l f = inr (inr refl)
    status Faulted l f = absurd (f refl)
    status Strayed l f = absurd (l refl)

    by : (c : Session) (g : Guest) (k b : ℕ) → (c.machine.status ≡ Strayed → ⊥)
        → InBundle lay pol (length ws / bundle_length) (bundle_at lay ws) g k b (start_of c.machine c.memory []) → (c.machine.status ≡ Running)
        ⊎ Terminated c.machine
    by c g k b l (over f st h p lh lp pc ev q bk) = status c.machine.status l (λ e. f.1 (sym st ∙ e))
    by c g k b l (live gg st h p lh lp pc m) = inl st

pub takes_step : TakesStep
takes_step lay pol ws mem gs v run g ok b =
    one_step_lem lay ws (after lay pol ws mem gs) g (fit_of lay g (layout_of_lem lay ws v.passed) ok) run ok.log ok.readings b

-- ---- it is over if the bound's number of steps would be counted while it still runs
over_by : (lay : Layout) (pol : Policy) (ws mem : List ℕ) (gs : List RunInput) → (check_forward_answer lay ws).number ≡ 0 → HostPremise lay pol ws mem gs
    → ((after lay pol ws mem gs).machine.status ≡ Running → most_steps (length ws / bundle_length) ≤ steps_in (all_runs lay pol ws mem gs))
    → Terminated (after lay pol ws mem gs).machine
over_by lay pol ws mem gs f v most =
    ⊎_elim
    (λ run.
    let t = most run in
    let o = (ahead_all lay pol ws mem gs f v).on run in
    absurd (omega (arith, o.0, o.1)))
    (λ x. x)
    (going_or_over lay pol ws mem gs f v)

pub finishes : Finishes
finishes lay pol ws mem gs f v p =
    over_by lay pol ws mem gs f v (λ run. omega (arith, took_all lay ws (initial_session lay pol mem) gs run))

-- ---- by the number of runs: each one that is resumed takes a step
step_each : (lay : Layout) (ws : List ℕ) → right_layout lay ≡ true → (c : Session) (gs : List RunInput) → Every (Resumable lay) gs
    → Every (λ (g : RunInput). 1 ≤ g.budget) gs → (after_runs lay ws c gs).machine.status ≡ Running → length gs ≤ steps_in (runs_of lay ws c gs)
unfolding after_all each_run
step_each lay ws right c [] ok b e = omega arith
step_each lay ws right c (g ∷ gs) ok b e =
    let run = was_running lay ws c g _ refl (ran_all lay ws (after_run lay ws c g) gs e) in
    let x = one_step_lem lay ws c g (fit_of lay g right ok.0) run ok.0.log ok.0.readings b.0 in
    let y = step_each lay ws right (after_run lay ws c g) gs ok.1 b.1 e in
    omega arith

pub finishes_in : FinishesIn
finishes_in lay pol ws mem gs f v ok b l =
    over_by lay pol ws mem gs f v (λ run. omega (arith, step_each lay ws (layout_of_lem lay ws v.passed) (initial_session lay pol mem) gs ok b run))

-- ---- only runs after a pause are resumed: any other takes a step or pauses, and then the next is resumed.
-- `spare` is one run more, unless the run before paused
abbrev spare : Bool → ℕ
spare true = 0
spare false = 1

module _ (lay : Layout) (ws : List ℕ) (right : right_layout lay ≡ true) where
  abbrev Sized : RunInput → Type 0
  Sized g = length g.memory ≡ lay.size

  -- what a run adds, by whether the one before paused and whether it pauses itself
  adds : (p q : Bool) (x y n : ℕ) → (p ≡ true → 1 ≤ x) → (q ≡ false → 1 ≤ x) → n ≤ 2 * y + spare q → n + 1 ≤ 2 * (x + y) + spare p
  adds true true x y n a b l = omega (arith, a refl)
  adds true false x y n a b l = omega (arith, a refl)
  adds false true x y n a b l = omega arith
  adds false false x y n a b l = omega (arith, b refl)

  step_two : (p : Bool) (c : Session) (gs : List RunInput) → ResumedAfter lay p (runs_of lay ws c gs) → Every Sized gs
      → Every (λ (g : RunInput). 1 ≤ g.budget) gs → (after_runs lay ws c gs).machine.status ≡ Running → length gs ≤ 2 * steps_in (runs_of lay ws c gs) + spare p
  unfolding after_all each_run
  step_two p c [] ok m b e = omega arith
  step_two p c (g ∷ gs) ok m b e =
      let fit : fits lay g.memory ≡ true = rw (right, eq-eqb _ _ m.0) in
      let later = ran_all lay ws (after_run lay ws c g) gs e in
      let run = was_running lay ws c g _ refl later in
      let q = pauses (run_on lay ws c g).outcome.answer.ending in
      let rest = step_two q (after_run lay ws c g) gs ok.1 m.1 b.1 e in
      omega (
        arith,
        adds p q (run_on lay ws c g).outcome.answer.steps (steps_in (runs_of lay ws (after_run lay ws c g) gs)) (length gs)
            (λ t. let r = ok.0 t in one_step_lem lay ws c g fit run r.log r.readings b.0)
            (λ t. omega (arith, spent lay ws c g fit later t, b.0))
            rest,
      )

pub over_resumed : (lay : Layout) (pol : Policy) (ws mem : List ℕ) (gs : List RunInput) → (check_forward_answer lay ws).number ≡ 0 → HostPremise lay pol ws mem gs
    → ResumedAfter lay false (all_runs lay pol ws mem gs) → Every (λ (g : RunInput). length g.memory ≡ lay.size) gs
    → Every (λ (g : RunInput). 1 ≤ g.budget) gs → 2 * most_steps (length ws / bundle_length) ≤ length gs → Terminated (after lay pol ws mem gs).machine
over_resumed lay pol ws mem gs f v ok m b l =
    over_by lay pol ws mem gs f v (λ run. omega (arith, step_two lay ws (layout_of_lem lay ws v.passed) false (initial_session lay pol mem) gs ok m b run))
