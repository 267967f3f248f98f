-- Shows that the claims' premises can be met. Document 01's sample routine is run twice, with a refused run between.
-- A second list of runs differs only in free cells and in old log contents.
use Rattle.std.specs.Prelude.{ℕ, ◌≡◌, List, [], ◌∷◌, ◌++◌, map, get_or, set, replicate}
use Rattle.types.specs.declared.Layout.{Layout}
use Rattle.types.specs.declared.Ending.TheVariants.{NoArrow, LogFull, Spent, Refused}
use Rattle.types.specs.declared.RunAnswer.{RunAnswer}
use Rattle.types.specs.declared.Outcome.{Outcome}
use Rattle.types.specs.Names.{guest}
use Rattle.types.specs.Records.{layout_of, run_answer}
use Rattle.spec.specs.Policies.{Policy, policy_of}
use Rattle.spec.specs.Words.{pack_of, routine}
use Rattle.spec.specs.Bundles.{commands_of}
use Rattle.spec.specs.Machines.{install_memory}
use Rattle.spec.specs.Guests.{pair_of, guest_after, guest_start}
use Rattle.spec.specs.Runs.{RunInput, Pairwise, initial_session, after_run, Run, recorded_in, LowEqual, HostPremise, all_runs, after, pending_at}
use Rattle.spec.specs.Claims.{SameInputs, SameObservations, Waiting}
use Rattle.samples.specs.Tray.{no_limits}

abbrev pub layout : Layout
layout = layout_of 1024 256 511 0 16 2 4096 64 no_limits

-- event 2, the door, leads to state 1, which has no arrow for event 0, gas; instructions 3 and 40 are landings
abbrev pub policy : Policy
policy = policy_of 2 0 (0 ∷ 0 ∷ 1 ∷ replicate 13 0 ++ 255 ∷ replicate 15 1) (3 ∷ 40 ∷ [])

-- SET r0, 70; EVENT 0; EVENT 2; EVENT 0
abbrev pub code : List ℕ
code = pack_of guest.set 0 0 0 0 70 ∷ pack_of guest.event 0 0 0 0 0 ∷ pack_of guest.event 0 0 0 0 2 ∷ pack_of guest.event 0 0 0 0 0 ∷ []

abbrev pub commands : List ℕ
commands = commands_of layout code

-- a routine that reads a probe: EVENT 9
abbrev pub probing : List ℕ
probing = commands_of layout (pack_of guest.event 0 0 0 0 9 ∷ [])

-- cell 700 is free
abbrev pub memory : ℕ → List ℕ
memory x = set (replicate 1024 0) 700 x

-- a run's input from a memory, a budget and what the log held
abbrev pub run_input : List ℕ → ℕ → ℕ → RunInput
run_input mem budget old = record { memory = mem; budget = budget; readings = 1800 ∷ 1950 ∷ 2100 ∷ []; log = replicate 64 old }

-- a memory after the host wrote x to free cell 650
abbrev pub written : ℕ → List ℕ → List ℕ
written x mem = set mem 650 x

-- the memory lent to a first run
abbrev pub first_memory : ℕ → List ℕ
first_memory x = written x (install_memory layout policy (memory x))

-- three runs. The first has six steps. The second has a memory that is too short.
-- Before the third, of a thousand steps, the host writes x to free cell 600
abbrev pub first_run : ℕ → RunInput
first_run x = run_input (first_memory x) 6 x

abbrev pub left : ℕ → List ℕ
left x = (after_run layout commands (initial_session layout policy (memory x)) (first_run x)).memory

abbrev pub last_run : ℕ → RunInput
last_run x = run_input (set (left x) 600 x) 1000 x

abbrev pub runs : ℕ → List RunInput
runs x = first_run x ∷ run_input [] 6 x ∷ last_run x ∷ []

-- a run without a log; and one of eleven steps, which ends between EVENT and KEEP of the door's event
abbrev pub paused_run : ℕ → RunInput
paused_run x = record { memory = first_memory x; budget = 1000; readings = []; log = [] }

abbrev pub late_run : ℕ → RunInput
late_run x = run_input (first_memory x) 11 x

abbrev pub answers_in : List (Run Outcome) → List RunAnswer
answers_in rs = map (λ r. r.result.outcome.answer) rs

-- for all x and y in free cells and logs, the runs satisfy the premises of Isolation and of its part (d).
-- They take fourteen steps; the last run stops where gas has no arrow, after four bundles, with the guest's records.
-- Without a log the machine waits at the first event; after eleven steps the door's event is recorded, and the state cell is behind by it
pub record SampleHolds : Type 0 where
  pub premise : (x : ℕ) → HostPremise layout policy commands (memory x) (runs x)
  pub matches : (x y : ℕ) → LowEqual layout (install_memory layout policy (memory x)) (install_memory layout policy (memory y))
  pub alike : (x y : ℕ) → Pairwise SameInputs (runs x) (runs y)
  pub same : (x y : ℕ) → Pairwise (SameObservations layout) (all_runs layout policy commands (memory x) (runs x)) (all_runs layout policy commands (memory y) (runs y))
  pub answers : (x : ℕ) → answers_in (all_runs layout policy commands (memory x) (runs x)) ≡ run_answer Spent 6 0 0 ∷ run_answer Refused 0 0 0 ∷ run_answer NoArrow 8 2 0 ∷ []
  pub recorded : (x : ℕ) → recorded_in (all_runs layout policy commands (memory x) (runs x)) ≡ pair_of 0 70 ∷ pair_of 2 70 ∷ []
  pub state : (x : ℕ) → get_or (after layout policy commands (memory x) (runs x)).memory layout.cell 0 ≡ 1
  pub begun : (x : ℕ) → (after layout policy commands (memory x) (runs x)).begun ≡ 4
  pub guest : (x : ℕ) → (guest_after layout policy 8 (routine code) [] (guest_start layout policy (install_memory layout policy (memory x))) 4).records ≡ pair_of 0 70 ∷ pair_of 2 70 ∷ []
  pub paused : (x : ℕ) → answers_in (all_runs layout policy commands (memory x) (paused_run x ∷ [])) ≡ run_answer LogFull 6 0 0 ∷ []
  pub paused_premise : (x : ℕ) → HostPremise layout policy commands (memory x) (paused_run x ∷ [])
  pub waiting : (x : ℕ) → Waiting layout commands (after layout policy commands (memory x) (paused_run x ∷ [])).machine
  pub waiting_begun : (x : ℕ) → (after layout policy commands (memory x) (paused_run x ∷ [])).begun ≡ 2
  pub late : (x : ℕ) → answers_in (all_runs layout policy commands (memory x) (late_run x ∷ [])) ≡ run_answer Spent 11 2 0 ∷ []
  pub late_premise : (x : ℕ) → HostPremise layout policy commands (memory x) (late_run x ∷ [])
  pub pending : (x : ℕ) → pending_at layout commands (after layout policy commands (memory x) (late_run x ∷ [])).machine ≡ 2 ∷ []
  pub behind : (x : ℕ) → get_or (after layout policy commands (memory x) (late_run x ∷ [])).memory layout.cell 0 ≡ 0
  pub reading : (x : ℕ) → recorded_in (all_runs layout policy probing (memory x) (first_run x ∷ [])) ≡ pair_of 9 1800 ∷ []
