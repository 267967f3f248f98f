-- Shows that the premises of the engine's claims can be met: document 01's sample routine in two runs with a refused one between.
use Rattle.std.specs.Prelude.{ℕ, ◌+◌, ◌*◌, ◌≤◌, ◌≡◌, List, [], ◌∷◌, map, length, get_or, set, replicate}
use Rattle.types.specs.declared.Answer.{Answer}
use Rattle.types.specs.declared.Status.TheVariants.{Running}
use Rattle.types.specs.Names.{guest, pair_cells, answer}
use Rattle.spec.specs.Words.{pack_of}
use Rattle.spec.specs.Guests.{pair_of}
use Rattle.spec.specs.Runs.{RunInput, Pairwise, Run, recorded_in, MemoryPreserved, after as machineAfter}
use Rattle.spec.specs.Claims.{AtBoundary, Waiting, with_budget, NoPause, SameInputs}
use Rattle.samples.specs.Sample.{layout, policy, code, commands, memory, first_memory, run_input, runs as machineRuns, paused_run}
use Rattle.engine_spec.specs.Engines.{EngineOutcome, refusal_of}
use Rattle.engine_spec.specs.Claims.{initial_session, run_on, after_run, after, HostPremise, PairedRuns, PausedBy, EngineNoPause, all_runs}
use Rattle.engine_spec.specs.Continues.{judges_all, judges_reached, Call, call_by, call_as, each_call, CallPremise, reached_calls, UnjudgedPremise}

-- three runs. The first has two instructions. The second has a memory that is too short.
-- Before the third, of a thousand instructions, the host writes x to free cell 600
abbrev pub first_run : ℕ → RunInput
first_run x = run_input (first_memory x) 2 x

abbrev pub left : ℕ → List ℕ
left x = (after_run layout code (initial_session layout policy (memory x)) (first_run x)).memory

abbrev pub last_run : ℕ → RunInput
last_run x = run_input (set (left x) 600 x) 1000 x

abbrev pub runs : ℕ → List RunInput
runs x = first_run x ∷ run_input [] 2 x ∷ last_run x ∷ []

-- the same by both entries: the second continues what the first began
abbrev pub mixed_calls : ℕ → List Call
mixed_calls x = call_by judges_all (first_run x) ∷ call_by judges_reached (run_input [] 2 x) ∷ call_by judges_reached (last_run x) ∷ []

-- spent (25), bad layout (7), no arrow (21)
abbrev pub three_answers : List Answer
three_answers = answer 25 0 ∷ answer 7 0 ∷ answer 21 0 ∷ []

-- SET alone: four steps of the machine, one instruction of the engine
abbrev pub machine_one : ℕ → RunInput
machine_one x = run_input (first_memory x) 4 x

abbrev pub engine_one : ℕ → RunInput
engine_one x = run_input (first_memory x) 1 x

-- a free pair and no reading: enough for an order
abbrev pub order_run : ℕ → RunInput
order_run x = record { memory = first_memory x; budget = 1; readings = []; log = replicate pair_cells x }

-- words that nobody judged: SET r0, 70, then a word of kind 13. A run of them
abbrev pub unjudged : List ℕ
unjudged = pack_of guest.set 0 0 0 0 70 ∷ pack_of 13 0 0 0 0 0 ∷ []

abbrev pub one_run : ℕ → RunInput
one_run x = run_input (first_memory x) 1000 x

abbrev pub answers_in : List (Run EngineOutcome) → List Answer
answers_in rs = map (λ r. r.result.outcome.answer) rs

abbrev pub counts_in : List (Run EngineOutcome) → List ℕ
counts_in rs = map (λ r. r.result.outcome.steps) rs

-- for all x and y in free cells and logs, the runs satisfy the premise, also beside the machine's runs of the same routine.
-- They take four instructions, and the last run stops where gas has no arrow
pub record SampleHolds : Type 0 where
  pub premise : (x : ℕ) → HostPremise layout policy code (memory x) (runs x)
  pub alike : (x y : ℕ) → Pairwise SameInputs (runs x) (runs y)
  pub paired : (x y : ℕ) → PairedRuns layout policy code (memory x) 32 (machineRuns x) (runs y)
  pub answers : (x : ℕ) → answers_in (all_runs layout policy code (memory x) (runs x)) ≡ three_answers
  pub counted : (x : ℕ) → counts_in (all_runs layout policy code (memory x) (runs x)) ≡ 2 ∷ 0 ∷ 2 ∷ []
  pub recorded : (x : ℕ) → recorded_in (all_runs layout policy code (memory x) (runs x)) ≡ pair_of 0 70 ∷ pair_of 2 70 ∷ []
  pub state : (x : ℕ) → get_or (after layout policy code (memory x) (runs x)).memory layout.cell 0 ≡ 1
  -- without a log both wait at the first event: the machine on the third command of its bundle, so one bundle ahead of the engine
  pub waits : (x : ℕ) → PairedRuns layout policy code (memory x) 32 (paused_run x ∷ []) (paused_run x ∷ [])
  pub third : (x : ℕ) → Waiting layout commands (machineAfter layout policy commands (memory x) (paused_run x ∷ [])).machine
  pub behind : (x : ℕ) → (machineAfter layout policy commands (memory x) (paused_run x ∷ [])).begun ≡ (after layout policy code (memory x) (paused_run x ∷ [])).counted + 1
  pub paused : (x : ℕ) → answers_in (all_runs layout policy code (memory x) (paused_run x ∷ [])) ≡ answer 23 0 ∷ []
  pub paused_kept : (x : ℕ) → MemoryPreserved layout (after layout policy code (memory x) (paused_run x ∷ [])).memory (paused_run x)
  -- after SET both are before the first event; without a log the engine pauses there
  pub level : (x : ℕ) → PairedRuns layout policy code (memory x) 32 (machine_one x ∷ []) (engine_one x ∷ [])
  pub boundary : (x : ℕ) → AtBoundary layout (machineAfter layout policy commands (memory x) (machine_one x ∷ [])).machine
  pub running : (x : ℕ) → (machineAfter layout policy commands (memory x) (machine_one x ∷ [])).machine.status ≡ Running
  pub even : (x : ℕ) → (machineAfter layout policy commands (memory x) (machine_one x ∷ [])).begun ≡ (after layout policy code (memory x) (engine_one x ∷ [])).counted
  pub pauses : (x : ℕ) → PausedBy (run_on layout code (after layout policy code (memory x) (engine_one x ∷ [])) (with_budget (paused_run x) 1)).outcome.answer.number
  -- both still have the memory that they were lent, so such runs can follow. Without a reading neither pauses at the order
  pub machine_kept : (x : ℕ) → MemoryPreserved layout (machineAfter layout policy commands (memory x) (machine_one x ∷ [])).memory (order_run x)
  pub engine_kept : (x : ℕ) → MemoryPreserved layout (after layout policy code (memory x) (engine_one x ∷ [])).memory (order_run x)
  pub machine_goes : (x : ℕ) → NoPause layout commands (machineAfter layout policy commands (memory x) (machine_one x ∷ [])) (order_run x)
  pub engine_goes : (x : ℕ) → EngineNoPause layout code (after layout policy code (memory x) (engine_one x ∷ [])) (order_run x)
  -- `first_run` has log and readings for its two instructions
  pub ample : (x : ℕ) → (pair_cells * (first_run x).budget ≤ length (first_run x).log) × ((first_run x).budget ≤ length (first_run x).readings)
  -- mixed calls stop there too. The second entry runs unjudged words to the fault at the second
  pub mixed : (x : ℕ) → CallPremise layout policy code (memory x) (mixed_calls x)
  pub mixed_answers : (x : ℕ) → answers_in (each_call (call_as layout code) layout code (initial_session layout policy (memory x)) (mixed_calls x)) ≡ three_answers
  pub unjudged_premise : (x : ℕ) → UnjudgedPremise layout policy unjudged (memory x) (reached_calls (one_run x ∷ []))
  pub faulted : (x : ℕ) → answers_in (each_call (call_as layout unjudged) layout unjudged (initial_session layout policy (memory x)) (reached_calls (one_run x ∷ []))) ≡ answer 22 0 ∷ []
  -- refused: a kind above 12 in the second word, and a GOIF past the end
  pub unknown : refusal_of layout (pack_of 1 0 0 0 0 70 ∷ pack_of 13 0 0 0 0 0 ∷ []) (memory 0) ≡ answer 3 1
  pub landing : refusal_of layout (pack_of 10 0 0 0 0 2 ∷ []) (memory 0) ≡ answer 8 0
