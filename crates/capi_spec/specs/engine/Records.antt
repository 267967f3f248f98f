-- The engine's record and answer as arrays of numbers, and what its two C functions leave.
use Rattle.std.specs.Prelude.{ℕ, ◌<◌, ◌^◌, List, [], ◌∷◌}
use Rattle.types.specs.Names.{guest_registers}
use Rattle.capi_spec.specs.Numbers.{layout_from, record_to, record_from}
use Rattle.capi_spec.specs.Hosts.{HostResult, host_result, host_after}
use Rattle.engine_spec.specs.declared.Engine.{Engine}
use Rattle.engine_spec.specs.Engines.{EngineOutcome, engine_of, RunResult, run_of}
use Rattle.engine_spec.specs.Continues.{continue_of}

-- a record as its registers, index and status
abbrev pub engine_from : List ℕ → Engine
engine_from xs = record_from engine_of guest_registers xs

abbrev pub engine_to : Engine → List ℕ
engine_to m = record_to m.regs m.at m.status

-- an answer as ending or refusal, place, instructions, pairs and readings
abbrev pub answer_to : EngineOutcome → List ℕ
answer_to o = o.answer.number ∷ o.answer.place ∷ o.steps ∷ o.pairs ∷ o.used ∷ []

-- its place, pairs and readings have 32 bits
pub record NumbersFit (o : EngineOutcome) : Type 0 where
  pub place : o.answer.place < 2 ^ 32
  pub pairs : o.pairs < 2 ^ 32
  pub used : o.used < 2 ^ 32

-- a run's result as numbers
abbrev pub result_to : RunResult → HostResult
result_to r = host_result (answer_to r.outcome) (engine_to r.outcome.engine) r.mem r.log

-- what hemdroas_engine_run leaves: answer, record, memory, log
unfoldable pub engine_for : List ℕ → List ℕ → List ℕ → List ℕ → ℕ → List ℕ → List ℕ → HostResult
engine_for lay ws xs mem budget rd log = host_after guest_registers xs (result_to (run_of (layout_from lay) ws (engine_from xs) mem budget rd log))

-- what hemdroas_engine_continue leaves
unfoldable pub continue_for : List ℕ → List ℕ → List ℕ → List ℕ → ℕ → List ℕ → List ℕ → HostResult
continue_for lay ws xs mem budget rd log = host_after guest_registers xs (result_to (continue_of (layout_from lay) ws (engine_from xs) mem budget rd log))
