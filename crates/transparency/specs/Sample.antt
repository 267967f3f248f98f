-- Shows that the premises can be met: a well-behaved routine with STORE, LOAD, GOX, an order and a reading.
use Rattle.std.specs.Prelude.{ℕ, ◌≤◌, ◌≡◌, List, [], ◌∷◌, ◌++◌, replicate}
use Rattle.types.specs.declared.Status.TheVariants.{Running, Ended}
use Rattle.spec.specs.Policies.{Policy, policy_of}
use Rattle.spec.specs.Words.{pack_of}
use Rattle.spec.specs.Bundles.{commands_of}
use Rattle.spec.specs.Machines.{install_memory}
use Rattle.spec.specs.Guests.{pair_of}
use Rattle.spec.specs.Runs.{RunInput, Session, after}
use Rattle.spec.specs.Claims.{AtBoundary, Waiting, NoPause}
use Rattle.samples.specs.Sample.{layout, written}
use Rattle.engine_spec.specs.Claims.{Session as EngineSession, HostPremise as EnginePremise, after as afterEngine, EngineNoPause}
use Rattle.transparency.specs.Raw.{Raw, raw_run}
use Rattle.transparency.specs.Claims.{Behaved, Sandboxed, ContinuesAsRaw}

-- the policy of `samples`, with instruction 6 as its only landing
abbrev pub policy : Policy
policy = policy_of 2 0 (0 ∷ 0 ∷ 1 ∷ replicate 13 0 ++ 255 ∷ replicate 15 1) (6 ∷ [])

-- SET r1, 300; SET r0, 6; STORE r1, r0; LOAD r2, r1; GOX r2; HALT; EVENT 0; EVENT 8
abbrev pub code : List ℕ
code =
    pack_of 1 1 0 0 0 300 ∷ pack_of 1 0 0 0 0 6 ∷ pack_of 9 0 1 0 0 0 ∷ pack_of 8 2 1 0 0 0
    ∷ pack_of 11 2 0 0 0 0 ∷ 0 ∷ pack_of 12 0 0 0 0 0 ∷ pack_of 12 0 0 0 0 8 ∷ []

abbrev pub commands : List ℕ
commands = commands_of layout code

abbrev pub memory : List ℕ
memory = replicate 1024 0

abbrev pub readings : List ℕ
readings = 1800 ∷ []

-- before each run the host writes x to a free cell
abbrev pub run : ℕ → RunInput
run x = record { memory = written x (install_memory layout policy memory); budget = 1000; readings = readings; log = replicate 4 0 }

-- the raw run after k instructions
abbrev pub raw_at : ℕ → Raw
raw_at k = raw_run layout code memory readings k

-- a run with a log of one pair. Before it the host writes x to a free cell
abbrev pub one_pair : ℕ → List ℕ → ℕ → RunInput
one_pair x mem budget = record { memory = written x mem; budget = budget; readings = readings; log = replicate 2 0 }

-- such a run of the machine waits at the second event. One of 24 steps ends before that event's bundle, after six whole ones
abbrev pub paused_run : ℕ → RunInput
paused_run x = one_pair x (install_memory layout policy memory) 1000

abbrev pub cut_run : ℕ → RunInput
cut_run x = one_pair x (install_memory layout policy memory) 24

-- what the machine and the engine hold after one run
abbrev pub machine_session : RunInput → Session
machine_session g = after layout policy commands memory (g ∷ [])

abbrev pub engine_session : RunInput → EngineSession
engine_session g = afterEngine layout policy code memory (g ∷ [])

-- one more run can follow, with the raw run's next reading
abbrev pub CanGoOn : ℕ → List ℕ → List ℕ → Type 0
CanGoOn x mem used = ContinuesAsRaw layout mem used readings (one_pair x mem 1000)

-- for every x that the host writes, and every number of instructions up to eight, the routine behaves. The premises of Transparent are met: the
-- sandboxed run ends after eight bundles, the raw run after eight instructions. Those of TransparentPaused and TransparentResumed are met with seven
-- bundles begun, those of TransparentNext and TransparentStep after six whole bundles. Those of EngineTransparent are met too, and at the pause those
-- of EngineTransparentNext and EngineTransparentStep
pub record SampleHolds : Type 0 where
  pub sandboxed : (x k : ℕ) → k ≤ 8 → Sandboxed layout policy code memory memory readings 64 (run x ∷ []) k
  pub begun : (x : ℕ) → (machine_session (run x)).begun ≡ 8
  pub over : (x : ℕ) → (machine_session (run x)).machine.status ≡ Ended
  pub recorded : (raw_at 8).records ≡ pair_of 0 6 ∷ pair_of 8 1800 ∷ []
  pub ended : (raw_at 8).status ≡ Ended
  pub raw_goes_on : (raw_at 6).status ≡ Running
  pub paused_sandboxed : (x k : ℕ) → k ≤ 8 → Sandboxed layout policy code memory memory readings 64 (paused_run x ∷ []) k
  pub paused_begun : (x : ℕ) → (machine_session (paused_run x)).begun ≡ 7
  pub waiting : (x : ℕ) → Waiting layout commands (machine_session (paused_run x)).machine
  pub resumed : (x : ℕ) → let c = machine_session (paused_run x) in CanGoOn x c.memory c.consumed × NoPause layout commands c (one_pair x c.memory 1000)
  pub cut_sandboxed : (x k : ℕ) → k ≤ 8 → Sandboxed layout policy code memory memory readings 64 (cut_run x ∷ []) k
  pub cut_begun : (x : ℕ) → (machine_session (cut_run x)).begun ≡ 6
  pub boundary : (x : ℕ) → AtBoundary layout (machine_session (cut_run x)).machine
  pub running : (x : ℕ) → (machine_session (cut_run x)).machine.status ≡ Running
  pub cut_resumed : (x : ℕ) → let c = machine_session (cut_run x) in CanGoOn x c.memory c.consumed × NoPause layout commands c (one_pair x c.memory 1000)
  pub engine_premise : (x : ℕ) → EnginePremise layout policy code memory (run x ∷ [])
  pub engine_behaved : (x k : ℕ) → k ≤ 8 → Behaved layout policy code memory memory (engine_session (run x)).consumed readings k
  pub counted : (x : ℕ) → (engine_session (run x)).counted ≡ 8
  pub engine_over : (x : ℕ) → (engine_session (run x)).engine.status ≡ Ended
  pub engine_paused_premise : (x : ℕ) → EnginePremise layout policy code memory (paused_run x ∷ [])
  pub engine_paused_counted : (x : ℕ) → (engine_session (paused_run x)).counted ≡ 6
  pub engine_paused_behaved : (x k : ℕ) → k ≤ 8 → Behaved layout policy code memory memory (engine_session (paused_run x)).consumed readings k
  pub engine_resumed : (x : ℕ) → let c = engine_session (paused_run x) in CanGoOn x c.memory c.consumed × EngineNoPause layout code c (one_pair x c.memory 1)
