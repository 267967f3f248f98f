-- Shows that the premises of HostIsolation and HostNoninterference can be met. Document 01's sample routine is loaded on a small drum.
-- It is run in two calls with a refused one between, and again under another policy.
use Rattle.std.specs.Prelude.{ℕ, ◌≡◌, List, [], ◌∷◌, ◌++◌, map, set, replicate}
use Rattle.types.specs.Names.{orders, top_word}
use Rattle.spec.specs.Policies.{Policy, policy_of}
use Rattle.spec.specs.Runs.{RunInput, Pairwise, Session, session_of, after_run}
use Rattle.spec.specs.Claims.{SameInputs}
use Rattle.capi_spec.specs.Numbers.{layout_from, machine_from}
use Rattle.capi_spec.specs.Hosts.{HostInstalled, install_for, HostLoaded, load_for}
use Rattle.capi_spec.specs.Claims.{calls_of, run_call, counted, Prepared, CallsPreserved}

-- U 128, SL 96, SH 127, M 0, P 16, S 2, B 32, Q 64, no limits
abbrev pub layout : List ℕ
layout = 128 ∷ 96 ∷ 127 ∷ 0 ∷ 16 ∷ 2 ∷ 32 ∷ 64 ∷ replicate orders top_word

-- event 2, the door, leads to state 1, which has no arrow for event 0, gas; and a policy that allows everything
abbrev pub policy : Policy
policy = policy_of 2 0 (0 ∷ 0 ∷ 1 ∷ replicate 13 0 ++ 255 ∷ replicate 15 1) []

abbrev pub other : Policy
other = policy_of 2 1 (replicate 32 0) (3 ∷ [])

-- SET r0, 70; EVENT 0; EVENT 2; EVENT 0
abbrev pub bytes : List ℕ
bytes = 4 ∷ 0 ∷ 33 ∷ 1 ∷ 70 ∷ 0 ∷ 0 ∷ 0 ∷ 1 ∷ 12 ∷ 33 ∷ 12 ∷ 2 ∷ 0 ∷ 0 ∷ 0 ∷ 1 ∷ 12 ∷ []

abbrev pub first_load : HostLoaded
first_load = load_for layout policy bytes (replicate 40 0) (replicate 128 0)

abbrev pub run_input : List ℕ → ℕ → RunInput
run_input mem budget = record { memory = mem; budget = budget; readings = []; log = replicate 8 0 }

-- the session before the first call, and three calls. Before the first, of six steps, the host writes x to free cell 9. The second has a memory
-- that is too short. Before the third, of a thousand steps, the host writes x to free cell 8
abbrev pub first_session : Session
first_session = session_of (machine_from first_load.machine) first_load.memory [] [] 0

abbrev pub first_call : ℕ → RunInput
first_call x = run_input (set first_load.memory 9 x) 6

abbrev pub left : ℕ → List ℕ
left x = (after_run (layout_from layout) (counted first_load) first_session (first_call x)).memory

abbrev pub calls : ℕ → List RunInput
calls x = first_call x ∷ run_input [] 6 ∷ run_input (set (left x) 8 x) 1000 ∷ []

-- the other policy, installed in the memory that the first call left
abbrev pub next : ℕ → HostInstalled
next x = install_for layout other (left x)

-- a call after it, of a thousand steps. Before it the host writes x to free cell 8
abbrev pub next_call : ℕ → RunInput
next_call x = run_input (set (next x).memory 8 x) 1000

-- for every x; so two lists with x and y satisfy the premise of HostNoninterference
pub record SampleHolds : Type 0 where
  pub loaded : first_load.answer ≡ 0 ∷ 32 ∷ []
  pub ready : Prepared layout policy (replicate 128 0) (counted first_load) first_load.machine first_load.memory
  pub preserved : (x : ℕ) → CallsPreserved layout (counted first_load) first_load.machine first_load.memory (calls x)
  pub alike : (x y : ℕ) → Pairwise SameInputs (calls x) (calls y)
  pub answers : (x : ℕ) → map (λ r. r.answer) (calls_of (run_call layout (counted first_load)) first_load.machine (calls x)) ≡ (25 ∷ 6 ∷ 0 ∷ 0 ∷ []) ∷ (7 ∷ 0 ∷ 0 ∷ 0 ∷ []) ∷ (21 ∷ 8 ∷ 2 ∷ 0 ∷ []) ∷ []
  pub again : (x : ℕ) → Prepared layout other (left x) (counted first_load) (next x).machine (next x).memory
  pub again_preserved : (x : ℕ) → CallsPreserved layout (counted first_load) (next x).machine (next x).memory (next_call x ∷ [])
  pub ended : (x : ℕ) → map (λ r. r.answer) (calls_of (run_call layout (counted first_load)) (next x).machine (next_call x ∷ [])) ≡ (20 ∷ 17 ∷ 3 ∷ 0 ∷ []) ∷ []
