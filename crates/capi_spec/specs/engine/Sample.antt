-- Shows that the premises of HostEngineIsolation, HostEngineNoninterference, HostEntriesMix, HostUnjudgedIsolation and
-- HostUnjudgedNoninterference can be met.
-- The engine runs the routine of this crate's other sample, on its drum, in two calls with a refused one between.
use Rattle.std.specs.Prelude.{ℕ, ◌≡◌, List, [], ◌∷◌, map, set, replicate}
use Rattle.types.specs.Names.{guest}
use Rattle.spec.specs.Words.{pack_of}
use Rattle.spec.specs.Bytes.{words_in}
use Rattle.spec.specs.Runs.{RunInput, Pairwise}
use Rattle.spec.specs.Claims.{SameInputs}
use Rattle.capi_spec.specs.Numbers.{layout_from}
use Rattle.capi_spec.specs.Claims.{calls_of}
use Rattle.capi_spec.specs.Sample.{layout, policy, bytes, first_load, run_input}
use Rattle.engine_spec.specs.Engines.{initial_engine, refusal_of}
use Rattle.engine_spec.specs.Claims.{Session, session_of, after_run}
use Rattle.capi_spec.specs.engine.Claims.{zeros, engine_call, InstalledMemory, CallsPreserved, entry_call, MixedPreserved}
use Rattle.engine_spec.specs.Continues.{judges_all, judges_reached, Call, call_by, EntriesPreserved, SameEntryInputs}

-- SET r0, 70; EVENT 0; EVENT 2; EVENT 0
abbrev pub words : List ℕ
words = words_in bytes

-- the session before the first call, and three calls. Before the first, of two instructions, the host writes x to free cell 9. The second has a
-- memory that is too short. Before the third, of a thousand, the host writes x to free cell 8
abbrev pub first_session : Session
first_session = session_of initial_engine first_load.memory [] [] 0

abbrev pub first_call : ℕ → RunInput
first_call x = run_input (set first_load.memory 9 x) 2

abbrev pub left : ℕ → List ℕ
left x = (after_run (layout_from layout) words first_session (first_call x)).memory

abbrev pub last_call : ℕ → RunInput
last_call x = run_input (set (left x) 8 x) 1000

abbrev pub calls : ℕ → List RunInput
calls x = first_call x ∷ run_input [] 2 ∷ last_call x ∷ []

-- the same by both functions: hemdroas_engine_continue continues what hemdroas_engine_run began
abbrev pub mixed_calls : ℕ → List Call
mixed_calls x = call_by judges_all (first_call x) ∷ call_by judges_reached (run_input [] 2) ∷ call_by judges_reached (last_call x) ∷ []

-- spent (25), bad layout (7), no arrow (21)
abbrev pub three_answers : List (List ℕ)
three_answers = (25 ∷ 0 ∷ 2 ∷ 1 ∷ 0 ∷ []) ∷ (7 ∷ 0 ∷ 0 ∷ 0 ∷ 0 ∷ []) ∷ (21 ∷ 0 ∷ 2 ∷ 1 ∷ 0 ∷ []) ∷ []

-- SET r0, 70; then a word of kind 13
abbrev pub unknown_words : List ℕ
unknown_words = pack_of guest.set 0 0 0 0 70 ∷ pack_of 13 0 0 0 0 0 ∷ []

-- three calls with them: hemdroas_engine_run refuses them, hemdroas_engine_continue faults at the second, and again when it is called once more
abbrev pub unknown_calls : ℕ → List Call
unknown_calls x = map (λ n. call_by n (first_call x)) (judges_all ∷ judges_reached ∷ judges_reached ∷ [])

-- for every x that the host writes
pub record SampleHolds : Type 0 where
  pub installed_memory : InstalledMemory layout policy (replicate 128 0) first_load.memory
  pub taken : (refusal_of (layout_from layout) words first_load.memory).number ≡ 0
  pub preserved : (x : ℕ) → CallsPreserved layout words first_load.memory (calls x)
  pub alike : (x y : ℕ) → Pairwise SameInputs (calls x) (calls y)
  pub answers : (x : ℕ) → map (λ r. r.answer) (calls_of (engine_call layout words) zeros (calls x)) ≡ three_answers
  -- the premise of HostEntriesMix
  pub mixed : (x : ℕ) → EntriesPreserved (layout_from layout) words first_session (mixed_calls x)
  pub mixed_answers : (x : ℕ) → map (λ r. r.answer) (calls_of (entry_call layout words) zeros (mixed_calls x)) ≡ three_answers
  -- the premises of HostUnjudgedIsolation and HostUnjudgedNoninterference: words of which the second is no instruction
  pub unjudged : (x : ℕ) → MixedPreserved layout unknown_words first_load.memory (unknown_calls x)
  pub unjudged_alike : (x y : ℕ) → Pairwise SameEntryInputs (unknown_calls x) (unknown_calls y)
  pub faulted : (x : ℕ) → map (λ r. r.answer) (calls_of (entry_call layout unknown_words) zeros (unknown_calls x)) ≡ (3 ∷ 1 ∷ 0 ∷ 0 ∷ 0 ∷ []) ∷ (22 ∷ 0 ∷ 2 ∷ 0 ∷ 0 ∷ []) ∷ (22 ∷ 0 ∷ 0 ∷ 0 ∷ 0 ∷ []) ∷ []
