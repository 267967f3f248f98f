-- Claims about calls of `hemdroas_engine_run` and `hemdroas_engine_continue`: the record survives the round trip, and lists of calls are isolated.
use Rattle.std.specs.Prelude.{ℕ, ◌+◌, ◌≤◌, ◌≡◌, List, [], map, length, replicate}
use Rattle.types.specs.Names.{guest_registers, most_instructions}
use Rattle.spec.specs.Policies.{Policy}
use Rattle.spec.specs.Runs.{RunInput, Pairwise, LowEqual}
use Rattle.spec.specs.Claims.{SameInputs}
use Rattle.capi_spec.specs.Numbers.{layout_from, trailer}
use Rattle.capi_spec.specs.Hosts.{install_for, load_for, HostResult}
use Rattle.capi_spec.specs.Claims.{RoundTrips, calls_of, number, SameCalls}
use Rattle.engine_spec.specs.Engines.{initial_engine, refusal_of}
use Rattle.engine_spec.specs.Claims.{session_of, initial_session, MemoriesPreserved, HostPremise, all_runs, Isolated}
use Rattle.capi_spec.specs.engine.Records.{engine_from, engine_to, result_to, engine_for, continue_for}
use Rattle.engine_spec.specs.Continues.{Entry, judges_all, judges_reached, Call, call_as, each_call, EntriesPreserved, inputs_of, SameEntryInputs, UnjudgedPremise, UnjudgedIsolated}

-- the engine's record, of fifteen registers, survives the round trip
abbrev pub EngineRoundTrips : Type 0
EngineRoundTrips = RoundTrips guest_registers (λ m. m.regs) engine_from engine_to

-- ---- a list of calls

-- a record 'at first zeros and running'
abbrev pub zeros : List ℕ
zeros = replicate (guest_registers + trailer) 0

-- one call of hemdroas_engine_run
abbrev pub engine_call : List ℕ → List ℕ → List ℕ → RunInput → HostResult
engine_call lay ws xs g = engine_for lay ws xs g.memory g.budget g.readings g.log

-- a memory left by hemdroas_install or hemdroas_load that answered taken (0)
pub data InstalledMemory (lay : List ℕ) (pol : Policy) (mem : List ℕ) : List ℕ → Type 0 where
  installed : number (install_for lay pol mem).answer ≡ 0 → InstalledMemory lay pol mem (install_for lay pol mem).memory
  loaded : (bytes out : List ℕ) → number (load_for lay pol bytes out mem).answer ≡ 0 → InstalledMemory lay pol mem (load_for lay pol bytes out mem).memory

-- calls of hemdroas_engine_run with these words, from a record of zeros.
-- Each call gets the record's numbers and the memory that the last call left, except in free cells
abbrev pub CallsPreserved : List ℕ → List ℕ → List ℕ → List RunInput → Type 0
CallsPreserved lay ws left gs = MemoriesPreserved (layout_from lay) ws (session_of initial_engine left [] [] 0) gs

-- these calls are runs that satisfy the premise of `EngineIsolation`, so isolation holds of them
pub record CallsIsolated (lay : List ℕ) (pol : Policy) (ws mem : List ℕ) (gs : List RunInput) : Type 0 where
  pub calls : calls_of (engine_call lay ws) zeros gs ≡ map (λ r. result_to r.result) (all_runs (layout_from lay) pol ws mem gs)
  pub premise : HostPremise (layout_from lay) pol ws mem gs
  pub isolated : Isolated (layout_from lay) pol ws mem gs

-- the engine must take the words; it takes all that hemdroas_rewrite takes (`EngineTakes`)
abbrev pub HostEngineIsolation : Type 0
HostEngineIsolation =
    (lay : List ℕ) (pol : Policy) (mem ws left : List ℕ) (gs : List RunInput) →
    InstalledMemory lay pol mem left → (refusal_of (layout_from lay) ws left).number ≡ 0 →
    CallsPreserved lay ws left gs → CallsIsolated lay pol ws mem gs

-- the index of the pairs in the engine's answer
abbrev pub pairs_place : ℕ
pairs_place = 3

-- noninterference of two lists of calls of hemdroas_engine_run, as in `HostNoninterference`
abbrev pub HostEngineNoninterference : Type 0
HostEngineNoninterference =
    (lay : List ℕ) (pol pol' : Policy) (mem mem' ws left left' : List ℕ) (gs gs' : List RunInput) →
    InstalledMemory lay pol mem left → InstalledMemory lay pol' mem' left' → (refusal_of (layout_from lay) ws left).number ≡ 0 →
    CallsPreserved lay ws left gs → CallsPreserved lay ws left' gs' →
    LowEqual (layout_from lay) left left' → Pairwise SameInputs gs gs' →
    Pairwise (SameCalls pairs_place (layout_from lay)) (calls_of (engine_call lay ws) zeros gs) (calls_of (engine_call lay ws) zeros gs')

-- ---- lists that mix calls of both functions

-- a call of hemdroas_engine_run or hemdroas_engine_continue
unfoldable pub entry_for : Entry → List ℕ → List ℕ → List ℕ → List ℕ → ℕ → List ℕ → List ℕ → HostResult
entry_for judges_all lay ws xs mem budget rd log = engine_for lay ws xs mem budget rd log
entry_for judges_reached lay ws xs mem budget rd log = continue_for lay ws xs mem budget rd log

abbrev pub entry_call : List ℕ → List ℕ → List ℕ → Call → HostResult
entry_call lay ws xs x = let g = x.input in entry_for x.entry lay ws xs g.memory g.budget g.readings g.log

-- calls of both functions with these words, from a record of zeros. Each call gets the record's numbers and the memory that the last call left, except in free cells
abbrev pub MixedPreserved : List ℕ → List ℕ → List ℕ → List Call → Type 0
MixedPreserved lay ws left xs = EntriesPreserved (layout_from lay) ws (session_of initial_engine left [] [] 0) xs

-- a list that mixes both functions in any order is isolated too: its calls are the same runs
pub record MixedCallsIsolated (lay : List ℕ) (pol : Policy) (ws mem : List ℕ) (xs : List Call) : Type 0 where
  pub calls : calls_of (entry_call lay ws) zeros xs ≡ map (λ r. result_to r.result) (all_runs (layout_from lay) pol ws mem (inputs_of xs))
  pub premise : HostPremise (layout_from lay) pol ws mem (inputs_of xs)
  pub isolated : Isolated (layout_from lay) pol ws mem (inputs_of xs)

abbrev pub HostEntriesMix : Type 0
HostEntriesMix =
    (lay : List ℕ) (pol : Policy) (mem ws left : List ℕ) (xs : List Call) →
    InstalledMemory lay pol mem left → (refusal_of (layout_from lay) ws left).number ≡ 0 →
    MixedPreserved lay ws left xs → MixedCallsIsolated lay pol ws mem xs

-- ---- lists of calls with words that nobody judged

-- these calls are calls of the two entries, on the premise. Those that are not refused do what isolated runs of the repaired words do, except for the fault
pub record UnjudgedCallsIsolated (lay : List ℕ) (pol : Policy) (ws mem : List ℕ) (xs : List Call) : Type 0 where
  pub calls : let l = layout_from lay in calls_of (entry_call lay ws) zeros xs ≡ map (λ r. result_to r.result) (each_call (call_as l ws) l ws (initial_session l pol mem) xs)
  pub premise : UnjudgedPremise (layout_from lay) pol ws mem xs
  pub unjudged : UnjudgedIsolated (layout_from lay) pol ws mem xs

-- any words, at most 1,023, and any list of calls of both functions
abbrev pub HostUnjudgedIsolation : Type 0
HostUnjudgedIsolation =
    (lay : List ℕ) (pol : Policy) (mem ws left : List ℕ) (xs : List Call) →
    InstalledMemory lay pol mem left → length ws ≤ most_instructions → MixedPreserved lay ws left xs → UnjudgedCallsIsolated lay pol ws mem xs

-- noninterference of two such lists, as in `HostEngineNoninterference`
abbrev pub HostUnjudgedNoninterference : Type 0
HostUnjudgedNoninterference =
    (lay : List ℕ) (pol pol' : Policy) (mem mem' ws left left' : List ℕ) (xs xs' : List Call) →
    InstalledMemory lay pol mem left → InstalledMemory lay pol' mem' left' → length ws ≤ most_instructions →
    MixedPreserved lay ws left xs → MixedPreserved lay ws left' xs' →
    LowEqual (layout_from lay) left left' → Pairwise SameEntryInputs xs xs' →
    Pairwise (SameCalls pairs_place (layout_from lay)) (calls_of (entry_call lay ws) zeros xs) (calls_of (entry_call lay ws) zeros xs')
