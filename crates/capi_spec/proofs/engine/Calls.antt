-- A list of calls of the engine is a list of its runs.
use Prim.Native.Nat.{ℕ, ◌≤◌}
use mathlib.Core.Path.{◌≡◌, refl, sym, ◌∙◌, ap, subst}
use mathlib.Core.Bool.{Bool, true, false}
use mathlib.Core.Logic.{⊎_elim}
use mathlib.Core.List.{List, [], map, ◌∷◌}
use borrow.Author.Tests.{eqb-true}
use lib.Dec.{eqb}
use lib.ListN.{length, get_or}
use Rattle.types.specs.declared.Layout.{Layout}
use Rattle.types.specs.declared.Ending.{Ending}
use Rattle.types.specs.declared.Effect.{Effect}
use Rattle.types.specs.Names.{taken_number, guest_registers, most_instructions, answer}
use Rattle.spec.specs.Layouts.{right_layout, not_free}
use Rattle.spec.specs.Policies.{Policy}
use Rattle.spec.specs.Words.{refusal_at, first_refused}
use Rattle.spec.specs.Machines.{State, install_answer, install_memory}
use Rattle.spec.specs.Runs.{RunInput, Pairwise, LowEqual, MemoryPreserved, each_run, Session as MachineSession}
use Rattle.spec.specs.Claims.{SameInputs, SameObservations}
use Rattle.spec.proofs.Bools.{cases, both, cond_ind}
use Rattle.spec.proofs.Loops.{Loop}
use Rattle.spec.proofs.RunSimulation.{lent_box, lent_cell}
use Rattle.spec.proofs.Conditions.{fits_of, installs}
use Rattle.sandbox_spec.proofs.Loading.{loads}
use Rattle.capi_spec.specs.Numbers.{layout_from}
use Rattle.capi_spec.specs.Hosts.{install_for, load_for, HostResult, host_after}
use Rattle.capi_spec.specs.Claims.{calls_of, SameCalls}
use Rattle.capi_spec.proofs.Numbers.{comes_back, called}
use Rattle.spec.proofs.Counts.{apply_regs}
use Rattle.capi_spec.proofs.Calls.{calls_from, same_calls, keeps_regs}
use Rattle.engine_spec.specs.declared.Engine.{Engine}
use Rattle.engine_spec.specs.Engines.{EngineOutcome, RunResult, engine_of, initial_engine, apply_effect, with_memory, with_state, start_of, refusal_of, refusal_by, run_of}
use Rattle.engine_spec.specs.Claims.{Session, session_of, initial_session, run_on, after_taken, after_run, run_as, MemoriesPreserved, HostPremise}
use Rattle.engine_spec.proofs.Runs.{engine_loop, taken_size}
use Rattle.engine_spec.specs.Continues.{continue_refusal, continue_of, Entry, judges_all, judges_reached, Call, call_of, call_refusal, call_on, after_call, call_as}
use Rattle.engine_spec.specs.Continues.{each_call, EntriesPreserved, inputs_of, SameEntryInputs, UnjudgedPremise}
use Rattle.engine_spec.proofs.Isolation.{engine_isolation}
use Rattle.capi_spec.specs.engine.Records.{engine_to, answer_to, result_to, engine_for, engine_from, continue_for}
use Rattle.capi_spec.specs.engine.Claims.{EngineRoundTrips, engine_call, InstalledMemory, installed, loaded, HostEngineIsolation, pairs_place}
use Rattle.capi_spec.specs.engine.Claims.{HostEngineNoninterference, zeros, entry_for, entry_call, MixedPreserved, HostEntriesMix, HostUnjudgedIsolation, HostUnjudgedNoninterference}
use Rattle.engine_spec.proofs.Continues.{continue_loop, sized, entries_agree, words_taken, preserved_as_runs}
use Rattle.engine_spec.proofs.Unjudged.{refused_result, refused_stays, left_in, unjudged_isolation}

pub engine_round_trips : EngineRoundTrips
engine_round_trips = comes_back guest_registers engine_of (λ m. m.regs) (λ m. m.at) (λ m. m.status) (λ _. refl) (λ _ _ _. refl)

-- ---- the session has the record that the run left
carries : (lay : Layout) (ws : List ℕ) (c : Session) (g : RunInput) (t : Bool) → eqb (refusal_of lay ws g.memory).number 0 ≡ t
    → ((run_on lay ws c g).outcome.engine ≡ (after_run lay ws c g).engine) × (length (after_run lay ws c g).engine.regs ≡ length c.engine.regs)
unfolding after_run after_taken run_on run_of apply_effect
carries lay ws c g true e =
    rw e (
      refl,
      keeps_regs (engine_loop lay ws g.readings) (λ r. r.outcome.engine.regs) (λ _ _ _. refl)
          (λ x s. apply_regs lay.ceilings g.readings x (with_memory s (with_state lay x s.mem))) g.budget 0 (start_of c.engine g.memory g.log),
    )
carries lay ws c g false e = rw e (refl, refl)

calls_are : (lay ws : List ℕ) (c : Session) (gs : List RunInput) → length c.engine.regs ≡ guest_registers
    → calls_of (engine_call lay ws) (engine_to c.engine) gs ≡ map (λ r. result_to r.result)
    (each_run (run_as (layout_from lay) ws) (after_run (layout_from lay) ws) c gs)
unfolding engine_for run_on
calls_are lay ws =
    let l = layout_from lay in
    calls_from (λ c. engine_to c.engine) (after_run l ws) (run_as l ws) (λ r. result_to r.result) (engine_call lay ws)
    (λ c. length c.engine.regs ≡ guest_registers)
    (λ c g. called engine_round_trips (λ m. result_to (run_of l ws m g.memory g.budget g.readings g.log)) c.engine)
    (λ c g n. let q = carries l ws c g _ refl in (ap engine_to q.0, q.1 ∙ n))

-- ---- the memory comes from an installation
record PreparedFacts (l : Layout) (pol : Policy) (mem left : List ℕ) : Type 0 where
  taken : (install_answer l pol mem).number ≡ 0
  memory : left ≡ install_memory l pol mem

prepared_facts : {lay : List ℕ} {pol : Policy} {mem left : List ℕ} → InstalledMemory lay pol mem left → PreparedFacts (layout_from lay) pol mem left
unfolding install_for load_for
prepared_facts (installed i) = record { taken = i; memory = refl }
prepared_facts {lay} {pol} {mem} (loaded bytes out z) =
    let d = loads (layout_from lay) pol bytes out mem z in
    record { taken = d.installed; memory = ap (λ (c : MachineSession). c.memory) d.first }

pub host_engine_isolation : HostEngineIsolation
host_engine_isolation lay pol mem ws left gs laid take lends =
    let l = layout_from lay in
    let s = prepared_facts laid in
    let size : length left ≡ length mem = ap length s.memory ∙ (installs l pol mem s.taken).size in
    let premise : HostPremise l pol ws mem gs =
    record {
      taken = ap (λ (k : ℕ). (refusal_by l ws k).number) (sym size) ∙ take;
      installed = s.taken;
      preserved = subst (λ (x : List ℕ). MemoriesPreserved l ws (session_of initial_engine x [] [] 0) gs) s.memory lends;
    } in
    record { calls = calls_are lay ws (initial_session l pol mem) gs refl; premise = premise; isolated = engine_isolation l pol ws mem gs premise }

-- ---- two lists

-- a run that leaves a memory of U cells was not refused for its length, and its memory is the session's
module _ (lay : Layout) (ws : List ℕ) (takes : (refusal_by lay ws lay.size).number ≡ 0) where
  fitted : (c : Session) (g : RunInput) → length (run_on lay ws c g).mem ≡ lay.size → length g.memory ≡ lay.size
  unfolding run_on run_of
  fitted c g =
      cond_ind (λ (r : RunResult). length r.mem ≡ lay.size → length g.memory ≡ lay.size) (eqb (refusal_of lay ws g.memory).number 0)
      (λ t _. taken_size lay ws g.memory (eqb-true _ _ t)) (λ _ e. e)

  kept : (c : Session) (g : RunInput) → length g.memory ≡ lay.size → (run_on lay ws c g).mem ≡ (after_run lay ws c g).memory
  unfolding after_run after_taken
  kept c g e = let z : (refusal_of lay ws g.memory).number ≡ 0 = ap (λ (n : ℕ). (refusal_by lay ws n).number) e ∙ takes in rw z

  same_run : (c c' : Session) (g g' : RunInput) → SameInputs g g' → SameObservations lay (run_as lay ws c g) (run_as lay ws c' g')
      → SameCalls pairs_place lay (result_to (run_as lay ws c g).result) (result_to (run_as lay ws c' g').result)
  same_run c c' g g' i o =
      let whole : length (run_on lay ws c g).mem ≡ lay.size → ((run_on lay ws c g).mem ≡ (after_run lay ws c g).memory) × ((run_on lay ws c' g').mem ≡ (after_run lay ws c' g').memory) =
      λ e. let n = fitted c g e in (kept c g n, kept c' g' (sym i.memory ∙ n)) in
      record {
        answer = ap answer_to o.outcome;
        after = ap (λ (x : EngineOutcome). engine_to x.engine) o.outcome;
        logged = o.logged;
        cell = λ e. let k = whole e in rw (k.0, k.1) o.cell;
        box = λ e. let k = whole e in rw (k.0, k.1) o.box;
      }

pub host_engine_noninterference : HostEngineNoninterference
host_engine_noninterference lay pol pol' mem mem' ws left left' gs gs' laid laid' take lends lends' low given =
    let l = layout_from lay in
    let s = prepared_facts laid in
    let s' = prepared_facts laid' in
    let a = host_engine_isolation lay pol mem ws left gs laid take lends in
    let takes : (refusal_by l ws l.size).number ≡ 0 = ap (λ (n : ℕ). (refusal_by l ws n).number) (sym (taken_size l ws left take)) ∙ take in
    let size : length left' ≡ l.size = ap length s'.memory ∙ (installs l pol' mem' s'.taken).size ∙ eqb-true _ _ (both (right_layout l) _ (fits_of l pol' mem' s'.taken).0).1 in
    let b = host_engine_isolation lay pol' mem' ws left' gs' laid' (ap (λ (n : ℕ). (refusal_by l ws n).number) size ∙ takes) lends' in
    let equal : LowEqual l (install_memory l pol mem) (install_memory l pol' mem') = rw (← s.memory, ← s'.memory) low in
    rw (a.calls, b.calls)
    (same_calls (after_run l ws) (run_as l ws) (λ r. result_to r.result) pairs_place l (same_run l ws takes) (initial_session l pol mem) (initial_session l pol' mem') gs gs' given
    (a.isolated.noninterference pol' mem' gs' b.premise equal given))

-- ---- on words that were validated, a call of either function is a call of the first
module _ (lay ws : List ℕ) (e : (first_refused (refusal_at (length ws)) ws 0 (answer taken_number 0)).number ≡ 0) where
  same_entry : (n : Entry) (xs mem : List ℕ) (budget : ℕ) (rd log : List ℕ) → entry_for n lay ws xs mem budget rd log ≡ engine_for lay ws xs mem budget rd log
  unfolding entry_for engine_for continue_for
  same_entry judges_all xs mem budget rd log = refl
  same_entry judges_reached xs mem budget rd log =
      ap (λ (r : RunResult). host_after guest_registers xs (result_to r)) (entries_agree (layout_from lay) ws (engine_from xs) mem budget rd log e)

  same_entries : (ys : List ℕ) (xs : List Call) → calls_of (entry_call lay ws) ys xs ≡ calls_of (engine_call lay ws) ys (inputs_of xs)
  unfolding calls_of
  same_entries ys [] = refl
  same_entries ys (x ∷ xs) =
      let g = x.input in
      rw (same_entry x.entry ys g.memory g.budget g.readings g.log) (ap (λ (rs : List HostResult). engine_call lay ws ys g ∷ rs) (same_entries (engine_call lay ws ys g).after xs))

pub host_entries_mix : HostEntriesMix
host_entries_mix lay pol mem ws left xs laid take lends =
    let e = words_taken (layout_from lay) ws left take in
    let r = host_engine_isolation lay pol mem ws left (inputs_of xs) laid take (preserved_as_runs (layout_from lay) ws e _ xs lends) in
    record { calls = same_entries lay ws e zeros xs ∙ r.calls; premise = r.premise; isolated = r.isolated }

-- ---- words that nobody judged

-- a call keeps the number of registers
keeps : (lay : Layout) (rd : List ℕ) (l : Loop ℕ RunResult) → ((e : Ending) (k : ℕ) (s : State) → (l.ends e k s).outcome.engine.regs ≡ s.regs)
    → ((e : Effect) (s : State) → l.act e s ≡ apply_effect lay rd e s) → (n k : ℕ) (s : State) → length (l.from n k s).outcome.engine.regs ≡ length s.regs
unfolding apply_effect
keeps lay rd l ends acts = keeps_regs l (λ r. r.outcome.engine.regs) ends
    (λ e s. ap (λ (t : State). length t.regs) (acts e s) ∙ apply_regs lay.ceilings rd e (with_memory s (with_state lay e s.mem)))

entry_regs : (n : Entry) (lay : Layout) (ws : List ℕ) (m : Engine) (mem : List ℕ) (budget : ℕ) (rd log : List ℕ)
    → length (call_of n lay ws m mem budget rd log).outcome.engine.regs ≡ length m.regs
unfolding call_of run_of continue_of
entry_regs judges_all lay ws m mem budget rd log =
    cond_ind (λ (r : RunResult). length r.outcome.engine.regs ≡ length m.regs) (eqb (refusal_of lay ws mem).number 0)
    (λ _. keeps lay rd (engine_loop lay ws rd) (λ _ _ _. refl) (λ _ _. refl) budget 0 (start_of m mem log)) (λ _. refl)
entry_regs judges_reached lay ws m mem budget rd log =
    cond_ind (λ (r : RunResult). length r.outcome.engine.regs ≡ length m.regs) (eqb (continue_refusal lay ws (length mem)).number 0)
    (λ _. keeps lay rd (continue_loop lay ws rd) (λ _ _ _. refl) (λ _ _. refl) budget 0 (start_of m mem log)) (λ _. refl)

-- the session has the record that the call left
call_carries : (lay : Layout) (ws : List ℕ) (c : Session) (x : Call) → (call_on lay ws c x).outcome.engine ≡ (after_call lay ws c x).engine
call_carries lay ws c x =
    ⊎_elim (λ t. sym (left_in lay ws c x t)) (λ t. rw (refused_result lay ws c x t, refused_stays lay ws c x t))
    (cases (eqb (call_refusal x.entry lay ws x.input.memory).number 0))

entry_called : (n : Entry) (lay ws : List ℕ) (m : Engine) (mem : List ℕ) (budget : ℕ) (rd log : List ℕ) → length m.regs ≡ guest_registers
    → entry_for n lay ws (engine_to m) mem budget rd log ≡ result_to (call_of n (layout_from lay) ws m mem budget rd log)
unfolding entry_for engine_for continue_for call_of
entry_called judges_all lay ws m mem budget rd log = called engine_round_trips (λ m. result_to (run_of (layout_from lay) ws m mem budget rd log)) m
entry_called judges_reached lay ws m mem budget rd log = called engine_round_trips (λ m. result_to (continue_of (layout_from lay) ws m mem budget rd log)) m

entry_calls : (lay ws : List ℕ) (c : Session) (xs : List Call) → length c.engine.regs ≡ guest_registers
    → let l = layout_from lay in calls_of (entry_call lay ws) (engine_to c.engine) xs ≡ map (λ r. result_to r.result) (each_call (call_as l ws) l ws c xs)
unfolding calls_of each_call call_on
entry_calls lay ws c [] n = refl
entry_calls lay ws c (x ∷ xs) n =
    let l = layout_from lay in
    let g = x.input in
    let q = call_carries l ws c x in
    let regs : length (after_call l ws c x).engine.regs ≡ guest_registers =
    ap (λ (m : Engine). length m.regs) (sym q) ∙ entry_regs x.entry l ws c.engine g.memory g.budget g.readings g.log ∙ n in
    rw (entry_called x.entry lay ws c.engine g.memory g.budget g.readings g.log n)
    (ap (λ (rs : List HostResult). result_to (call_on l ws c x) ∷ rs)
    (ap (λ (m : Engine). calls_of (entry_call lay ws) (engine_to m) xs) q ∙ entry_calls lay ws (after_call l ws c x) xs regs))

unjudged_premise : {lay : List ℕ} {pol : Policy} {mem left : List ℕ} (ws : List ℕ) (xs : List Call) → InstalledMemory lay pol mem left → length ws ≤ most_instructions
    → MixedPreserved lay ws left xs → UnjudgedPremise (layout_from lay) pol ws mem xs
unjudged_premise {lay} ws xs laid most lends =
    let s = prepared_facts laid in
    record {
      most = most;
      installed = s.taken;
      preserved = subst (λ (x : List ℕ). EntriesPreserved (layout_from lay) ws (session_of initial_engine x [] [] 0) xs) s.memory lends;
    }

pub host_unjudged_isolation : HostUnjudgedIsolation
host_unjudged_isolation lay pol mem ws left xs laid most lends =
    let l = layout_from lay in
    let v = unjudged_premise ws xs laid most lends in
    record { calls = entry_calls lay ws (initial_session l pol mem) xs refl; premise = v; unjudged = unjudged_isolation l pol ws mem xs v }

-- ---- two lists of such calls
module _ (lay : Layout) (ws : List ℕ) where
  call_size : (n : Entry) (mem : List ℕ) → (call_refusal n lay ws mem).number ≡ 0 → length mem ≡ lay.size
  unfolding call_refusal
  call_size judges_all mem z = taken_size lay ws mem z
  call_size judges_reached mem z = (sized lay ws (length mem) z).size

  -- a call that leaves a memory of U cells was lent one
  call_fitted : (c : Session) (x : Call) → length (call_on lay ws c x).mem ≡ lay.size → length x.input.memory ≡ lay.size
  call_fitted c x e =
      ⊎_elim (λ t. call_size x.entry x.input.memory (eqb-true _ _ t)) (λ t. sym (ap (λ (r : RunResult). length r.mem) (refused_result lay ws c x t)) ∙ e)
      (cases (eqb (call_refusal x.entry lay ws x.input.memory).number 0))

  -- it leaves the session's memory, or, if refused, one that equals it except in free cells
  call_kept : (c : Session) (x : Call) → MemoryPreserved lay c.memory x.input → length x.input.memory ≡ lay.size → LowEqual lay (call_on lay ws c x).mem (after_call lay ws c x).memory
  unfolding after_call
  call_kept c x lent e i f =
      ⊎_elim (λ t. rw t) (λ t. rw (refused_result lay ws c x t, t) (lent e i f)) (cases (eqb (call_refusal x.entry lay ws x.input.memory).number 0))

  same_call : (c c' : Session) (x x' : Call) → SameEntryInputs x x' → MemoryPreserved lay c.memory x.input → MemoryPreserved lay c'.memory x'.input
      → SameObservations lay (call_as lay ws c x) (call_as lay ws c' x') → SameCalls pairs_place lay (result_to (call_on lay ws c x)) (result_to (call_on lay ws c' x'))
  same_call c c' x x' s lent lent' o =
      let shown : (i : ℕ) → not_free lay i ≡ true → get_or (after_call lay ws c x).memory i 0 ≡ get_or (after_call lay ws c' x').memory i 0
      → length (call_on lay ws c x).mem ≡ lay.size → get_or (call_on lay ws c x).mem i 0 ≡ get_or (call_on lay ws c' x').mem i 0 =
      λ i f q e. let n = call_fitted c x e in call_kept c x lent n i f ∙ q ∙ sym (call_kept c' x' lent' (sym s.inputs.memory ∙ n) i f) in
      record {
        answer = ap answer_to o.outcome;
        after = ap (λ (q : EngineOutcome). engine_to q.engine) o.outcome;
        logged = o.logged;
        cell = shown lay.cell (lent_cell lay) o.cell;
        box = λ e i b. shown i (lent_box lay i b) (o.box i b) e;
      }

  same_entry_calls : (c c' : Session) (xs xs' : List Call) → Pairwise SameEntryInputs xs xs' → EntriesPreserved lay ws c xs → EntriesPreserved lay ws c' xs'
      → Pairwise (SameObservations lay) (each_call (call_as lay ws) lay ws c xs) (each_call (call_as lay ws) lay ws c' xs')
      → Pairwise (SameCalls pairs_place lay) (map (λ r. result_to r.result) (each_call (call_as lay ws) lay ws c xs)) (map (λ r. result_to r.result) (each_call (call_as lay ws) lay ws c' xs'))
  unfolding each_call
  same_entry_calls c c' [] [] s k k' o = tt
  same_entry_calls c c' [] (x' ∷ xs') s k k' o = s
  same_entry_calls c c' (x ∷ xs) [] s k k' o = s
  same_entry_calls c c' (x ∷ xs) (x' ∷ xs') s k k' o =
      (same_call c c' x x' s.0 k.0 k'.0 o.0, same_entry_calls (after_call lay ws c x) (after_call lay ws c' x') xs xs' s.1 k.1 k'.1 o.1)

pub host_unjudged_noninterference : HostUnjudgedNoninterference
host_unjudged_noninterference lay pol pol' mem mem' ws left left' xs xs' laid laid' most lends lends' low same =
    let l = layout_from lay in
    let v = unjudged_premise ws xs laid most lends in
    let v' = unjudged_premise ws xs' laid' most lends' in
    let equal : LowEqual l (install_memory l pol mem) (install_memory l pol' mem') = rw (← (prepared_facts laid).memory, ← (prepared_facts laid').memory) low in
    let c = initial_session l pol mem in
    let c' = initial_session l pol' mem' in
    rw (entry_calls lay ws c xs refl, entry_calls lay ws c' xs' refl)
    (same_entry_calls l ws c c' xs xs' same v.preserved v'.preserved ((unjudged_isolation l pol ws mem xs v).noninterference pol' mem' xs' v' equal same))
