-- A list of calls is a list of runs.
use Prim.Native.Nat.{ℕ}
use mathlib.Core.Path.{◌≡◌, refl, sym, ◌∙◌, ap, subst}
use mathlib.Core.Bool.{Bool, true, false, ◌&&◌}
use mathlib.Core.List.{List, [], ◌∷◌, map}
use borrow.Author.Tests.{eq-eqb}
use lib.Dec.{eqb}
use lib.ListN.{length}
use Rattle.types.specs.declared.Layout.{Layout}
use Rattle.types.specs.declared.Ending.{Ending}
use Rattle.types.specs.declared.Effect.{Effect}
use Rattle.types.specs.declared.Outcome.{Outcome}
use Rattle.types.specs.Names.{registers}
use Rattle.spec.specs.Layouts.{right_layout}
use Rattle.spec.specs.Policies.{Policy}
use Rattle.spec.specs.Bundles.{check_answer}
use Rattle.spec.specs.Machines.{State, start_of, fits, RunResult, run_of, install_answer, install_machine, install_memory}
use Rattle.types.specs.Records.{machine_of}
use Rattle.spec.specs.Runs.{RunInput, Pairwise, Run, LowEqual, Session, session_of, initial_session, run_on, after_taken, after_run, run_as, MemoriesPreserved, HostPremise, each_run}
use Rattle.spec.specs.Claims.{SameInputs, SameObservations}
use Rattle.spec.proofs.Bools.{both, join, cond_ind}
use Rattle.spec.proofs.Loops.{Loop, keeps, machine_loop}
use Rattle.spec.proofs.Counts.{apply_regs}
use Rattle.spec.proofs.Conditions.{fits_of, machine_of_lem}
use Rattle.spec.proofs.Isolation.{isolation}
use Rattle.sandbox_spec.proofs.Loading.{loads}
use Rattle.capi_spec.specs.Numbers.{layout_from, machine_from, machine_to, run_answer_to}
use Rattle.capi_spec.specs.Hosts.{check_for, install_for, load_for, HostResult, result_to, run_for}
use Rattle.capi_spec.specs.Claims.{MachineRoundTrips, calls_of, run_call, Prepared, installed, loaded, HostIsolation, SameCalls, pairs_place, HostNoninterference}
use Rattle.capi_spec.proofs.Numbers.{comes_back, called}

pub machine_round_trips : MachineRoundTrips
machine_round_trips = comes_back registers machine_of (λ m. m.regs) (λ m. m.pc) (λ m. m.status) (λ _. refl) (λ _ _ _. refl)

-- ---- calls correspond to runs, the machine's or the engine's, if each call is a run on a session's numbers
module _ {C R : Type 0} (numbers : C → List ℕ) (next : C → RunInput → C) (run_as : C → RunInput → R) (left : R → HostResult) (call : List ℕ → RunInput → HostResult)
    (Invariant : C → Type 0) (ran : (c : C) (g : RunInput) → Invariant c → call (numbers c) g ≡ left (run_as c g))
    (carries : (c : C) (g : RunInput) → Invariant c → ((left (run_as c g)).after ≡ numbers (next c g)) × Invariant (next c g)) where
  pub calls_from : (c : C) (gs : List RunInput) → Invariant c → calls_of call (numbers c) gs ≡ map left (each_run run_as next c gs)
  unfolding calls_of each_run
  calls_from c [] k = refl
  calls_from c (g ∷ gs) k =
      let q = carries c g k in
      rw (ran c g k)
      (ap (λ (rs : List HostResult). left (run_as c g) ∷ rs) (ap (λ (ys : List ℕ). calls_of call ys gs) q.0 ∙ calls_from (next c g) gs q.1))

-- ---- if two lists of runs show the same, so do the two lists of calls
module _ {C O : Type 0} (next : C → RunInput → C) (run_as : C → RunInput → Run O) (left : Run O → HostResult) (p : ℕ) (lay : Layout)
    (same : (c c' : C) (g g' : RunInput) → SameInputs g g' → SameObservations lay (run_as c g) (run_as c' g') → SameCalls p lay (left (run_as c g)) (left (run_as c' g'))) where
  pub same_calls : (c c' : C) (gs gs' : List RunInput) → Pairwise SameInputs gs gs' → Pairwise (SameObservations lay) (each_run run_as next c gs) (each_run run_as next c' gs')
      → Pairwise (SameCalls p lay) (map left (each_run run_as next c gs)) (map left (each_run run_as next c' gs'))
  unfolding each_run
  same_calls c c' [] [] i o = tt
  same_calls c c' [] (g' ∷ gs') i o = i
  same_calls c c' (g ∷ gs) [] i o = i
  same_calls c c' (g ∷ gs) (g' ∷ gs') i o = (same c c' g g' i.0 o.0, same_calls (next c g) (next c' g') gs gs' i.1 o.1)

-- ---- a loop, the machine's or the engine's, keeps the number of registers
pub keeps_regs : {R : Type 0} (l : Loop ℕ R) (regs : R → List ℕ) → ((e : Ending) (k : ℕ) (s : State) → regs (l.ends e k s) ≡ s.regs)
    → ((e : Effect) (s : State) → length (l.act e s).regs ≡ length s.regs) → (n k : ℕ) (s : State) → length (regs (l.from n k s)) ≡ length s.regs
keeps_regs l regs ends acts n k s =
    keeps l (λ _ _ t. length t.regs ≡ length s.regs) (λ r. length (regs r) ≡ length s.regs)
    (λ _ j t i _. ap length (ends _ j t) ∙ i) (λ _ j t i _ w _. ap length (ends w j t) ∙ i) (λ _ j t i _ _. acts _ t ∙ i) n k s refl

-- ---- the session has the record that the run left
carries : (lay : Layout) (ws : List ℕ) (c : Session) (g : RunInput) (t : Bool) → fits lay g.memory ≡ t
    → ((run_on lay ws c g).outcome.machine ≡ (after_run lay ws c g).machine) × (length (after_run lay ws c g).machine.regs ≡ length c.machine.regs)
unfolding after_run after_taken run_on run_of
carries lay ws c g true e =
    rw e (
      refl,
      keeps_regs (machine_loop lay ws g.readings) (λ r. r.outcome.machine.regs) (λ _ _ _. refl) (apply_regs lay.ceilings g.readings)
          g.budget 0 (start_of c.machine g.memory g.log),
    )
carries lay ws c g false e = rw e (refl, refl)

calls_are : (lay ws : List ℕ) (c : Session) (gs : List RunInput) → length c.machine.regs ≡ registers
    → calls_of (run_call lay ws) (machine_to c.machine) gs ≡ map (λ r. result_to r.result)
    (each_run (run_as (layout_from lay) ws) (after_run (layout_from lay) ws) c gs)
unfolding run_for run_on
calls_are lay ws =
    let l = layout_from lay in
    calls_from (λ c. machine_to c.machine) (after_run l ws) (run_as l ws) (λ r. result_to r.result) (run_call lay ws)
    (λ c. length c.machine.regs ≡ registers)
    (λ c g. called machine_round_trips (λ m. result_to (run_of l ws m g.memory g.budget g.readings g.log)) c.machine)
    (λ c g n. let q = carries l ws c g _ refl in (ap machine_to q.0, q.1 ∙ n))

-- ---- what is prepared comes from an installation and a passed list
record PreparedFacts (l : Layout) (pol : Policy) (mem ws xs left : List ℕ) : Type 0 where
  passed : (check_answer l ws).number ≡ 0
  taken : (install_answer l pol mem).number ≡ 0
  machine : xs ≡ machine_to (install_machine l pol mem)
  memory : left ≡ install_memory l pol mem

prepared_facts : {lay : List ℕ} {pol : Policy} {mem ws xs left : List ℕ} → Prepared lay pol mem ws xs left → PreparedFacts (layout_from lay) pol mem ws xs left
unfolding check_for install_for load_for
prepared_facts (installed ws p i) = record { passed = p; taken = i; machine = refl; memory = refl }
prepared_facts {lay} {pol} {mem} (loaded bytes out z) =
    let d = loads (layout_from lay) pol bytes out mem z in
    record {
      passed = d.passed;
      taken = d.installed;
      machine = ap (λ (c : Session). machine_to c.machine) d.first;
      memory = ap (λ (c : Session). c.memory) d.first;
    }

pub host_isolation : HostIsolation
host_isolation lay pol mem ws xs left gs ready lends =
    let l = layout_from lay in
    let s = prepared_facts ready in
    let m = install_machine l pol mem in
    let n : length m.regs ≡ registers = rw (machine_of_lem l pol mem s.taken) in
    let first : session_of (machine_from xs) left [] [] 0 ≡ initial_session l pol mem = rw (s.machine, s.memory, machine_round_trips.from_record m n) in
    let premise : HostPremise l pol ws mem gs = record { passed = s.passed; installed = s.taken; preserved = subst (λ (c : Session). MemoriesPreserved l ws c gs) first lends } in
    record {
      calls = ap (λ (ys : List ℕ). calls_of (run_call lay ws) ys gs) s.machine ∙ calls_are lay ws (initial_session l pol mem) gs n;
      premise = premise;
      isolated = isolation l pol ws mem gs premise;
    }

-- ---- two lists

-- a run that leaves a memory of U cells was not refused for its length, and its memory is the session's
fitted : (lay : Layout) (ws : List ℕ) (c : Session) (g : RunInput) → right_layout lay ≡ true → length (run_on lay ws c g).mem ≡ lay.size → fits lay g.memory ≡ true
unfolding run_on run_of
fitted lay ws c g ok =
    cond_ind (λ (r : RunResult). length r.mem ≡ lay.size → fits lay g.memory ≡ true) (fits lay g.memory) (λ t _. t) (λ _ e. join _ _ ok (eq-eqb (length g.memory) lay.size e))

kept : (lay : Layout) (ws : List ℕ) (c : Session) (g : RunInput) → fits lay g.memory ≡ true → (run_on lay ws c g).mem ≡ (after_run lay ws c g).memory
unfolding after_run after_taken
kept lay ws c g t = rw t

same_run : (lay : Layout) (ws : List ℕ) → right_layout lay ≡ true → (c c' : Session) (g g' : RunInput) → SameInputs g g' → SameObservations lay (run_as lay ws c g) (run_as lay ws c' g')
    → SameCalls pairs_place lay (result_to (run_as lay ws c g).result) (result_to (run_as lay ws c' g').result)
same_run lay ws ok c c' g g' i o =
    let whole : length (run_on lay ws c g).mem ≡ lay.size → ((run_on lay ws c g).mem ≡ (after_run lay ws c g).memory) × ((run_on lay ws c' g').mem ≡ (after_run lay ws c' g').memory) =
    λ e. let t = fitted lay ws c g ok e in (kept lay ws c g t, kept lay ws c' g' (ap (λ (n : ℕ). right_layout lay && eqb n lay.size) (sym i.memory) ∙ t)) in
    record {
      answer = ap (λ (x : Outcome). run_answer_to x.answer) o.outcome;
      after = ap (λ (x : Outcome). machine_to x.machine) o.outcome;
      logged = o.logged;
      cell = λ e. let k = whole e in rw (k.0, k.1) o.cell;
      box = λ e. let k = whole e in rw (k.0, k.1) o.box;
    }

pub host_noninterference : HostNoninterference
host_noninterference lay pol pol' mem mem' ws xs xs' left left' gs gs' ready ready' lends lends' low given =
    let l = layout_from lay in
    let a = host_isolation lay pol mem ws xs left gs ready lends in
    let b = host_isolation lay pol' mem' ws xs' left' gs' ready' lends' in
    let ok = (both (right_layout l) _ (fits_of l pol mem a.premise.installed).0).0 in
    let equal : LowEqual l (install_memory l pol mem) (install_memory l pol' mem') = rw (← (prepared_facts ready).memory, ← (prepared_facts ready').memory) low in
    rw (a.calls, b.calls)
    (same_calls (after_run l ws) (run_as l ws) (λ r. result_to r.result) pairs_place l (same_run l ws ok) (initial_session l pol mem) (initial_session l pol' mem') gs gs' given
    (a.isolated.noninterference pol' mem' gs' b.premise equal given))
