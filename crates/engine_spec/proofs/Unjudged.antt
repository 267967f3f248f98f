-- Words that were not judged: the second entry does what runs of the repaired words do, except for the fault.
use mathlib.Core.Path.{◌≡◌, refl, sym, ◌∙◌, ap, subst}
use mathlib.Core.Bool.{true, false, cond}
use mathlib.Core.Logic.{◌⊎◌, inl, inr, ⊎_elim}
use mathlib.Core.List.{List, [], ◌∷◌, ◌++◌, map}
use Prim.Native.Nat.{ℕ, zero, suc, ◌+◌, ◌<◌, ◌≤◌}
use native.Mathlib.Omega.{arith}
use borrow.Author.Tests.{lt-ltb, le-ltb, ltb-true, ltb-false, eq-eqb, eqb-true, ne_eqb}
use lib.Dec.{eqb, ltb}
use lib.ListN.{length, get_or, get_or-eq_default}
use Rattle.types.specs.declared.Layout.{Layout}
use Rattle.types.specs.declared.Status.{Status}
use Rattle.types.specs.declared.Status.TheVariants.{Running, Ended, Stopped, Faulted, Strayed}
use Rattle.types.specs.declared.Ending.TheVariants.{Done, Fault}
use Rattle.types.specs.declared.Answer.{Answer}
use Rattle.types.specs.declared.Effect.{Effect}
use Rattle.types.specs.declared.Effect.TheVariants.{Go, SetReg, SetCell, Order, Probe, End, Wait}
use Rattle.types.specs.Names.{most_instructions, ending_number}
use Rattle.spec.specs.Layouts.{in_box}
use Rattle.spec.specs.Policies.{Policy, allowed}
use Rattle.spec.specs.Guests.{Pair}
use Rattle.spec.specs.Words.{refusal_at, instr_of, routine, bundles_for}
use Rattle.spec.specs.Machines.{State, state_of, apply_of, ending_of, fits, run_result_of}
use Rattle.spec.specs.Runs.{RunInput, pairs_of, events_of, Every, Pairwise, Run, recorded_in, each_run, after_all}
use Rattle.spec.specs.Claims.{Faultless, FrameCondition, SameInputs, SameObservations}
use Rattle.spec.proofs.Bools.{no, cases, cond_ind, cond_map}
use Rattle.spec.proofs.Refusals.{TakesEach, takes_each}
use Rattle.spec.proofs.Conditions.{fits_of}
use Rattle.spec.proofs.Masks.{sizes}
use Rattle.spec.proofs.RunSimulation.{lent_box, lent_cell}
use Rattle.spec.proofs.Loops.{Goes, loop_ind, over_from, wait_from, go_from}
use Rattle.engine_spec.specs.declared.Engine.{Engine}
use Rattle.engine_spec.specs.Engines.{EngineOutcome, instr_effect, instr_effect_at, next_of, with_state, apply_effect, RunResult, outcome_of, end_answer, result_in, run_from, start_of, refusal_by, refusal_of, run_of}
use Rattle.engine_spec.specs.Claims.{Session, HostPremise, MemoriesPreserved, initial_session, run_on, after_taken, after_run, run_as, all_runs}
use Rattle.engine_spec.specs.Continues.{is_instruction_at, reached_effect, reached_next, continue_from, repaired, reached_status, reached_answer, reached_engine, reached_outcome}
use Rattle.engine_spec.specs.Continues.{reached_result, reached_state, UnjudgedWords, reached_run, reached_session, UnjudgedPremise}
use Rattle.engine_spec.specs.Continues.{continue_refusal, continue_of, Entry, judges_all, judges_reached, Call, call_by, call_of, call_refusal, call_on, after_call, call_as, each_call, after_calls}
use Rattle.engine_spec.specs.Continues.{EntriesPreserved, RefusedCalls, taken_inputs, taken_runs, SameEntryInputs, FaultsAtNoInstruction, UnjudgedIsolation}
use Rattle.engine_spec.proofs.Runs.{engine_loop}
use Rattle.engine_spec.proofs.Continues.{zero_taken, continue_loop, same_refusal, entries_agree, words_taken}
use Rattle.engine_spec.proofs.Isolation.{refusal_low, engine_isolation}

-- ---- the words repaired
length-map : (f : ℕ → ℕ) (ws : List ℕ) → length (map f ws) ≡ length ws
length-map f [] = refl
length-map f (w ∷ ws) = ap suc (length-map f ws)

get_d_map : (f : ℕ → ℕ) → f 0 ≡ 0 → (ws : List ℕ) (i : ℕ) → get_or (map f ws) i 0 ≡ f (get_or ws i 0)
get_d_map f z [] i = sym z
get_d_map f z (w ∷ ws) zero = refl
get_d_map f z (w ∷ ws) (suc i) = get_d_map f z ws i

repaired_at : (ws : List ℕ) (i : ℕ) → get_or (repaired ws) i 0 ≡ cond (is_instruction_at ws i) (get_or ws i 0) 0
repaired_at ws i = get_d_map (λ w. cond (eqb (refusal_at (length ws) w) 0) w 0) (rw (eq-eqb _ _ (zero_taken (length ws)))) ws i

runs_or_not : (t : Status) → (t ≡ Running) ⊎ (t ≡ Running → ⊥)
runs_or_not Running = inl refl
runs_or_not Ended = inr (λ e. no (cc))
runs_or_not Stopped = inr (λ e. no (cc))
runs_or_not Faulted = inr (λ e. no (cc))
runs_or_not Strayed = inr (λ e. no (cc))

-- ---- beside a run of the repaired words
status_runs : (ws : List ℕ) (i : ℕ) (t : Status) → reached_status ws i t ≡ Running → t ≡ Running
status_runs ws i Running e = refl
status_runs ws i Ended e = cond_ind (λ (t : Status). t ≡ Running → Ended ≡ Running) (is_instruction_at ws i) (λ _ z. no (cc)) (λ _ z. no (cc)) e
status_runs ws i Stopped e = e
status_runs ws i Faulted e = no (cc)
status_runs ws i Strayed e = e

-- at an instruction nothing differs
status_same : (ws : List ℕ) (i : ℕ) (t : Status) → is_instruction_at ws i ≡ true → reached_status ws i t ≡ t
status_same ws i Running e = refl
status_same ws i Ended e = rw e
status_same ws i Stopped e = refl
status_same ws i Faulted e = refl
status_same ws i Strayed e = refl

answer_same : (ws : List ℕ) (i : ℕ) (a : Answer) → is_instruction_at ws i ≡ true → reached_answer ws i a ≡ a
answer_same ws i a e = rw e

-- the answer that belongs to a status
answer_of : (ws : List ℕ) (i : ℕ) (t : Status) → end_answer (ending_of (reached_status ws i t)) ≡ reached_answer ws i (end_answer (ending_of t))
answer_of ws i Running = ⊎_elim (λ e. rw e) (λ e. rw e) (cases (is_instruction_at ws i))
answer_of ws i Ended = ⊎_elim (λ e. rw e) (λ e. rw e) (cases (is_instruction_at ws i))
answer_of ws i Stopped = ⊎_elim (λ e. rw e) (λ e. rw e) (cases (is_instruction_at ws i))
answer_of ws i Faulted = ⊎_elim (λ e. rw e) (λ e. rw e) (cases (is_instruction_at ws i))
answer_of ws i Strayed = ⊎_elim (λ e. rw e) (λ e. rw e) (cases (is_instruction_at ws i))

abbrev with_status : State → Status → State
with_status s t = state_of s.regs s.pc t s.mem s.log s.pairs s.used

state_same : (ws : List ℕ) (s : State) → reached_status ws s.pc s.status ≡ s.status → reached_state ws s ≡ s
state_same ws s e = ap (with_status s) e

module _ (lay : Layout) (ws rd : List ℕ) (most : length ws ≤ most_instructions) where
  -- ---- one word
  next_same : (s : State) → is_instruction_at ws s.pc ≡ true → next_of lay (repaired ws) rd s ≡ reached_next lay ws rd s
  unfolding reached_effect instr_effect_at routine
  next_same s t = rw (length-map (λ w. cond (eqb (refusal_at (length ws) w) 0) w 0) ws, repaired_at ws s.pc, t)

  reached_fault : (s : State) → is_instruction_at ws s.pc ≡ false → reached_next lay ws rd s ≡ End Faulted
  unfolding reached_effect
  reached_fault s t = rw t

  next_halts : (s : State) → is_instruction_at ws s.pc ≡ false → next_of lay (repaired ws) rd s ≡ End Ended
  unfolding instr_effect_at instr_effect routine instr_of
  next_halts s t =
      let l : s.pc < length ws =
      ⊎_elim (λ u. ltb-true _ _ u) (λ u. no (sym t ∙ rw (get_or-eq_default ws 0 (ltb-false s.pc (length ws) u)) (eq-eqb _ _ (zero_taken (length ws))))) (cases (ltb s.pc (length ws))) in
      let b : s.pc < bundles_for (length ws) = omega (arith, (sizes (length ws) most).above) in
      rw (length-map (λ w. cond (eqb (refusal_at (length ws) w) 0) w 0) ws, repaired_at ws s.pc, t, lt-ltb s.pc (bundles_for (length ws)) b)

  -- ---- a run
  abbrev SameWithFault : ℕ → ℕ → State → Type 0
  SameWithFault n k s = continue_from lay ws rd n k (reached_state ws s) ≡ reached_result ws (run_from lay (repaired ws) rd n k s)

  over_beside : (k : ℕ) (s : State) → result_in (ending_of (reached_status ws s.pc s.status)) k (reached_state ws s) ≡ reached_result ws (result_in (ending_of s.status) k s)
  over_beside k s = rw (answer_of ws s.pc s.status)

  both_over : (n k : ℕ) (s : State) → (s.status ≡ Running → ⊥) → SameWithFault n k s
  both_over n k s o =
      over_from (continue_loop lay ws rd) n k (reached_state ws s) (λ e. o (status_runs ws s.pc s.status e))
      ∙ over_beside k s
      ∙ ap (reached_result ws) (sym (over_from (engine_loop lay (repaired ws) rd) n k s o))

  -- a word that is no instruction
  ended : (n k : ℕ) (s : State) → s.status ≡ Running → is_instruction_at ws s.pc ≡ false → continue_from lay ws rd (suc n) k s ≡ reached_result ws (run_from lay (repaired ws) rd (suc n) k s)
  unfolding apply_effect apply_of with_state
  ended n k s run t =
      let c = continue_loop lay ws rd in
      let e = engine_loop lay (repaired ws) rd in
      let x = reached_fault s t in
      let y = next_halts s t in
      rw (
        go_from c n k s run (λ w z. no (cc)) ∙ ap (λ (f : Effect). continue_from lay ws rd n (k + 1) (apply_effect lay rd f s)) x
            ∙ over_from c n (k + 1) (apply_effect lay rd (End Faulted) s) (λ z. no (cc)),
        go_from e n k s run (λ w z. no (cc)) ∙ ap (λ (f : Effect). run_from lay (repaired ws) rd n (k + 1) (apply_effect lay rd f s)) y
            ∙ over_from e n (k + 1) (apply_effect lay rd (End Ended) s) (λ z. no (cc)),
        t,
      )

  -- an instruction leaves the engine running, or over at that instruction
  after_same : (s : State) (e : Effect) → s.status ≡ Running → is_instruction_at ws s.pc ≡ true
      → let u = apply_effect lay rd e s in reached_status ws u.pc u.status ≡ u.status
  unfolding apply_effect apply_of with_state
  after_same s (Go to) r t = rw r
  after_same s (SetReg d x) r t = rw r
  after_same s (SetCell i x) r t = rw r
  after_same s (Order v) r t = rw r
  after_same s (Probe v) r t = rw r
  after_same s (End u) r t = status_same ws s.pc u t
  after_same s (Wait w) r t = rw r

  taken : (n k : ℕ) (s : State) → ((j : ℕ) (u : State) → SameWithFault n j u) → s.status ≡ Running → is_instruction_at ws s.pc ≡ true
      → continue_from lay ws rd (suc n) k s ≡ reached_result ws (run_from lay (repaired ws) rd (suc n) k s)
  taken n k s more run t =
      let e = engine_loop lay (repaired ws) rd in
      let q = next_same s t in
      loop_ind (continue_loop lay ws rd) n k s (λ r. r ≡ reached_result ws (run_from lay (repaired ws) rd (suc n) k s))
      (λ o. absurd (o run))
      (λ r w z. rw (wait_from e n k s w r (q ∙ z), status_same ws s.pc s.status t, answer_same ws s.pc (end_answer w) t))
      (λ r g.
      let u = apply_effect lay rd (reached_next lay ws rd s) s in
      ap (continue_from lay ws rd n (k + 1)) (sym (state_same ws u (after_same s (reached_next lay ws rd s) run t)))
      ∙ more (k + 1) u
      ∙ ap (reached_result ws) (sym (go_from e n k s r (subst Goes (sym q) g) ∙ ap (λ (f : Effect). run_from lay (repaired ws) rd n (k + 1) (apply_effect lay rd f s)) q)))

  does_same : (n k : ℕ) (s : State) → SameWithFault n k s
  does_same zero k s = (continue_loop lay ws rd).none k (reached_state ws s) ∙ over_beside k s ∙ ap (reached_result ws) (sym ((engine_loop lay (repaired ws) rd).none k s))
  does_same (suc n) k s =
      ⊎_elim
      (λ r. ap (continue_from lay ws rd (suc n) k) (state_same ws s (rw r)) ∙ ⊎_elim (λ t. taken n k s (does_same n) r t) (λ t. ended n k s r t) (cases (is_instruction_at ws s.pc)))
      (λ o. both_over (suc n) k s o)
      (runs_or_not s.status)

pub unjudged_words : UnjudgedWords
unjudged_words lay ws rd n k s most = does_same lay ws rd most n k s

-- ---- refused calls
refused_by : (n : Entry) (lay : Layout) (ws : List ℕ) (m : Engine) (mem : List ℕ) (budget : ℕ) (rd log : List ℕ) → eqb (call_refusal n lay ws mem).number 0 ≡ false
    → call_of n lay ws m mem budget rd log ≡ run_result_of (outcome_of m (call_refusal n lay ws mem) 0 0 0) mem log
unfolding call_of call_refusal run_of continue_of
refused_by judges_all lay ws m mem budget rd log t = rw t
refused_by judges_reached lay ws m mem budget rd log t = rw t

pub refused_result : (lay : Layout) (ws : List ℕ) (c : Session) (x : Call) → let a = call_refusal x.entry lay ws x.input.memory in
    eqb a.number 0 ≡ false → call_on lay ws c x ≡ run_result_of (outcome_of c.engine a 0 0 0) x.input.memory x.input.log
unfolding call_on
refused_result lay ws c x t = let g = x.input in refused_by x.entry lay ws c.engine g.memory g.budget g.readings g.log t

pub refused_stays : (lay : Layout) (ws : List ℕ) (c : Session) (x : Call) → eqb (call_refusal x.entry lay ws x.input.memory).number 0 ≡ false → after_call lay ws c x ≡ c
unfolding after_call
refused_stays lay ws c x t = rw t

pub refused_calls : RefusedCalls
refused_calls lay ws c x z =
    let t = ne_eqb _ _ z in
    (refused_result lay ws c x t, refused_stays lay ws c x t)

-- ---- lists of calls
module _ (lay : Layout) (ws : List ℕ) (most : length ws ≤ most_instructions) where
  same_length : length (repaired ws) ≡ length ws
  same_length = length-map (λ w. cond (eqb (refusal_at (length ws) w) 0) w 0) ws

  all_taken : TakesEach (refusal_at (length (repaired ws))) (repaired ws)
  all_taken i l =
      rw (same_length, repaired_at ws i) (cond_ind (λ (w : ℕ). refusal_at (length ws) w ≡ 0) (is_instruction_at ws i) (λ t. eqb-true _ _ t) (λ _. zero_taken (length ws)))

  -- both are refused alike
  refusal_same : (mem : List ℕ) → refusal_of lay (repaired ws) mem ≡ continue_refusal lay ws (length mem)
  unfolding continue_refusal
  refusal_same mem = sym (same_refusal lay (repaired ws) (length mem) all_taken) ∙ rw same_length

  -- a refusal is not the number of an ending
  refusal_below : (mem : List ℕ) → (continue_refusal lay ws (length mem)).number < ending_number Done
  refusal_below mem = omega (arith, (refusal_low lay (repaired ws) (length mem)).number, ap (λ (a : Answer). a.number) (refusal_same mem))

  refusal_stays : (mem : List ℕ) (i : ℕ) → reached_answer ws i (continue_refusal lay ws (length mem)) ≡ continue_refusal lay ws (length mem)
  refusal_stays mem i =
      let a = continue_refusal lay ws (length mem) in
      cond_ind (λ (x : Answer). x ≡ a) (is_instruction_at ws i) (λ _. refl) (λ _. rw (ne_eqb a.number (ending_number Done) (λ z. omega (arith, refusal_below mem))))

  abbrev call : RunInput → Call
  call g = call_by judges_reached g

  call_beside : (d : Session) (g : RunInput) → call_on lay ws (reached_session ws d) (call g) ≡ reached_result ws (run_on lay (repaired ws) d g)
  unfolding call_on call_of run_on continue_of run_of
  call_beside d g =
      let m = d.engine in
      rw (refusal_same g.memory)
      (sym (cond_map (reached_result ws) (eqb (continue_refusal lay ws (length g.memory)).number 0)
      (λ _. sym (does_same lay ws g.readings most g.budget 0 (start_of m g.memory g.log)))
      (λ _. ap (λ (a : Answer). run_result_of (outcome_of (reached_engine ws m) a 0 0 0) g.memory g.log) (refusal_stays g.memory m.at))))

  after_beside : (d : Session) (g : RunInput) → after_call lay ws (reached_session ws d) (call g) ≡ reached_session ws (after_run lay (repaired ws) d g)
  unfolding after_call call_refusal after_run after_taken
  after_beside d g =
      rw (refusal_same g.memory, call_beside d g)
      (⊎_elim (λ t. rw t) (λ t. rw t) (cases (eqb (continue_refusal lay ws (length g.memory)).number 0)))

  run_beside : (d : Session) (g : RunInput) → call_as lay ws (reached_session ws d) (call g) ≡ reached_run ws (run_as lay (repaired ws) d g)
  run_beside d g = rw (call_beside d g, after_beside d g)

  -- ---- calls of both entries

  -- a call that is not refused does what the second entry does
  as_reached : (x : Entry) (mem : List ℕ) → (call_refusal x lay ws mem).number ≡ 0
      → ((m : Engine) (budget : ℕ) (rd log : List ℕ) → call_of x lay ws m mem budget rd log ≡ continue_of lay ws m mem budget rd log) × ((continue_refusal lay ws (length mem)).number ≡ 0)
  unfolding call_of call_refusal
  as_reached judges_all mem z =
      let e = words_taken lay ws mem z in
      (λ m budget rd log. sym (entries_agree lay ws m mem budget rd log e), ap (λ (a : Answer). a.number) (same_refusal lay ws (length mem) (takes_each (refusal_at (length ws)) ws 0 _ e)) ∙ z)
  as_reached judges_reached mem z = (λ m budget rd log. refl, z)

  taken_call : (c : Session) (x : Call) → eqb (call_refusal x.entry lay ws x.input.memory).number 0 ≡ true
      → (call_on lay ws c x ≡ call_on lay ws c (call x.input)) × (after_call lay ws c x ≡ after_call lay ws c (call x.input))
  unfolding call_on call_of after_call call_refusal
  taken_call c x t =
      let g = x.input in
      let q = as_reached x.entry g.memory (eqb-true _ _ t) in
      let same = q.0 c.engine g.budget g.readings g.log in
      (same, rw (t, eq-eqb _ _ q.1, same))

  runs_beside : (d : Session) (xs : List Call)
      → taken_runs lay ws (reached_session ws d) xs ≡ map (reached_run ws) (each_run (run_as lay (repaired ws)) (after_run lay (repaired ws)) d (taken_inputs lay ws xs))
  unfolding taken_runs taken_inputs each_run
  runs_beside d [] = refl
  runs_beside d (x ∷ xs) =
      ⊎_elim
      (λ t.
      let q = taken_call (reached_session ws d) x t in
      let next = after_run lay (repaired ws) d x.input in
      rw (t, q.0, q.1, call_beside d x.input, after_beside d x.input) (ap (λ rs. reached_run ws (run_as lay (repaired ws) d x.input) ∷ rs) (runs_beside next xs)))
      (λ t. rw t (ap (λ (c : Session). taken_runs lay ws c xs) (refused_stays lay ws (reached_session ws d) x t) ∙ runs_beside d xs))
      (cases (eqb (call_refusal x.entry lay ws x.input.memory).number 0))

  session_beside : (d : Session) (xs : List Call) → after_calls lay ws (reached_session ws d) xs ≡ reached_session ws (after_all (after_run lay (repaired ws)) d (taken_inputs lay ws xs))
  unfolding after_calls after_all taken_inputs
  session_beside d [] = refl
  session_beside d (x ∷ xs) =
      let on : Session → Session = λ c. after_calls lay ws c xs in
      ⊎_elim
      (λ t. rw t (ap on ((taken_call (reached_session ws d) x t).1 ∙ after_beside d x.input) ∙ session_beside (after_run lay (repaired ws) d x.input) xs))
      (λ t. rw t (ap on (refused_stays lay ws (reached_session ws d) x t) ∙ session_beside d xs))
      (cases (eqb (call_refusal x.entry lay ws x.input.memory).number 0))

  kept_beside : (d : Session) (xs : List Call) → EntriesPreserved lay ws (reached_session ws d) xs → MemoriesPreserved lay (repaired ws) d (taken_inputs lay ws xs)
  unfolding each_call each_run taken_inputs
  kept_beside d [] e = tt
  kept_beside d (x ∷ xs) e =
      let Kept : Session → Type 0 = λ c. EntriesPreserved lay ws c xs in
      ⊎_elim
      (λ t. rw t (e.0, kept_beside (after_run lay (repaired ws) d x.input) xs (subst Kept ((taken_call (reached_session ws d) x t).1 ∙ after_beside d x.input) e.1)))
      (λ t. rw t (kept_beside d xs (subst Kept (refused_stays lay ws (reached_session ws d) x t) e.1)))
      (cases (eqb (call_refusal x.entry lay ws x.input.memory).number 0))

-- ---- noninterference

-- runs that show the same do so with the fault, too
shows_same : (lay : Layout) (ws : List ℕ) (r r' : Run EngineOutcome) → SameObservations lay r r' → SameObservations lay (reached_run ws r) (reached_run ws r')
shows_same lay ws r r' o = record { outcome = ap (reached_outcome ws) o.outcome; logged = o.logged; cell = o.cell; box = o.box }

show_same : (lay : Layout) (ws : List ℕ) (rs rs' : List (Run EngineOutcome)) → Pairwise (SameObservations lay) rs rs'
    → Pairwise (SameObservations lay) (map (reached_run ws) rs) (map (reached_run ws) rs')
show_same lay ws [] [] o = tt
show_same lay ws [] (r' ∷ rs') o = o
show_same lay ws (r ∷ rs) [] o = o
show_same lay ws (r ∷ rs) (r' ∷ rs') o = (shows_same lay ws r r' o.0, show_same lay ws rs rs' o.1)

module _ (lay : Layout) (ws : List ℕ) where
  -- two sessions that show the same
  record SameSessions (c c' : Session) : Type 0 where
    pub engine : c.engine ≡ c'.engine
    pub cell : get_or c.memory lay.cell 0 ≡ get_or c'.memory lay.cell 0
    pub box : (i : ℕ) → in_box lay i ≡ true → get_or c.memory i 0 ≡ get_or c'.memory i 0

  -- such calls are refused alike
  refused_alike : (n : Entry) (mem mem' : List ℕ) → length mem ≡ length mem' → call_refusal n lay ws mem ≡ call_refusal n lay ws mem'
  unfolding call_refusal
  refused_alike judges_all mem mem' e = ap (refusal_by lay ws) e
  refused_alike judges_reached mem mem' e = ap (continue_refusal lay ws) e

  alike : (x x' : Call) → SameEntryInputs x x' → call_refusal x.entry lay ws x.input.memory ≡ call_refusal x'.entry lay ws x'.input.memory
  alike x x' s = refused_alike x.entry _ _ s.inputs.memory ∙ ap (λ (n : Entry). call_refusal n lay ws x'.input.memory) s.entry

  -- a call that is not refused leaves its record in the session
  pub left_in : (c : Session) (x : Call) → eqb (call_refusal x.entry lay ws x.input.memory).number 0 ≡ true → (after_call lay ws c x).engine ≡ (call_on lay ws c x).outcome.engine
  unfolding after_call
  left_in c x t = rw t

  refused_same : (c c' : Session) (x x' : Call) → SameSessions c c' → SameEntryInputs x x' → eqb (call_refusal x.entry lay ws x.input.memory).number 0 ≡ false
      → SameObservations lay (call_as lay ws c x) (call_as lay ws c' x')
  refused_same c c' x x' v s t =
      let z = alike x x' s in
      let t' : eqb (call_refusal x'.entry lay ws x'.input.memory).number 0 ≡ false = rw (← z) t in
      rw (refused_result lay ws c x t, refused_result lay ws c' x' t', refused_stays lay ws c x t, refused_stays lay ws c' x' t')
      (record { outcome = rw (v.engine, z); logged = refl; cell = v.cell; box = v.box })

  taken_alike : (xs xs' : List Call) → Pairwise SameEntryInputs xs xs' → Pairwise SameInputs (taken_inputs lay ws xs) (taken_inputs lay ws xs')
  unfolding taken_inputs
  taken_alike [] [] s = tt
  taken_alike [] (x' ∷ xs') s = absurd s
  taken_alike (x ∷ xs) [] s = absurd s
  taken_alike (x ∷ xs) (x' ∷ xs') s =
      let more = taken_alike xs xs' s.1 in
      rw (← alike x x' s.0)
      (⊎_elim (λ t. rw t (s.0.inputs, more)) (λ t. rw t more) (cases (eqb (call_refusal x.entry lay ws x.input.memory).number 0)))

  -- two lists of calls show the same if those that are not refused do
  all_same : (c c' : Session) (xs xs' : List Call) → SameSessions c c' → Pairwise SameEntryInputs xs xs' → Pairwise (SameObservations lay) (taken_runs lay ws c xs) (taken_runs lay ws c' xs')
      → Pairwise (SameObservations lay) (each_call (call_as lay ws) lay ws c xs) (each_call (call_as lay ws) lay ws c' xs')
  unfolding taken_runs each_call
  all_same c c' [] [] v s o = tt
  all_same c c' [] (x' ∷ xs') v s o = s
  all_same c c' (x ∷ xs) [] v s o = s
  all_same c c' (x ∷ xs) (x' ∷ xs') v s o =
      let z = alike x x' s.0 in
      let Shown : List (Run EngineOutcome) → List (Run EngineOutcome) → Type 0 = Pairwise (SameObservations lay) in
      let rs = taken_runs lay ws (after_call lay ws c x) xs in
      let rs' = taken_runs lay ws (after_call lay ws c' x') xs' in
      ⊎_elim
      (λ t.
      let t' : eqb (call_refusal x'.entry lay ws x'.input.memory).number 0 ≡ true = rw (← z) t in
      let h : Shown (call_as lay ws c x ∷ rs) (call_as lay ws c' x' ∷ rs') = rw (t, t') at o in
      let next : SameSessions (after_call lay ws c x) (after_call lay ws c' x') =
      record { engine = left_in c x t ∙ ap (λ (q : EngineOutcome). q.engine) h.0.outcome ∙ sym (left_in c' x' t'); cell = h.0.cell; box = h.0.box } in
      (h.0, all_same (after_call lay ws c x) (after_call lay ws c' x') xs xs' next s.1 h.1))
      (λ t.
      let t' : eqb (call_refusal x'.entry lay ws x'.input.memory).number 0 ≡ false = rw (← z) t in
      let h : Shown rs rs' = rw (t, t') at o in
      let next : SameSessions (after_call lay ws c x) (after_call lay ws c' x') = rw (refused_stays lay ws c x t, refused_stays lay ws c' x' t') v in
      (refused_same c c' x x' v s.0 t, all_same (after_call lay ws c x) (after_call lay ws c' x') xs xs' next s.1 h))
      (cases (eqb (call_refusal x.entry lay ws x.input.memory).number 0))

  -- ---- what holds of all calls if it holds of those that are not refused
  every_call : (P : Run EngineOutcome → Type 0) → ((c : Session) (x : Call) → eqb (call_refusal x.entry lay ws x.input.memory).number 0 ≡ false → P (call_as lay ws c x))
      → (c : Session) (xs : List Call) → Every P (taken_runs lay ws c xs) → Every P (each_call (call_as lay ws) lay ws c xs)
  unfolding taken_runs each_call
  every_call P refused c [] h = tt
  every_call P refused c (x ∷ xs) h =
      let next = after_call lay ws c x in
      ⊎_elim
      (λ t. let k : P (call_as lay ws c x) × Every P (taken_runs lay ws next xs) = rw t at h in (k.0, every_call P refused next xs k.1))
      (λ t. let k : Every P (taken_runs lay ws next xs) = rw t at h in (refused c x t, every_call P refused next xs k))
      (cases (eqb (call_refusal x.entry lay ws x.input.memory).number 0))

  every_beside : (P Q : Run EngineOutcome → Type 0) → ((d : Session) (g : RunInput) → Q (run_as lay (repaired ws) d g) → P (reached_run ws (run_as lay (repaired ws) d g)))
      → (d : Session) (gs : List RunInput) → Every Q (each_run (run_as lay (repaired ws)) (after_run lay (repaired ws)) d gs)
      → Every P (map (reached_run ws) (each_run (run_as lay (repaired ws)) (after_run lay (repaired ws)) d gs))
  unfolding each_run
  every_beside P Q f d [] h = tt
  every_beside P Q f d (g ∷ gs) h = (f d g h.0, every_beside P Q f (after_run lay (repaired ws) d g) gs h.1)

  -- faults
  call_below : (n : Entry) (mem : List ℕ) → length ws ≤ most_instructions → (call_refusal n lay ws mem).number < ending_number Done
  unfolding call_refusal
  call_below judges_all mem most = omega (arith, (refusal_low lay ws (length mem)).number)
  call_below judges_reached mem most = refusal_below lay ws most mem

  refused_faults : length ws ≤ most_instructions → (c : Session) (x : Call) → eqb (call_refusal x.entry lay ws x.input.memory).number 0 ≡ false → FaultsAtNoInstruction ws (call_as lay ws c x)
  refused_faults most c x t e =
      let n : (call_refusal x.entry lay ws x.input.memory).number ≡ ending_number Fault = sym (ap (λ (r : RunResult). r.outcome.answer.number) (refused_result lay ws c x t)) ∙ e in
      absurd (omega (arith, call_below x.entry x.input.memory most, n))

  taken_faults : (d : Session) (g : RunInput) → Faultless (run_as lay (repaired ws) d g) → FaultsAtNoInstruction ws (reached_run ws (run_as lay (repaired ws) d g))
  taken_faults d g h =
      let i = (run_on lay (repaired ws) d g).outcome.engine.at in
      cond_ind (λ (a : Answer). a.number ≡ ending_number Fault → is_instruction_at ws i ≡ false) (is_instruction_at ws i) (λ _ z. absurd (h z)) (λ e _. e)

  -- the frame condition
  refused_frame : (c : Session) (x : Call) → eqb (call_refusal x.entry lay ws x.input.memory).number 0 ≡ false → FrameCondition lay (call_as lay ws c x)
  refused_frame c x t =
      rw (refused_result lay ws c x t) (record { size = refl; cells = λ i b n. refl; counted = omega arith; drawn = omega arith; log_size = refl; log_rest = λ i l. refl })

  taken_frame : (d : Session) (g : RunInput) → FrameCondition lay (run_as lay (repaired ws) d g) → FrameCondition lay (reached_run ws (run_as lay (repaired ws) d g))
  taken_frame d g f = record { size = f.size; cells = f.cells; counted = f.counted; drawn = f.drawn; log_size = f.log_size; log_rest = f.log_rest }

  -- the recorded pairs
  recorded_taken : (c : Session) (xs : List Call) → recorded_in (each_call (call_as lay ws) lay ws c xs) ≡ recorded_in (taken_runs lay ws c xs)
  unfolding taken_runs each_call
  recorded_taken c [] = refl
  recorded_taken c (x ∷ xs) =
      let more = recorded_taken (after_call lay ws c x) xs in
      ⊎_elim (λ t. rw t (ap (λ (ps : List Pair). pairs_of (call_on lay ws c x).log (call_on lay ws c x).outcome.pairs ++ ps) more))
      (λ t.
      let none : pairs_of (call_on lay ws c x).log (call_on lay ws c x).outcome.pairs ≡ [] = ap (λ (r : RunResult). pairs_of r.log r.outcome.pairs) (refused_result lay ws c x t) in
      rw t (ap (λ (ps : List Pair). ps ++ recorded_in (each_call (call_as lay ws) lay ws (after_call lay ws c x) xs)) none ∙ more))
      (cases (eqb (call_refusal x.entry lay ws x.input.memory).number 0))

  recorded_beside : (rs : List (Run EngineOutcome)) → recorded_in (map (reached_run ws) rs) ≡ recorded_in rs
  recorded_beside [] = refl
  recorded_beside (r ∷ rs) = ap (λ (ps : List Pair). pairs_of r.result.log r.pairs ++ ps) (recorded_beside rs)

-- ---- the claim
unjudged_premise : (lay : Layout) (pol : Policy) (ws mem : List ℕ) (xs : List Call) → UnjudgedPremise lay pol ws mem xs → HostPremise lay pol (repaired ws) mem (taken_inputs lay ws xs)
unfolding continue_refusal
unjudged_premise lay pol ws mem xs v =
    let most : length ws ≤ most_instructions = omega (arith, v.most) in
    let fit : fits lay mem ≡ true = (fits_of lay pol mem v.installed).0 in
    record {
      taken = rw (refusal_same lay ws most mem, fit, le-ltb most_instructions (length ws) most);
      installed = v.installed;
      preserved = kept_beside lay ws most (initial_session lay pol mem) xs v.preserved;
    }

pub unjudged_isolation : UnjudgedIsolation
unjudged_isolation lay pol ws mem xs v =
    let most : length ws ≤ most_instructions = omega (arith, v.most) in
    let c = initial_session lay pol mem in
    let premise = unjudged_premise lay pol ws mem xs v in
    let isolated = engine_isolation lay pol (repaired ws) mem (taken_inputs lay ws xs) premise in
    let runs = runs_beside lay ws most c xs in
    let session = session_beside lay ws most c xs in
    let rs = all_runs lay pol (repaired ws) mem (taken_inputs lay ws xs) in
    record {
      runs = runs;
      session = session;
      premise = premise;
      faults = every_call lay ws (FaultsAtNoInstruction ws) (refused_faults lay ws most) c xs
          (rw runs (every_beside lay ws (FaultsAtNoInstruction ws) Faultless (taken_faults lay ws) c (taken_inputs lay ws xs) isolated.faultless));
      frame = every_call lay ws (FrameCondition lay) (refused_frame lay ws) c xs
          (rw runs (every_beside lay ws (FrameCondition lay) (FrameCondition lay) (taken_frame lay ws) c (taken_inputs lay ws xs) isolated.frame));
      protected_kept = rw session isolated.protected_kept;
      allowed = ap (λ (ps : List Pair). allowed pol (events_of ps)) (recorded_taken lay ws c xs ∙ ap recorded_in runs ∙ recorded_beside lay ws rs) ∙ isolated.allowed;
      noninterference =
          λ pol' mem' xs' v' low same.
          let c' = initial_session lay pol' mem' in
          let gs' = taken_inputs lay ws xs' in
          let shown = isolated.noninterference pol' mem' gs' (unjudged_premise lay pol' ws mem' xs' v') low (taken_alike lay ws xs xs' same) in
          all_same lay ws c c' xs xs' (record { engine = refl; cell = low lay.cell (lent_cell lay); box = λ i b. low i (lent_box lay i b) }) same
          (rw (runs, runs_beside lay ws most c' xs') (show_same lay ws rs (all_runs lay pol' (repaired ws) mem' gs') shown));
    }
