-- If the engine pauses before its next instruction, the machine pauses within the bundle.
use mathlib.Core.Path.{◌≡◌, refl, sym, ◌∙◌, ap, ap₂, subst}
use mathlib.Core.Bool.{true}
use mathlib.Core.List.{List, [], ◌∷◌, ◌++◌, append-nil}
use Prim.Native.Nat.{ℕ, suc, ◌+◌, ◌-◌, ◌*◌, ◌%◌, ◌^◌, ◌<◌, ◌≤◌}
use native.Mathlib.Omega.{arith}
use borrow.Author.Tests.{lt-ltb, eq-eqb, ne_eqb, eqb-false}
use lib.Dec.{eqb, ltb, lit<}
use lib.ListN.{length, get_or, take, set}
use lib.Seq.{get_or-set_same}
use Rattle.types.specs.declared.Layout.{Layout}
use Rattle.types.specs.declared.Machine.{Machine}
use Rattle.types.specs.declared.Status.TheVariants.{Running}
use Rattle.types.specs.declared.Ending.{Ending}
use Rattle.types.specs.declared.Instr.{Instr}
use Rattle.types.specs.declared.Instr.TheVariants.{HALT, PLAIN, LOAD, STORE, GOIF, GOX, EVENT}
use Rattle.types.specs.declared.Command.{Command}
use Rattle.types.specs.declared.Command.TheVariants.{Look, StopIf}
use Rattle.types.specs.declared.Effect.{Effect}
use Rattle.types.specs.declared.Effect.TheVariants.{Go, SetReg, Wait}
use Rattle.types.specs.Names.{events, no_arrow, hidden, registers, bundle_length, ending_number}
use Rattle.spec.specs.Layouts.{table_end}
use Rattle.spec.specs.Policies.{Policy}
use Rattle.spec.specs.Landings.{marked}
use Rattle.spec.specs.Words.{routine, bundles_for}
use Rattle.spec.specs.Commands.{fetch_of, holds_of}
use Rattle.spec.specs.Bundles.{shape_of, address_of, commands_of, rewrite_answer}
use Rattle.spec.specs.Machines.{View, reg_at, cell_at, entry_of, State, state_of, next_pc, apply_of, effect_of, event_effect, view_at, fits}
use Rattle.spec.specs.Machines.{next_of as machineNext, RunResult as MachineResult, result_in as machineEnded, start_of as machineStart}
use Rattle.spec.specs.Machines.{run_from as machine_from, run_of as machineRunOf, install_memory}
use Rattle.types.specs.Records.{machine_of}
use Rattle.spec.specs.Guests.{Guest, guest_after, guest_start}
use Rattle.spec.specs.Runs.{RunInput, MemoryPreserved, Session as MachineSession, session_of as machine_session, pairs_of, waiting_at, begins, begun_from}
use Rattle.spec.specs.Runs.{event_in, run_on as machineOn, after_taken as machineTaken, after_run as machineRun, after as machineAfter}
use Rattle.spec.specs.Claims.{AtBoundary, Waiting, with_budget}
use Rattle.spec.proofs.Bools.{no, cond_ind}
use Rattle.spec.proofs.Facts.{Guarded, Valid}
use Rattle.spec.proofs.Loops.{loop_ind, go_from, wait_from, begun_loop}
use Rattle.spec.proofs.Conditions.{bundled_routine}
use Rattle.spec.proofs.RunSimulation.{first_yes, first_no, lent_cell, sim_invariant, event_at_lem, enter as machine-enter}
use Rattle.spec.proofs.Isolation.{guest_rule, routine_simulated}
use Rattle.engine_spec.specs.Engines.{checked_event, instr_effect, instr_effect_at, next_of, step_of, entry_address, RunResult, result_in, start_of, run_from, run_of, refusal_of, refusal_by}
use Rattle.engine_spec.specs.Claims.{Session, session_of, run_on, after_taken, after_run, after, EngineSimulates, SameReadings, Corresponds, AfterBoth, PausedBy, EngineWaits}
use Rattle.engine_spec.proofs.Steps.{Memory}
use Rattle.engine_spec.proofs.Runs.{status_answers, engine_loop, taken_size, enter}
use Rattle.engine_spec.proofs.Rule.{taken_of, ready_of, routine_of_lem, stays, engine_rule, engine_machine, engine_paused, meet}
use Rattle.engine_spec.proofs.StepTogether.{machine_more, engine_more, paired_more}
use Rattle.engine_spec.proofs.Paused.{machine_next}

-- ---- the engine: if a run of one instruction pauses, it is before an event that the policy allows

paused_waits : (lay : Layout) (ws rd : List ℕ) (s : State) → s.status ≡ Running → PausedBy (run_from lay ws rd 1 0 s).outcome.answer.number → (w : Ending) × (next_of lay ws rd s ≡ Wait w)
paused_waits lay ws rd s run =
    loop_ind (engine_loop lay ws rd) 0 0 s (λ (r : RunResult). PausedBy r.outcome.answer.number → (w : Ending) × (next_of lay ws rd s ≡ Wait w)) (λ o. absurd (o run)) (λ _ w z p. (w, z))
    (λ _ go p. absurd (status_answers (step_of lay ws rd s).status (subst (λ (r : RunResult). PausedBy r.outcome.answer.number) ((engine_loop lay ws rd).none 1 (step_of lay ws rd s)) p)))

effect_waits : (lay : Layout) (N : ℕ) (i : Instr) (s : View) (w : Ending) → instr_effect lay N i s ≡ Wait w → (v : ℕ) × (i ≡ EVENT v)
unfolding instr_effect
effect_waits lay N HALT s w z = no (cc)
effect_waits lay N (PLAIN k d a b v) s w z = no (cc)
effect_waits lay N (LOAD d a) s w z = no (cc)
effect_waits lay N (STORE a b) s w z = no (cc)
effect_waits lay N (GOIF a b c v) s w z =
    let P : Effect → Type 0 = λ x. x ≡ Wait w → (e : ℕ) × (GOIF a b c v ≡ EVENT e) in
    cond_ind P (holds_of c (reg_at s a) (reg_at s b)) (λ _ y. no (cc)) (λ _ y. no (cc)) z
effect_waits lay N (GOX d a b c) s w z =
    let P : Effect → Type 0 = λ x. x ≡ Wait w → (e : ℕ) × (GOX d a b c ≡ EVENT e) in
    cond_ind P (holds_of c (reg_at s a) (reg_at s b)) (λ _. cond_ind P (marked s.mem s.landings (reg_at s d % N)) (λ _ y. no (cc)) (λ _ y. no (cc))) (λ _ y. no (cc)) z
effect_waits lay N (EVENT v) s w z = (v, refl)

send_waits : (v : ℕ) (s : View) (w : Ending) → checked_event v s ≡ Wait w → (cell_at s (entry_of s v) ≡ no_arrow → ⊥) × (event_effect v s.free s.left ≡ Wait w)
unfolding checked_event
send_waits v s w =
    let P : Effect → Type 0 = λ x. x ≡ Wait w → (cell_at s (entry_of s v) ≡ no_arrow → ⊥) × (event_effect v s.free s.left ≡ Wait w) in
    cond_ind P (ltb (entry_of s v) (length s.mem)) (λ _. cond_ind P (eqb (cell_at s (entry_of s v)) no_arrow) (λ _ y. no (cc)) (λ f y. (eqb-false _ _ f, y))) (λ _ y. no (cc))

-- the instruction before which it pauses
record Waited (lay : Layout) (ws rd : List ℕ) (s : State) (w : Ending) : Type 0 where
  event : ℕ
  is : routine ws s.pc ≡ EVENT event
  some : get_or s.mem (entry_address lay s.mem event) 0 ≡ no_arrow → ⊥
  pauses : event_effect event (length s.log - 2 * s.pairs) (length rd - s.used) ≡ Wait w

waited : (lay : Layout) (ws rd : List ℕ) (s : State) (w : Ending) → s.pc < bundles_for (length ws) → next_of lay ws rd s ≡ Wait w → Waited lay ws rd s w
unfolding instr_effect_at instr_effect
waited lay ws rd s w l z =
    let N = bundles_for (length ws) in
    let here : instr_effect lay N (routine ws s.pc) (view_at lay rd s) ≡ Wait w = rw (lt-ltb s.pc N l) at z in
    let i = effect_waits lay N (routine ws s.pc) (view_at lay rd s) w here in
    let y = send_waits i.0 (view_at lay rd s) w (sym (ap (λ (x : Instr). instr_effect lay N x (view_at lay rd s)) i.1) ∙ here) in
    record { event = i.0; is = i.1; some = y.0; pauses = y.1 }

-- ---- the machine: before such an event it takes two steps and pauses

-- one command after position p of bundle h
takes_step : (base n h p pc : ℕ) → base + bundle_length * n ≤ 2 ^ 32 → h < n → p < 3 → pc ≡ base + bundle_length * h + p → next_pc pc ≡ base + bundle_length * h + suc p
takes_step base n h p pc room lh lp e = omega arith

not_first : (base h pc : ℕ) → pc ≡ base + bundle_length * h + 1 → (pc - base) % bundle_length ≡ 0 → ⊥
not_first base h pc e z = omega arith

-- its states: before the second command, and before the third
module _ (lay : Layout) (s : State) (v : ℕ) where
  abbrev entry : ℕ
  entry = get_or s.mem (entry_address lay s.mem v) 0

  abbrev second : State
  second = state_of (set s.regs hidden entry) (next_pc s.pc) s.status s.mem s.log s.pairs s.used

  abbrev third : State
  third = state_of (set s.regs hidden entry) (next_pc (next_pc s.pc)) s.status s.mem s.log s.pairs s.used

module _ (lay : Layout) (code rd : List ℕ) (room : ℕ) (s : State) (h v : ℕ) (w : Ending) (z : (rewrite_answer lay code room).number
    ≡ 0) (top : lay.base + bundle_length * bundles_for (length code) ≤ 2 ^ 32)
    (l : h < bundles_for (length code)) (e : routine code h ≡ EVENT v) (pc : s.pc ≡ address_of lay h + 0) (run : s.status ≡ Running) (regs : length s.regs ≡ registers)
    (cell : lay.cell < length s.mem) (inside : entry_address lay s.mem v < length s.mem) (some : get_or s.mem (entry_address lay s.mem v) 0 ≡ no_arrow → ⊥)
    (pauses : event_effect v (length s.log - 2 * s.pairs) (length rd - s.used) ≡ Wait w) where
  abbrev ws : List ℕ
  ws = commands_of lay code

  second_pc : next_pc s.pc ≡ address_of lay h + 1
  second_pc = takes_step lay.base (bundles_for (length code)) h 0 s.pc top l (lit< tt) pc

  third_pc : next_pc (next_pc s.pc) ≡ address_of lay h + 2
  third_pc = takes_step lay.base (bundles_for (length code)) h 1 (next_pc s.pc) top l (lit< tt) second_pc

  looks : machineNext lay ws rd s ≡ SetReg hidden (entry lay s v)
  unfolding effect_of shape_of
  looks =
      let at : fetch_of ws lay.base s.pc ≡ Look hidden v =
      ap (fetch_of ws lay.base) pc ∙ (bundled_routine lay code room z).each h 0 l (lit< tt) ∙ ap (λ (i : Instr). shape_of lay (bundles_for (length code)) i 0) e in
      ap (λ (c : Command). effect_of c (view_at lay rd s)) at ∙ rw (lt-ltb lay.cell (length s.mem) cell, lt-ltb (entry_address lay s.mem v) (length s.mem) inside)

  passes : machineNext lay ws rd (second lay s v) ≡ Go (next_pc (next_pc s.pc))
  unfolding effect_of shape_of
  passes =
      let at : fetch_of ws lay.base (next_pc s.pc) ≡ StopIf hidden =
      ap (fetch_of ws lay.base) second_pc ∙ (bundled_routine lay code room z).each h 1 l (lit< tt) ∙ ap (λ (i : Instr). shape_of lay (bundles_for (length code)) i 1) e in
      let held : get_or (set s.regs hidden (entry lay s v)) hidden 0 ≡ entry lay s v = get_or-set_same s.regs hidden (entry lay s v) 0 (omega (arith, regs)) in
      ap (λ (c : Command). effect_of c (view_at lay rd (second lay s v))) at ∙ rw (held, ne_eqb (entry lay s v) no_arrow some)

  abbrev paused : ℕ → ℕ → MachineResult × ℕ
  paused k b = (machineEnded w (k + 1 + 1) (third lay s v), b + begins lay s.pc + begins lay (next_pc s.pc))

  third_pauses : (n k b : ℕ) → ◌≡◌ {A = MachineResult × ℕ} (machine_from lay ws rd (suc (suc (suc n))) k s, begun_from lay ws rd (suc (suc (suc n))) b s) (paused k b)
  unfolding apply_of
  third_pauses n k b =
      let m = begun_loop lay ws rd in
      go_from m (suc (suc n)) (k, b) s run (λ x y. let q : SetReg hidden (entry lay s v) ≡ Wait x = sym looks ∙ y in no (cc))
      ∙ ap (λ (x : Effect). m.from (suc (suc n)) (k + 1, b + begins lay s.pc) (apply_of lay.ceilings rd x s)) looks
      ∙ go_from m (suc n) (k + 1, b + begins lay s.pc) (second lay s v) run (λ x y. let q : Go (next_pc (next_pc s.pc)) ≡ Wait x = sym passes ∙ y in no (cc))
      ∙ ap (λ (x : Effect). m.from (suc n) (k + 1 + 1, b + begins lay s.pc + begins lay (next_pc s.pc)) (apply_of lay.ceilings rd x (second lay s v))) passes
      ∙ wait_from m n (k + 1 + 1, b + begins lay s.pc + begins lay (next_pc s.pc)) (third lay s v) w run (machine_next lay code rd room (third lay s v) h v z l e third_pc ∙ pauses)

  one_begun : begins lay s.pc + begins lay (next_pc s.pc) ≡ 1
  one_begun = ap₂ (λ (x y : ℕ). x + y) (first_yes lay s.pc (omega arith)) (first_no lay (next_pc s.pc) (not_first lay.base h (next_pc s.pc) second_pc))

-- ---- the session after a run that left r, the machine's with b bundles begun
machine_left : (lay : Layout) (ws : List ℕ) (c : MachineSession) (g : RunInput) (r : MachineResult) (b : ℕ) → fits lay g.memory ≡ true
    → (let s = machineStart c.machine g.memory g.log in ◌≡◌ {A = MachineResult
    × ℕ} (machine_from lay ws g.readings g.budget 0 s, begun_from lay ws g.readings g.budget c.begun s) (r, b)) → (machineOn lay ws c g ≡ r)
    × (machineRun lay ws c g ≡ machine_session r.outcome.machine r.mem (c.records ++ pairs_of r.log r.outcome.answer.pairs)
    (c.consumed ++ take r.outcome.answer.used g.readings) b)
unfolding machineOn machineRunOf machineTaken machineRun
machine_left lay ws c g r b t e =
    rw t (
      ap (λ (x : MachineResult × ℕ). x.0) e,
      ap (λ (x : MachineResult × ℕ). machine_session x.0.outcome.machine x.0.mem
          (c.records ++ pairs_of x.0.log x.0.outcome.answer.pairs) (c.consumed ++ take x.0.outcome.answer.used g.readings) x.1) e,
    )

engine_left : (lay : Layout) (ws : List ℕ) (c : Session) (g : RunInput) (r : RunResult) → (refusal_of lay ws g.memory).number ≡ 0
    → run_from lay ws g.readings g.budget 0 (start_of c.engine g.memory g.log) ≡ r → (run_on lay ws c g ≡ r)
    × (after_run lay ws c g ≡ session_of r.outcome.engine r.mem (c.records ++ pairs_of r.log r.outcome.pairs)
    (c.consumed ++ take r.outcome.used g.readings) (c.counted + r.outcome.steps))
unfolding run_on run_of after_taken after_run
engine_left lay ws c g r z e =
    rw (eq-eqb _ _ z) (
      e,
      ap (λ (x : RunResult). session_of x.outcome.engine x.mem (c.records ++ pairs_of x.log x.outcome.pairs)
          (c.consumed ++ take x.outcome.used g.readings) (c.counted + x.outcome.steps)) e,
    )

-- ---- both pause, and neither uses a reading
record Pause (lay : Layout) (code : List ℕ) (c : MachineSession) (n : Session) (g h : RunInput) : Type 0 where
  answers : ending_number (machineOn lay (commands_of lay code) c g).outcome.answer.ending ≡ (run_on lay code n h).outcome.answer.number
  waiting : Waiting lay (commands_of lay code) (machineRun lay (commands_of lay code) c g).machine
  begun : (machineRun lay (commands_of lay code) c g).begun ≡ c.begun + 1
  machine : (machineRun lay (commands_of lay code) c g).consumed ≡ c.consumed
  counted : (after_run lay code n h).counted ≡ n.counted
  engine : (after_run lay code n h).consumed ≡ n.consumed

-- both memories have the same entry for event e
same_entry : (lay : Layout) (pol : Policy) (mem mem' : List ℕ) (e : ℕ) → Memory lay pol mem → Guarded lay pol mem'
    → get_or mem' lay.cell 0 ≡ get_or mem lay.cell 0 → e < events → table_end lay ≤ lay.size → (entry_address lay mem' e < length mem')
    × (get_or mem' (entry_address lay mem' e) 0 ≡ get_or mem (entry_address lay mem e) 0)
same_entry lay pol mem mem' e m m' cells l end =
    let q = get_or mem lay.cell 0 in
    let q' = get_or mem' lay.cell 0 in
    let i : lay.table + events * q + e ≡ lay.table + (events * q + e) = omega arith in
    let i' : lay.table + events * q' + e ≡ lay.table + (events * q + e) = omega (arith, cells) in
    let below : events * q + e < events * lay.states = omega (arith, m.below) in
    (omega (arith, m'.size, end, below, i'), ap (λ (k : ℕ). get_or mem' k 0) i' ∙ m'.table (events * q + e) below ∙ sym (ap (λ (k : ℕ). get_or mem k 0) i ∙ m.guarded.table (events * q + e) below))

-- the machine is on the first command of bundle j, the engine before that instruction, an event at which it pauses
module _ (lay : Layout) (code : List ℕ) (room : ℕ) (c : MachineSession) (n : Session) (g h : RunInput) (j v : ℕ) (w : Ending)
    (z : (rewrite_answer lay code room).number ≡ 0) (top : lay.base + bundle_length * bundles_for (length code) ≤ 2 ^ 32)
    (l : j < bundles_for (length code)) (e : routine code j ≡ EVENT v) (pc : c.machine.pc ≡ address_of lay j + 0) (run : c.machine.status ≡ Running) (regs : length c.machine.regs ≡ registers)
    (cell : lay.cell < length g.memory) (inside : entry_address lay g.memory v < length g.memory) (some : get_or g.memory (entry_address lay g.memory v) 0 ≡ no_arrow → ⊥)
    (pauses : event_effect v (length g.log - 2 * 0) (length g.readings - 0) ≡ Wait w) (few : 3 ≤ g.budget) (fit : fits lay g.memory ≡ true)
    (at : (m : Machine) → m.pc ≡ address_of lay j + 2 → waiting_at lay (commands_of lay code) m ≡ v ∷ [])
    (runs : n.engine.status ≡ Running) (taken : (refusal_of lay code h.memory).number ≡ 0) (next : next_of lay code h.readings (start_of n.engine h.memory h.log) ≡ Wait w) where
  abbrev from : State
  from = machineStart c.machine g.memory g.log

  abbrev to : State
  to = third lay from v

  machine_pauses : (machineOn lay (commands_of lay code) c g ≡ machineEnded w 2 to)
      × (machineRun lay (commands_of lay code) c g ≡ machine_session (machine_of to.regs to.pc to.status) g.memory (c.records ++ pairs_of g.log 0)
      (c.consumed ++ []) (c.begun + begins lay c.machine.pc + begins lay (next_pc c.machine.pc)))
  machine_pauses =
      let budget : g.budget ≡ suc (suc (suc (g.budget - 3))) = omega (arith, few) in
      machine_left lay (commands_of lay code) c g (machineEnded w 2 to) (c.begun + begins lay c.machine.pc + begins lay (next_pc c.machine.pc)) fit
      (ap (λ (k : ℕ). (machine_from lay (commands_of lay code) g.readings k 0 from, begun_from lay (commands_of lay code) g.readings k c.begun from)) budget
      ∙ third_pauses lay code g.readings room from j v w z top l e pc run regs cell inside some pauses (g.budget - 3) 0 c.begun)

  engine_pauses : (run_on lay code n (with_budget h 1) ≡ result_in w 0 (start_of n.engine h.memory h.log))
      × (after_run lay code n (with_budget h 1) ≡ session_of n.engine h.memory (n.records ++ pairs_of h.log 0) (n.consumed ++ []) (n.counted + 0))
  engine_pauses =
      engine_left lay code n (with_budget h 1) (result_in w 0 (start_of n.engine h.memory h.log)) taken
      (wait_from (engine_loop lay code h.readings) 0 0 (start_of n.engine h.memory h.log) w runs next)

  pause : Pause lay code c n g (with_budget h 1)
  pause =
      let to-pc = third_pc lay code g.readings room from j v w z top l e pc run regs cell inside some pauses in
      let one = one_begun lay code g.readings room from j v w z top l e pc run regs cell inside some pauses in
      record {
        answers = ap (λ (r : MachineResult). ending_number r.outcome.answer.ending) machine_pauses.0 ∙ sym (ap (λ (r : RunResult). r.outcome.answer.number) engine_pauses.0);
        waiting = subst (λ (k : MachineSession). Waiting lay (commands_of lay code) k.machine) (sym machine_pauses.1)
            (record { running = run; event = v; third = at (machine_of to.regs to.pc to.status) to-pc });
        begun = ap (λ (k : MachineSession). k.begun) machine_pauses.1 ∙ omega (arith, one);
        machine = ap (λ (k : MachineSession). k.consumed) machine_pauses.1 ∙ append-nil c.consumed;
        counted = ap (λ (k : Session). k.counted) engine_pauses.1 ∙ omega arith;
        engine = ap (λ (k : Session). k.consumed) engine_pauses.1 ∙ append-nil n.consumed;
      }

both_pause : AfterBoth
    (λ lay code c e.
    AtBoundary lay c.machine → c.begun ≡ e.counted → c.machine.status ≡ Running →
    (g h : RunInput) → MemoryPreserved lay c.memory g → MemoryPreserved lay e.memory h → length g.memory ≡ lay.size → length h.memory ≡ lay.size →
    length h.log ≡ length g.log → length h.readings ≡ length g.readings → 3 ≤ g.budget →
    PausedBy (run_on lay code e (with_budget h 1)).outcome.answer.number → Pause lay code c e g (with_budget h 1))
unfolding run_on run_of
both_pause lay pol code mem room gs es v x count run g h lg lh sg sh logs readings few p =
    let ws = commands_of lay code in
    let N = bundles_for (length code) in
    let c = machineAfter lay pol ws mem gs in
    let n = after lay pol code mem es in
    let h' = with_budget h 1 in
    let g0 = guest_start lay pol (install_memory lay pol mem) in
    let now : Corresponds lay c n = engine_machine lay pol code mem room gs es v x count in
    let a = guest_rule lay pol code mem room gs v.rewritten v.machine x in
    let G = guest_after lay pol N (routine code) c.consumed g0 c.begun in
    let f : EngineSimulates lay (guest_after lay pol N (routine code) n.consumed g0 c.begun) n = subst
    (λ (j : ℕ). EngineSimulates lay (guest_after lay pol N (routine code) n.consumed g0 j) n) (sym count) (engine_rule lay pol code mem es v.engine) in
    let same = meet lay pol N (routine code) g0 c.consumed n.consumed c.begun v.readings a.used f.used in
    let at : n.engine.at ≡ G.at = f.at ∙ sym (ap (λ (y : Guest). y.at) same) in
    let runs : n.engine.status ≡ Running = sym now.ending ∙ run in
    -- the engine
    let t = taken_of lay code mem v.engine.taken in
    let ok = ready_of lay pol code mem t v.engine.installed in
    let rt = routine_of_lem code t.sound in
    let known = enter lay pol code ok rt g0 n h sh lh (stays lay pol code mem es ok rt v.engine) in
    let m = known.invariant.memory in
    let size : length h.memory ≡ length mem = sh ∙ sym (taken_size lay code mem v.engine.taken) in
    let z : (refusal_of lay code h.memory).number ≡ 0 = ap (λ (k : ℕ). (refusal_by lay code k).number) size ∙ v.engine.taken in
    let s = start_of n.engine h.memory h.log in
    let within : n.engine.at < N = known.invariant.within runs in
    let wait = paused_waits lay code h.readings s runs (rw (eq-eqb _ _ z) at p) in
    let w = wait.0 in
    let y = waited lay code h.readings s w within wait.1 in
    let e = y.event in
    -- the machine
    let simulated = routine_simulated lay pol code mem room gs v.rewritten v.machine in
    let right = simulated.right in
    let bs = simulated.bundled in
    let s' = machineStart c.machine g.memory g.log in
    let tr = sim_invariant lay pol ws N (routine code) right bs c.records c.consumed g.readings g0 c.begun s'
    (machine-enter lay pol ws N (routine code) right bs g0 c g sg lg simulated.last) in
    let guarded = tr.1.agree.memory.guarded in
    let cells : get_or g.memory lay.cell 0 ≡ get_or h.memory lay.cell 0 = lg sg lay.cell (lent_cell lay) ∙ now.state ∙ sym (lh sh lay.cell (lent_cell lay)) in
    let event : routine code G.at ≡ EVENT e = ap (routine code) (sym at) ∙ y.is in
    let valid : e < events = subst (Valid N) y.is (rt.valid n.engine.at) in
    let entry = same_entry lay pol h.memory g.memory e m guarded cells valid ok.table in
    let free : event_effect e (length g.log - 2 * 0) (length g.readings - 0) ≡ Wait w = ap₂ (λ (k l : ℕ). event_effect e (k - 2 * 0) (l - 0)) (sym logs) (sym readings) ∙ y.pauses in
    let inn : G.at < N = subst (λ (k : ℕ). k < N) at within in
    pause lay code room c n g h G.at e w v.rewritten right.room inn event (a.next run) run tr.1.agree.regs.machine
    (omega (arith, sg, ok.cell)) entry.0 (λ k. y.some (sym entry.1 ∙ k)) free few
    (rw (t.right, eq-eqb (length g.memory) lay.size sg)) (λ o pc. event_at_lem lay pol ws N (routine code) right bs simulated.read o G.at 2 2 inn
    (lit< tt) pc ∙ ap event_in event) runs z wait.1

pub engine_waits : EngineWaits
engine_waits lay pol code mem room gs es v x count run g h lg lh sg sh logs readings few p =
    let ws = commands_of lay code in
    let c = machineAfter lay pol ws mem gs in
    let n = after lay pol code mem es in
    let h' = with_budget h 1 in
    let y = both_pause lay pol code mem room gs es v x count run g h lg lh sg sh logs readings few p in
    let mg = machine_more lay pol code mem room gs es v g h' in
    let mh = engine_more lay pol code mem room gs es v g h' in
    let turn = subst (λ (k : List ℕ). SameReadings k (after_run lay code n h').consumed) (sym y.machine) (subst (λ (k : List ℕ). SameReadings c.consumed k) (sym y.engine) v.readings) in
    let more = paired_more lay pol code mem room gs es v g h' lg lh turn in
    let begun : (machineRun lay ws c g).begun ≡ (after_run lay code n h').counted + 1 = omega (arith, y.begun, y.counted, count) in
    let one : (machineAfter lay pol ws mem (gs ++ (g ∷ []))).begun ≡ (after lay pol code mem (es ++ (h' ∷ []))).counted + 1 =
    ap (λ (k : MachineSession). k.begun) mg ∙ begun ∙ sym (ap (λ (k : Session). k.counted + 1) mh) in
    let met = engine_paused lay pol code mem room (gs ++ (g ∷ [])) (es ++ (h' ∷ [])) more (subst (λ (k : MachineSession). Waiting lay ws k.machine) (sym mg) y.waiting) one in
    record {
      answers = y.answers;
      waiting = y.waiting;
      begun = begun;
      corresponds = subst (λ (k : MachineSession). Corresponds lay k (after_run lay code n h')) mg (subst (λ (k : Session). Corresponds lay (machineAfter lay pol ws mem (gs ++ (g ∷ []))) k) mh met);
    }
