-- At a pause, engine and machine answer the same number.
use mathlib.Core.Path.{◌≡◌, refl, sym, ◌∙◌, ap, ap₂, subst}
use mathlib.Core.Bool.{true}
use mathlib.Core.List.{List}
use Prim.Native.Nat.{ℕ, ◌+◌, ◌-◌, ◌*◌, ◌<◌}
use native.Mathlib.Omega.{arith}
use borrow.Author.Tests.{eq-eqb}
use lib.Dec.{eqb, ltb, lit<}
use lib.ListN.{length, get_or}
use Rattle.types.specs.declared.Layout.{Layout}
use Rattle.types.specs.declared.Status.{Status}
use Rattle.types.specs.declared.Status.TheVariants.{Running}
use Rattle.types.specs.declared.Ending.TheVariants.{LogFull, Silent, Spent}
use Rattle.types.specs.declared.Instr.{Instr}
use Rattle.types.specs.declared.Instr.TheVariants.{EVENT}
use Rattle.types.specs.declared.Command.{Command}
use Rattle.types.specs.declared.Command.TheVariants.{Event}
use Rattle.types.specs.declared.Effect.{Effect}
use Rattle.types.specs.declared.Effect.TheVariants.{Order, Probe, Wait}
use Rattle.types.specs.Names.{orders, events, ending_number}
use Rattle.spec.specs.Policies.{arrow}
use Rattle.spec.specs.Words.{routine, bundles_for}
use Rattle.spec.specs.Commands.{fetch_of}
use Rattle.spec.specs.Bundles.{shape_of, address_of, commands_of, rewrite_answer}
use Rattle.spec.specs.Machines.{State, apply_of, effect_of, event_effect, ending_of, unless_wait, view_at, fits, next_of as machineNext}
use Rattle.spec.specs.Machines.{step_of as machineStep, RunResult as MachineResult, start_of as machineStart, run_from as machine_from}
use Rattle.spec.specs.Machines.{run_of as machineRun, install_memory, loop_from}
use Rattle.spec.specs.Guests.{Guest, guest_after, guest_start}
use Rattle.spec.specs.Runs.{run_on as machineOn, after as machineAfter}
use Rattle.spec.proofs.Bools.{cond_ind}
use Rattle.spec.proofs.Facts.{Valid}
use Rattle.spec.proofs.Loops.{Goes, loop_ind, machine_loop}
use Rattle.spec.proofs.Conditions.{bundled_routine}
use Rattle.spec.proofs.Simulation.{arrow_entry}
use Rattle.spec.proofs.RunSimulation.{lent_cell}
use Rattle.spec.proofs.Pauses.{pause_rule}
use Rattle.engine_spec.specs.Engines.{next_of, with_memory, apply_effect, with_state, step_of, entry_at, RunResult, start_of, run_from, run_of, refusal_of, refusal_by}
use Rattle.engine_spec.specs.Claims.{after, run_on, EngineSimulates, EnginePauses}
use Rattle.engine_spec.proofs.Runs.{engine_loop, taken_size, enter}
use Rattle.engine_spec.proofs.Rule.{taken_of, ready_of, routine_of_lem, stays, engine_rule, meet}
use Rattle.engine_spec.specs.Endings.{EventAt}
use Rattle.engine_spec.proofs.Ordered.{sends}

-- an event that the policy allows: a pause, an order or a reading
event_ind : (P : Effect → Type 0) (v f u : ℕ) → P (Wait LogFull) → P (Wait Silent) → P (Order v) → P (Probe v) → P (event_effect v f u)
event_ind P v f u full silent order probe =
    cond_ind P (ltb v orders) (λ _. cond_ind P (ltb f 2) (λ _. full) (λ _. order))
    (λ _. cond_ind P (eqb u 0) (λ _. silent) (λ _. cond_ind P (ltb f 2) (λ _. full) (λ _. probe)))

-- the number that a run of one step then answers: the pause's, or spent (25)
abbrev number_by : Effect → ℕ
number_by e = unless_wait e ending_number (ending_number Spent)

-- an event that does not pause keeps the status
abbrev Sent : List ℕ → List ℕ → State → Effect → Type 0
Sent caps rd s e = Goes e → (number_by e ≡ ending_number Spent) × ((apply_of caps rd e s).status ≡ s.status)

sent : (caps rd : List ℕ) (s : State) (v f u : ℕ) → Sent caps rd s (event_effect v f u)
unfolding apply_of
sent caps rd s v f u =
    event_ind (Sent caps rd s) v f u (λ go. absurd (go LogFull refl)) (λ go. absurd (go Silent refl)) (λ _. (refl, refl)) (λ _. (refl, refl))

machine_one_lem : (lay : Layout) (ws rd : List ℕ) (s : State) (v f u : ℕ) → s.status ≡ Running → machineNext lay ws rd s ≡ event_effect v f u
    → ending_number (machine_from lay ws rd 1 0 s).outcome.answer.ending ≡ number_by (event_effect v f u)
unfolding loop_from
machine_one_lem lay ws rd s v f u run z =
    loop_ind (machine_loop lay ws rd) 0 0 s (λ (r : MachineResult). ending_number r.outcome.answer.ending ≡ number_by (event_effect v f u)) (λ o. absurd (o run))
    (λ _ w y. ap number_by (sym y ∙ z))
    (λ _ go.
    let q = sent lay.ceilings rd s v f u (subst Goes z go) in
    let t : (machineStep lay ws rd s).status ≡ Running = ap (λ (e : Effect). (apply_of lay.ceilings rd e s).status) z ∙ q.1 ∙ run in
    ap (λ (x : Status). ending_number (ending_of x)) t ∙ sym q.0)

engine_one_lem : (lay : Layout) (ws rd : List ℕ) (s : State) (v f u : ℕ) → s.status ≡ Running → next_of lay ws rd s ≡ event_effect v f u
    → (run_from lay ws rd 1 0 s).outcome.answer.number ≡ number_by (event_effect v f u)
unfolding loop_from apply_effect
engine_one_lem lay ws rd s v f u run z =
    loop_ind (engine_loop lay ws rd) 0 0 s (λ (r : RunResult). r.outcome.answer.number ≡ number_by (event_effect v f u)) (λ o. absurd (o run))
    (λ _ w y. ap number_by (sym y ∙ z))
    (λ _ go.
    let e = event_effect v f u in
    let q = sent lay.ceilings rd (with_memory s (with_state lay e s.mem)) v f u (subst Goes z go) in
    let t : (step_of lay ws rd s).status ≡ Running = ap (λ (x : Effect). (apply_effect lay rd x s).status) z ∙ q.1 ∙ run in
    ap (λ (x : Status). ending_number (ending_of x)) t ∙ sym q.0)

-- the machine on the third command of an event's bundle
pub machine_next : (lay : Layout) (code rd : List ℕ) (room : ℕ) (s : State) (h v : ℕ) → (rewrite_answer lay code room).number ≡ 0 → h < bundles_for (length code)
    → routine code h ≡ EVENT v → s.pc ≡ address_of lay h + 2 → machineNext lay (commands_of lay code) rd s
    ≡ event_effect v (length s.log - 2 * s.pairs) (length rd - s.used)
unfolding effect_of shape_of
machine_next lay code rd room s h v z l e pc =
    let N = bundles_for (length code) in
    let at : fetch_of (commands_of lay code) lay.base s.pc ≡ Event v =
    ap (fetch_of (commands_of lay code) lay.base) pc ∙ (bundled_routine lay code room z).each h 2 l (lit< tt) ∙ ap (λ (i : Instr). shape_of lay N i 2) e in
    ap (λ (c : Command). effect_of c (view_at lay rd s)) at

pub engine_pauses : EnginePauses
unfolding machineOn machineRun run_on run_of
engine_pauses lay pol code mem room gs es v w count g h sg sh lent logs readings =
    let ws = commands_of lay code in
    let N = bundles_for (length code) in
    let c = machineAfter lay pol ws mem gs in
    let n = after lay pol code mem es in
    let g0 = guest_start lay pol (install_memory lay pol mem) in
    let p = pause_rule lay pol code mem room gs v.rewritten v.machine w in
    let k : n.counted ≡ c.begun - 1 = omega (arith, count) in
    let G = guest_after lay pol N (routine code) c.consumed g0 (c.begun - 1) in
    let f : EngineSimulates lay (guest_after lay pol N (routine code) n.consumed g0 (c.begun - 1)) n = subst
    (λ (j : ℕ). EngineSimulates lay (guest_after lay pol N (routine code) n.consumed g0 j) n) k (engine_rule lay pol code mem es v.engine) in
    let same = meet lay pol N (routine code) g0 c.consumed n.consumed (c.begun - 1) v.readings p.simulates.used f.used in
    let at : n.engine.at ≡ G.at = f.at ∙ sym (ap (λ (x : Guest). x.at) same) in
    let run : n.engine.status ≡ Running = f.ending ∙ sym (ap (λ (x : Guest). x.status) same) ∙ sym p.simulates.ending ∙ w.running in
    let t = taken_of lay code mem v.engine.taken in
    let ok = ready_of lay pol code mem t v.engine.installed in
    let rt = routine_of_lem code t.sound in
    let known = enter lay pol code ok rt g0 n h sh lent (stays lay pol code mem es ok rt v.engine) in
    let m = known.invariant.memory in
    let e = w.event in
    let q = get_or h.memory lay.cell 0 in
    let within : n.engine.at < N = known.invariant.within run in
    let event : routine code n.engine.at ≡ EVENT e = ap (routine code) at ∙ p.event in
    let valid : e < events = subst (Valid N) event (rt.valid n.engine.at) in
    let state : q ≡ G.state = lent sh lay.cell (lent_cell lay) ∙ f.state ∙ sym (ap (λ (x : Guest). x.state) same) in
    let i : lay.table + events * q + e ≡ lay.table + (events * q + e) = omega arith in
    let entry : entry_at lay h.memory e ≡ arrow pol G.state e =
    ap (λ (x : ℕ). get_or h.memory x 0) i ∙ m.guarded.table (events * q + e) (omega (arith, m.below)) ∙ sym (arrow_entry pol q e valid) ∙ ap (λ (x : ℕ). arrow pol x e) state in
    let inside : lay.table + events * q + e < lay.size = omega (arith, ok.table, m.below) in
    let size : length h.memory ≡ length mem = sh ∙ sym (taken_size lay code mem v.engine.taken) in
    let z : (refusal_of lay code h.memory).number ≡ 0 = ap (λ (x : ℕ). (refusal_by lay code x).number) size ∙ v.engine.taken in
    let fit : fits lay g.memory ≡ true = rw (t.right, eq-eqb (length g.memory) lay.size sg) in
    let s = machineStart c.machine g.memory g.log in
    let here : machineNext lay ws g.readings s ≡ event_effect e (length g.log - 2 * 0) (length g.readings - 0) =
    machine_next lay code g.readings room s G.at e v.rewritten (subst (λ (x : ℕ). x < N) at within) p.event (p.simulates.next w.running) in
    let t0 = start_of n.engine h.memory h.log in
    let at_event : EventAt lay code t0 e = record { next = record { below = within; instruction = event }; inside = inside } in
    let there = sends lay code h.readings t0 sh e at_event (λ y. p.arrow (sym entry ∙ y)) in
    rw (fit, eq-eqb _ _ z)
    (machine_one_lem lay ws g.readings s e (length g.log - 2 * 0) (length g.readings - 0) w.running here
    ∙ ap₂ (λ (x y : ℕ). number_by (event_effect e (x - 2 * 0) (y - 0))) logs readings
    ∙ sym (engine_one_lem lay code h.readings (start_of n.engine h.memory h.log) e (length h.log - 2 * 0) (length h.readings - 0) run there))
