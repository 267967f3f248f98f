-- The order of the tests before an instruction, and why a run ends or pauses.
use mathlib.Core.Path.{◌≡◌, refl, sym, ◌∙◌, ap, subst}
use mathlib.Core.Bool.{Bool, true, false}
use mathlib.Core.Logic.{◌⊎◌, inl, inr, ⊎_elim}
use mathlib.Core.List.{List}
use Prim.Native.Nat.{ℕ, suc, ◌+◌, ◌%◌, ◌<◌}
use native.Mathlib.Omega.{arith}
use borrow.Author.Tests.{ltb-true, ltb-false, eqb-true, eqb-false, lt-ltb, le-ltb, eq-eqb, ne_eqb}
use lib.Dec.{eqb, ltb}
use lib.ListN.{length, get_or, length-set}
use Rattle.types.specs.declared.Layout.{Layout}
use Rattle.types.specs.declared.Instr.{Instr}
use Rattle.types.specs.declared.Instr.TheVariants.{HALT, PLAIN, LOAD, STORE, GOIF, GOX, EVENT}
use Rattle.types.specs.declared.Status.{Status}
use Rattle.types.specs.declared.Status.TheVariants.{Running, Ended, Stopped, Faulted, Strayed}
use Rattle.types.specs.declared.Ending.{Ending}
use Rattle.types.specs.declared.Ending.TheVariants.{Done, NoArrow, Fault, LogFull, Silent, Spent, NoLanding, Refused}
use Rattle.types.specs.declared.Effect.{Effect}
use Rattle.types.specs.declared.Effect.TheVariants.{Go, SetReg, SetCell, Order, Probe, End, Wait}
use Rattle.types.specs.declared.Answer.{Answer}
use Rattle.types.specs.Names.{no_arrow, orders, most_instructions, answer, or_else}
use Rattle.spec.specs.Layouts.{right_layout}
use Rattle.spec.specs.Landings.{marked}
use Rattle.spec.specs.Words.{refusal_at, routine, bundles_for}
use Rattle.spec.specs.Commands.{holds_of}
use Rattle.spec.specs.Bundles.{base_room_answer, rewrite_answer}
use Rattle.spec.specs.Machines.{View, State, state_of, apply_of, view_at, ending_of, event_effect}
use Rattle.spec.proofs.Bools.{no, cond_ind}
use Rattle.spec.proofs.Loops.{over_from, wait_from, go_from, keeps}
use Rattle.spec.proofs.Ordered.{silent_by, full_by, left_by, more_from, over_on}
use Rattle.spec.proofs.Refusals.{refused_map, else_kept, else_none}
use Rattle.engine_spec.specs.declared.Engine.{Engine}
use Rattle.engine_spec.specs.Engines.{checked_event, instr_effect, instr_effect_at, next_of, entry_address, entry_at, with_state, apply_effect}
use Rattle.engine_spec.specs.Engines.{RunResult, result_in, final_state, run_from, start_of, refusal_by, run_of}
use Rattle.engine_spec.specs.Endings.{NextIs, FaultsAt, past, outside, EventAt, EndsAt, WaitsAt, OnlyWhen, AnswersOnly}
use Rattle.engine_spec.specs.Endings.{EngineOrder, EngineEndsOnlyWhen, EngineRefuses, EngineRewriter, EngineTakes}
use Rattle.engine_spec.proofs.Runs.{engine_loop, taken_size}

pub engine_refuses : EngineRefuses
unfolding run_of
engine_refuses lay ws m mem budget rd log z = rw (ne_eqb _ _ z)

-- ---- no instruction changes the memory's length
move_length : (lay : Layout) (e : Effect) (mem : List ℕ) → length (with_state lay e mem) ≡ length mem
unfolding with_state
move_length lay (Go to) mem = refl
move_length lay (SetReg d x) mem = refl
move_length lay (SetCell i x) mem = refl
move_length lay (Order v) mem = length-set mem lay.cell (entry_at lay mem v)
move_length lay (Probe v) mem = length-set mem lay.cell (entry_at lay mem v)
move_length lay (End t) mem = refl
move_length lay (Wait w) mem = refl

step_length : (lay : Layout) (rd : List ℕ) (e : Effect) (s : State) → length (apply_effect lay rd e s).mem ≡ length s.mem
unfolding apply_effect apply_of
step_length lay rd (Go to) s = move_length lay (Go to) s.mem
step_length lay rd (SetReg d x) s = move_length lay (SetReg d x) s.mem
step_length lay rd (SetCell i x) s = length-set (with_state lay (SetCell i x) s.mem) i x ∙ move_length lay (SetCell i x) s.mem
step_length lay rd (Order v) s = move_length lay (Order v) s.mem
step_length lay rd (Probe v) s = move_length lay (Probe v) s.mem
step_length lay rd (End t) s = move_length lay (End t) s.mem
step_length lay rd (Wait w) s = move_length lay (Wait w) s.mem

run_length : (lay : Layout) (ws rd : List ℕ) (n k : ℕ) (s : State) → length (run_from lay ws rd n k s).mem ≡ length s.mem
run_length lay ws rd n k s₀ =
    keeps (engine_loop lay ws rd) (λ _ _ s. length s.mem ≡ length s₀.mem) (λ r. length r.mem ≡ length s₀.mem)
    (λ _ _ s i _. i) (λ _ _ s i _ w _. i) (λ _ _ s i _ _. step_length lay rd (next_of lay ws rd s) s ∙ i) n k s₀ refl

-- ---- why an instruction ends the run or pauses it
module _ (lay : Layout) (ws rd : List ℕ) (s : State) (size : length s.mem ≡ lay.size) where
  abbrev view : View
  view = view_at lay rd s

  abbrev N : ℕ
  N = bundles_for (length ws)

  abbrev Reason : Effect → Type 0
  Reason (End t) = EndsAt lay ws s t
  Reason (Wait e) = WaitsAt lay ws rd s e
  Reason (Go to) = Unit {0}
  Reason (SetReg d x) = Unit {0}
  Reason (SetCell i x) = Unit {0}
  Reason (Order v) = Unit {0}
  Reason (Probe v) = Unit {0}

  event_reason : (v : ℕ) → EventAt lay ws s v → (entry_at lay s.mem v ≡ no_arrow → ⊥) → Reason (event_effect v view.free view.left)
  event_reason v q a =
      let full : ((v < orders) ⊎ (s.used < length rd)) → ltb view.free 2 ≡ true → WaitsAt lay ws rd s LogFull =
      λ g f. record { event = v; at = q; arrow = a; given = ⊎_elim (λ x. inl x) (λ x. inr (omega (arith, x))) g; room = let h = ltb-true view.free 2 f in omega arith } in
      cond_ind Reason (ltb v orders) (λ t. cond_ind Reason (ltb view.free 2) (full (inl (ltb-true v orders t))) (λ _. tt))
      (λ o. cond_ind Reason (eqb view.left 0)
      (λ e. record { event = v; at = q; arrow = a; reading = ltb-false v orders o; none = let h = eqb-true view.left 0 e in omega arith })
      (λ e. cond_ind Reason (ltb view.free 2) (full (inr (let h = eqb-false view.left 0 e in omega arith))) (λ _. tt)))

  reasons : (i : Instr) → NextIs ws s i → Reason (instr_effect lay N i view)
  unfolding instr_effect checked_event
  reasons HALT q = q
  reasons (PLAIN k d a b v) q = tt
  reasons (LOAD d a) q = tt
  reasons (STORE a b) q = tt
  reasons (GOIF a b c v) q = cond_ind Reason (holds_of c (get_or s.regs a 0) (get_or s.regs b 0)) (λ _. tt) (λ _. tt)
  reasons (GOX d a b c) q =
      cond_ind Reason (holds_of c (get_or s.regs a 0) (get_or s.regs b 0))
      (λ t. cond_ind Reason (marked s.mem lay.landings (get_or s.regs d 0 % N)) (λ _. tt) (λ f. record { d = d; a = a; b = b; c = c; next = q; taken = t; no_landing = f })) (λ _. tt)
  reasons (EVENT v) q =
      let i = entry_address lay s.mem v in
      cond_ind Reason (ltb i (length s.mem))
      (λ t.
      let at : EventAt lay ws s v = record { next = q; inside = omega (arith, ltb-true i (length s.mem) t, size) } in
      cond_ind Reason (eqb (entry_at lay s.mem v) no_arrow) (λ e. record { event = v; at = at; none = eqb-true _ _ e }) (λ e. event_reason v at (eqb-false _ _ e)))
      (λ f. outside v q (omega (arith, ltb-false i (length s.mem) f, size)))

  pub reason : Reason (next_of lay ws rd s)
  unfolding instr_effect_at
  reason =
      cond_ind Reason (ltb s.pc N) (λ t. reasons (routine ws s.pc) (record { below = ltb-true s.pc N t; instruction = refl })) (λ f. past (ltb-false s.pc N f))

  -- ---- conversely, under these conditions it does
  next_is : (i : Instr) → NextIs ws s i → next_of lay ws rd s ≡ instr_effect lay N i view
  unfolding instr_effect_at
  next_is i q = rw (lt-ltb s.pc N q.below, q.instruction)

  module _ (v : ℕ) (q : EventAt lay ws s v) where
    entered : entry_address lay s.mem v < length s.mem
    entered = omega (arith, q.inside, size)

    stopped : entry_at lay s.mem v ≡ no_arrow → next_of lay ws rd s ≡ End Stopped
    unfolding instr_effect checked_event
    stopped a = next_is (EVENT v) q.next ∙ rw (lt-ltb _ _ entered, eq-eqb (entry_at lay s.mem v) no_arrow a)

    pub sends : (entry_at lay s.mem v ≡ no_arrow → ⊥) → next_of lay ws rd s ≡ event_effect v view.free view.left
    unfolding instr_effect checked_event
    sends a = next_is (EVENT v) q.next ∙ rw (lt-ltb _ _ entered, ne_eqb (entry_at lay s.mem v) no_arrow a)

  pub ends_by : (t : Status) → EndsAt lay ws s t → next_of lay ws rd s ≡ End t
  unfolding instr_effect_at instr_effect checked_event
  ends_by Running e = absurd e
  ends_by Ended e = next_is HALT e
  ends_by Stopped e = stopped e.event e.at e.none
  ends_by Faulted (past h) = rw (le-ltb s.pc N h)
  ends_by Faulted (outside v q h) = next_is (EVENT v) q ∙ rw (le-ltb (entry_address lay s.mem v) (length s.mem) (omega (arith, size)))
  ends_by Strayed e = next_is (GOX e.d e.a e.b e.c) e.next ∙ rw (e.taken, e.no_landing)

  pub waits_by : (e : Ending) → WaitsAt lay ws rd s e → next_of lay ws rd s ≡ Wait e
  waits_by Done w = absurd w
  waits_by NoArrow w = absurd w
  waits_by Fault w = absurd w
  waits_by LogFull w =
      sends w.event w.at w.arrow ∙ full_by w.event view.free view.left (⊎_elim (λ x. inl x) (λ x. inr (omega arith)) w.given) (omega (arith, w.room))
  waits_by Silent w = sends w.event w.at w.arrow ∙ silent_by w.event view.free view.left w.reading (omega (arith, w.none))
  waits_by Spent w = absurd w
  waits_by NoLanding w = absurd w
  waits_by Refused w = absurd w

-- ---- the order, at every moment
abbrev leaves : RunResult → ℕ × State
leaves r = (r.outcome.steps, final_state r)

pub engine_order : EngineOrder
unfolding run_of apply_effect apply_of with_state
engine_order lay ws m mem rd log j z =
    let l = engine_loop lay ws rd in
    let first = start_of m mem log in
    let r = run_from lay ws rd j 0 first in
    let k = r.outcome.steps in
    let s = final_state r in
    let size : length s.mem ≡ lay.size = run_length lay ws rd j 0 first ∙ taken_size lay ws mem z in
    -- the run with a larger budget continues from here
    let on : (n : ℕ) → run_from lay ws rd (j + (n + 1)) 0 first ≡ run_from lay ws rd (suc n) k s = λ n. more_from l leaves (λ e k s. refl) (λ s k. refl) j n first in
    let none : j + 0 ≡ j = omega arith in
    rw (eq-eqb _ _ z)
    (record {
      over = λ n h. over_on l leaves (λ e k s. refl) (λ s k. refl) j n first h;
      spent = λ run e. ap (λ (i : ℕ). run_from lay ws rd i 0 first) none ∙ (left_by l leaves (λ e k s. refl) (λ s k. refl) j first).spent run e ∙ rw run;
      waits = λ n e run w. on n ∙ wait_from l n k s e run (waits_by lay ws rd s size e w) ∙ rw run;
      ends =
          λ n t run e.
          let next = ends_by lay ws rd s size t e in
          on n ∙ go_from l n k s run (λ w z. no (cc)) ∙ ap (λ (x : Effect). run_from lay ws rd n (k + 1) (apply_effect lay rd x s)) next
          ∙ over_from l n (k + 1) (apply_effect lay rd (End t) s) (λ z. subst (EndsAt lay ws s) z e);
      goes = λ n run h. on n ∙ go_from l n k s run (λ w z. h w (subst (Reason lay ws rd s size) z (reason lay ws rd s size)));
    })

-- ---- an ending comes only under its condition

-- what ends a run changes only its status
abbrev at_status : State → Status → State
at_status s t = state_of s.regs s.pc t s.mem s.log s.pairs s.used

still_next : (ws : List ℕ) (s : State) (t : Status) (i : Instr) → NextIs ws s i → NextIs ws (at_status s t) i
still_next ws s t i q = record { below = q.below; instruction = q.instruction }

still_faults : (lay : Layout) (ws : List ℕ) (s : State) (t : Status) → FaultsAt lay ws s → FaultsAt lay ws (at_status s t)
still_faults lay ws s t (past h) = past h
still_faults lay ws s t (outside v q h) = outside v (still_next ws s t (EVENT v) q) h

module _ (lay : Layout) (ws rd : List ℕ) (m : Engine) (budget : ℕ) where
  -- how a state got its status: it was given so, or an instruction ended the run
  abbrev Why : State → Status → Type 0
  Why s Running = Unit {0}
  Why s Ended = (m.status ≡ Ended) ⊎ EndsAt lay ws s Ended
  Why s Stopped = (m.status ≡ Stopped) ⊎ EndsAt lay ws s Stopped
  Why s Faulted = (m.status ≡ Faulted) ⊎ EndsAt lay ws s Faulted
  Why s Strayed = (m.status ≡ Strayed) ⊎ EndsAt lay ws s Strayed

  given : (s : State) (t : Status) → m.status ≡ t → Why s t
  given s Running e = tt
  given s Ended e = inl e
  given s Stopped e = inl e
  given s Faulted e = inl e
  given s Strayed e = inl e

  ended : (s : State) (t : Status) → EndsAt lay ws s t → Why (at_status s t) t
  ended s Running e = tt
  ended s Ended e = inr (still_next ws s Ended HALT e)
  ended s Stopped e =
      let q : EventAt lay ws (at_status s Stopped) e.event = record { next = still_next ws s Stopped (EVENT e.event) e.at.next; inside = e.at.inside } in
      inr (record { event = e.event; at = q; none = e.none })
  ended s Faulted e = inr (still_faults lay ws s Faulted e)
  ended s Strayed e =
      inr (record { d = e.d; a = e.a; b = e.b; c = e.c; next = still_next ws s Strayed (GOX e.d e.a e.b e.c) e.next; taken = e.taken; no_landing = e.no_landing })

  stepped : (s : State) (size : length s.mem ≡ lay.size) (e : Effect) → s.status ≡ Running → Reason lay ws rd s size e → let t = apply_effect lay rd e s in Why t t.status
  unfolding apply_effect apply_of with_state
  stepped s size (Go to) run h = rw run tt
  stepped s size (SetReg d x) run h = rw run tt
  stepped s size (SetCell i x) run h = rw run tt
  stepped s size (Order v) run h = rw run tt
  stepped s size (Probe v) run h = rw run tt
  stepped s size (End t) run h = ended s t h
  stepped s size (Wait e) run h = rw run tt

  over_only : (n k : ℕ) (s : State) (t : Status) → k + n ≡ budget → Why s t → (n ≡ 0) ⊎ (t ≡ Running → ⊥) → OnlyWhen lay ws rd m budget (result_in (ending_of t) k s) (ending_of t)
  over_only n k s Running i w (inl z) = omega arith
  over_only n k s Running i w (inr o) = absurd (o refl)
  over_only n k s Ended i w o = w
  over_only n k s Stopped i w o = w
  over_only n k s Faulted i w o = w
  over_only n k s Strayed i w o = w

  wait_only : (k : ℕ) (s : State) (e : Ending) → WaitsAt lay ws rd s e → OnlyWhen lay ws rd m budget (result_in e k s) e
  wait_only k s Done w = absurd w
  wait_only k s NoArrow w = absurd w
  wait_only k s Fault w = absurd w
  wait_only k s LogFull w = w
  wait_only k s Silent w = w
  wait_only k s Spent w = absurd w
  wait_only k s NoLanding w = absurd w
  wait_only k s Refused w = absurd w

  Within : ℕ → ℕ → State → Type 0
  Within n k s = (k + n ≡ budget) × (length s.mem ≡ lay.size) × Why s s.status

  run_only : (s : State) → Within budget 0 s → AnswersOnly lay ws rd m budget (run_from lay ws rd budget 0 s)
  unfolding Within
  run_only =
      keeps (engine_loop lay ws rd) Within (AnswersOnly lay ws rd m budget)
      (λ n k s i o. record { ending = ending_of s.status; answer = refl; when = over_only n k s s.status i.0 i.2 o })
      (λ n k s i r w z. record { ending = w; answer = refl; when = wait_only k s w (subst (Reason lay ws rd s i.1) z (reason lay ws rd s i.1)) })
      (λ n k s i r g. (omega (arith, i.0), step_length lay rd (next_of lay ws rd s) s ∙ i.1, stepped s i.1 (next_of lay ws rd s) r (reason lay ws rd s i.1)))
      budget 0

pub engine_ends_only_when : EngineEndsOnlyWhen
unfolding run_of Within
engine_ends_only_when lay ws m mem budget rd log z =
    rw (eq-eqb _ _ z)
    (run_only lay ws rd m budget (start_of m mem log) (omega arith, taken_size lay ws mem z, given lay ws rd m budget (start_of m mem log) m.status refl))

-- ---- the rewriter's refusals
refusals : (lay : Layout) (ws : List ℕ) (room : ℕ) (r m : Bool) → right_layout lay ≡ r → ltb most_instructions (length ws) ≡ m
    → rewrite_answer lay ws room ≡ or_else (refusal_by lay ws lay.size) (base_room_answer lay (length ws) room)
unfolding rewrite_answer refusal_by
refusals lay ws room false m er em = rw er
refusals lay ws room true true er em = rw (er, eq-eqb lay.size lay.size refl, em)
refusals lay ws room true false er em =
    let z = base_room_answer lay (length ws) room in
    rw (er, eq-eqb lay.size lay.size refl, em) (sym (refused_map (refusal_at (length ws)) (λ a. or_else a z) (λ x p h. else_kept (answer x p) z h) ws 0 (answer 0 0)))

pub engine_rewriter : EngineRewriter
engine_rewriter lay ws room = refusals lay ws room _ _ refl refl

pub engine_takes : EngineTakes
engine_takes lay ws room mem e size =
    ap (λ (k : ℕ). (refusal_by lay ws k).number) size ∙ (else_none (refusal_by lay ws lay.size) (base_room_answer lay (length ws) room)
    (ap (λ (x : Answer). x.number) (sym (engine_rewriter lay ws room)) ∙ e)).0
