-- What happens before a step: why a run ends or pauses, and what it then answers.
use mathlib.Core.Path.{◌≡◌, refl, sym, ◌∙◌, ap, subst}
use mathlib.Core.Bool.{Bool, true, false, ◌&&◌, cond}
use mathlib.Core.Logic.{◌⊎◌, inl, inr, ⊎_elim}
use mathlib.Core.List.{List, [], ◌∷◌}
use Prim.Native.Nat.{ℕ, zero, suc, ◌+◌, ◌-◌, ◌<◌, ◌≤◌}
use native.Mathlib.Omega.{arith}
use borrow.Author.Tests.{ltb-true, ltb-false, leb-true, leb-false, eqb-true, eqb-false, lt-ltb, le-ltb, le-leb, lt-leb, eq-eqb, ne_eqb}
use lib.Dec.{eqb, leb, ltb}
use lib.ListN.{length, get_or, length-set}
use Rattle.types.specs.declared.Layout.{Layout}
use Rattle.types.specs.declared.Machine.{Machine}
use Rattle.types.specs.declared.Status.{Status}
use Rattle.types.specs.declared.Status.TheVariants.{Running, Ended, Stopped, Faulted, Strayed}
use Rattle.types.specs.declared.Ending.{Ending}
use Rattle.types.specs.declared.Ending.TheVariants.{Done, NoArrow, Fault, LogFull, Silent, Spent, NoLanding, Refused}
use Rattle.types.specs.declared.Effect.{Effect}
use Rattle.types.specs.declared.Effect.TheVariants.{Go, SetReg, SetCell, Order, Probe, End, Wait}
use Rattle.types.specs.declared.Command.{Command}
use Rattle.types.specs.declared.Command.TheVariants.{Nop, Halt, Plain, Load, Store, GoIf, GoReg, Look, StopIf, Keep, Event, Invalid}
use Rattle.types.specs.Names.{orders, no_arrow, command, command_kinds}
use Rattle.spec.specs.Layouts.{right_layout}
use Rattle.spec.specs.Landings.{listed}
use Rattle.spec.specs.Words.{kind_of, d_of, a_of, b_of, c_of, v_of}
use Rattle.spec.specs.Commands.{is_command, named, command_of, fetch_of, holds_of}
use Rattle.spec.specs.Machines.{View, entry_from, is_landing, event_effect, effect_of, State, state_of, apply_of, view_at, next_of, ending_of, RunResult}
use Rattle.spec.specs.Machines.{result_in, final_state, fits, run_from, start_of, run_of}
use Rattle.spec.specs.Endings.{command_at, register_at, cells_used, FaultsAt, outside, unknown, beyond, EndsAt, WaitsAt, MachineOrder, TerminalIsAbsorbing, OnlyWhen, EndsOnlyWhen}
use Rattle.spec.proofs.Bools.{no, cases, both, or_left, or_right, either, cond_ind}
use Rattle.spec.proofs.Loops.{Loop, over_from, wait_from, go_from, keeps, runs_compose_at, machine_loop}

-- ---- pauses depend only on log and readings, in the engine too
pub silent_by : (v free left : ℕ) → orders ≤ v → left ≡ 0 → event_effect v free left ≡ Wait Silent
silent_by v free left o r = rw (le-ltb v orders o, eq-eqb left 0 r)

full_order : (v free left : ℕ) → v < orders → free < 2 → event_effect v free left ≡ Wait LogFull
full_order v free left o r = rw (lt-ltb v orders o, lt-ltb free 2 r)

pub full_by : (v free left : ℕ) → ((v < orders) ⊎ (0 < left)) → free < 2 → event_effect v free left ≡ Wait LogFull
full_by v free left (inl o) r = full_order v free left o r
full_by v free left (inr o) r =
    ⊎_elim (λ t. full_order v free left (ltb-true v orders t) r) (λ t. rw (t, ne_eqb left 0 (λ y. omega arith), lt-ltb free 2 r)) (cases (ltb v orders))

-- ---- where a run that counts its steps ends, and how it continues with a greater budget; for machine and engine alike
module _ {R : Type 0} (l : Loop ℕ R) (left : R → ℕ × State) (is : (e : Ending) (k : ℕ) (s : State) → left (l.ends e k s) ≡ (k, s)) (one : (s : State) (k : ℕ) → l.tick s k ≡ k + 1) where
  -- after at most j steps: if it is over, its status says how; if it still runs and has counted j, it is spent
  pub record LeftBy (j : ℕ) (r : R) : Type 0 where
    pub over : ((left r).1.status ≡ Running → ⊥) → r ≡ l.ends (ending_of (left r).1.status) (left r).0 (left r).1
    pub spent : (left r).1.status ≡ Running → (left r).0 ≡ j → r ≡ l.ends Spent (left r).0 (left r).1

  pub left_by : (j : ℕ) (s : State) → LeftBy j (l.from j 0 s)
  left_by j s₀ =
      keeps l (λ n k s. k + n ≡ j) (LeftBy j)
      (λ n k s i o. record { over = λ _. rw (is (ending_of s.status) k s); spent = rw (is (ending_of s.status) k s) (λ run _. rw run) })
      (λ n k s i r w z. record { over = rw (is w k s) (λ o. absurd (o r)); spent = rw (is w k s) (λ _ e. absurd (omega arith)) })
      (λ n k s i r g. rw (one s k) (omega arith)) j 0 s₀ (omega arith)

  -- the run with a greater budget
  pub more_from : (j n : ℕ) (s : State) → l.from (j + (n + 1)) 0 s ≡ l.from (suc n) (left (l.from j 0 s)).0 (left (l.from j 0 s)).1
  more_from j n s = let e : j + (n + 1) ≡ j + suc n = omega arith in ap (λ (i : ℕ). l.from i 0 s) e ∙ runs_compose_at l left is n j 0 s

  pub over_on : (j n : ℕ) (s : State) → let x = left (l.from j 0 s) in (x.1.status ≡ Running → ⊥) → l.from (j + n) 0 s ≡ l.ends (ending_of x.1.status) x.0 x.1
  over_on j zero s h = let e : j + 0 ≡ j = omega arith in ap (λ (i : ℕ). l.from i 0 s) e ∙ (left_by j s).over h
  over_on j (suc n) s h = runs_compose_at l left is n j 0 s ∙ over_from l (suc n) (left (l.from j 0 s)).0 (left (l.from j 0 s)).1 h

-- ---- no step changes the memory's length
apply_length : (caps rd : List ℕ) (e : Effect) (s : State) → length (apply_of caps rd e s).mem ≡ length s.mem
unfolding apply_of
apply_length caps rd (Go to) s = refl
apply_length caps rd (SetReg d x) s = refl
apply_length caps rd (SetCell i x) s = length-set s.mem i x
apply_length caps rd (Order v) s = refl
apply_length caps rd (Probe v) s = refl
apply_length caps rd (End t) s = refl
apply_length caps rd (Wait w) s = refl

run_length : (lay : Layout) (ws rd : List ℕ) (n k : ℕ) (s : State) → length (run_from lay ws rd n k s).mem ≡ length s.mem
run_length lay ws rd n k s₀ =
    keeps (machine_loop lay ws rd) (λ _ _ s. length s.mem ≡ length s₀.mem) (λ r. length r.mem ≡ length s₀.mem)
    (λ _ _ s i _. i) (λ _ _ s i _ w _. i) (λ _ _ s i _ _. apply_length lay.ceilings rd (next_of lay ws rd s) s ∙ i) n k s₀ refl

-- ---- a word that is a command is not Invalid
kind_below : (w : ℕ) → is_command w ≡ true → kind_of w < command_kinds
unfolding is_command
kind_below w h = ⊎_elim (λ t. ltb-true _ _ t) (λ f. no (rw f at h)) (cases (ltb (kind_of w) command_kinds))

-- if neither branch is z, neither is `cond`
unless : {A : Type 0} (b : Bool) {x y z : A} → (x ≡ z → ⊥) → (b ≡ false → y ≡ z → ⊥) → cond b x y ≡ z → ⊥
unless true f g = f
unless false f g = g refl

not_at : (k i : ℕ) → i ≤ k → eqb k i ≡ false → i + 1 ≤ k
not_at k i l f = omega (arith, eqb-false k i f)

named_some : (k d a b c v : ℕ) → k < command_kinds → named k d a b c v ≡ Invalid → ⊥
named_some k d a b c v h =
    unless (eqb k command.nop) (λ e. no (cc))
    (λ f0. unless (eqb k command.halt) (λ e. no (cc))
    (λ f1. unless (ltb k command.load) (λ e. no (cc))
    (λ f2. unless (eqb k command.load) (λ e. no (cc))
    (λ f3. unless (eqb k command.store) (λ e. no (cc))
    (λ f4. unless (eqb k command.goif) (λ e. no (cc))
    (λ f5. unless (eqb k command.goxr) (λ e. no (cc))
    (λ f6. unless (eqb k command.look) (λ e. no (cc))
    (λ f7. unless (eqb k command.stopif) (λ e. no (cc))
    (λ f8. unless (eqb k command.keep) (λ e. no (cc))
    (λ f9. unless (eqb k command.event) (λ e. no (cc))
    (λ f10 _.
    let l4 = not_at k command.store (not_at k command.load (ltb-false k command.load f2) f3) f4 in
    let l7 = not_at k command.look (not_at k command.goxr (not_at k command.goif l4 f5) f6) f7 in
    let l10 = not_at k command.event (not_at k command.keep (not_at k command.stopif l7 f8) f9) f10 in
    omega (arith, l10))))))))))))

-- ---- why a step ends or pauses
module _ (lay : Layout) (ws rd : List ℕ) (s : State) (size : length s.mem ≡ lay.size) where
  abbrev view : View
  view = view_at lay rd s

  -- no command: pc is outside the list, or its word is none
  abbrev inside : Bool
  inside = leb lay.base s.pc && ltb (s.pc - lay.base) (length ws)

  abbrev word : ℕ
  word = get_or ws (s.pc - lay.base) 0

  fetched : inside ≡ true → is_command word ≡ true → command_at lay ws s ≡ named (kind_of word) (d_of word) (a_of word) (b_of word) (c_of word) (v_of word)
  unfolding fetch_of command_of
  fetched t c = rw (t, c)

  after_last : leb lay.base s.pc ≡ true → inside ≡ false → lay.base + length ws ≤ s.pc
  after_last t f = omega (arith, leb-true lay.base s.pc t, ltb-false (s.pc - lay.base) (length ws) (rw t at f))

  invalid : command_at lay ws s ≡ Invalid → FaultsAt lay ws s
  invalid q =
      ⊎_elim
      (λ t. ⊎_elim (λ c. absurd (named_some _ _ _ _ _ _ (kind_below word c) (sym (fetched t c) ∙ q))) unknown (cases (is_command word)))
      (λ f. outside (⊎_elim (λ t. inr (after_last t f)) (λ g. inl (leb-false lay.base s.pc g)) (cases (leb lay.base s.pc))))
      (cases inside)

  abbrev Reason : Effect → Type 0
  Reason (End t) = EndsAt lay ws s t
  Reason (Wait e) = WaitsAt lay ws rd s e
  Reason (Go to) = Unit {0}
  Reason (SetReg d x) = Unit {0}
  Reason (SetCell i x) = Unit {0}
  Reason (Order v) = Unit {0}
  Reason (Probe v) = Unit {0}

  -- a cell that the command uses but memory does not have
  past : (c : Command) → command_at lay ws s ≡ c → (i : ℕ) → listed (cells_used lay s.regs s.mem c) i ≡ true → ltb i (length s.mem) ≡ false → FaultsAt lay ws s
  past c q i u f = beyond i (rw q u) (omega (arith, ltb-false i (length s.mem) f, size))

  head_used : (i : ℕ) (is : List ℕ) → listed (i ∷ is) i ≡ true
  head_used i is = or_left _ _ (eq-eqb i i refl)

  reasons : (c : Command) → command_at lay ws s ≡ c → Reason (effect_of c view)
  unfolding effect_of
  reasons Nop q = tt
  reasons Halt q = q
  reasons (Plain k d a b v) q = tt
  reasons (Load d a) q = let i = register_at s a in cond_ind Reason (ltb i (length s.mem)) (λ _. tt) (past _ q i (head_used i []))
  reasons (Store a b) q = let i = register_at s a in cond_ind Reason (ltb i (length s.mem)) (λ _. tt) (past _ q i (head_used i []))
  reasons (GoIf a b c v) q = tt
  reasons (GoReg d a b c) q =
      cond_ind Reason (holds_of c (register_at s a) (register_at s b))
      (λ t. cond_ind Reason (is_landing s.mem lay.base lay.landings (register_at s d)) (λ _. tt) (λ f. record { d = d; a = a; b = b; c = c; command = q; taken = t; no_landing = f })) (λ _. tt)
  reasons (Look d v) q =
      let i = entry_from lay.table lay.cell s.mem v in
      cond_ind Reason (ltb lay.cell (length s.mem))
      (λ _. cond_ind Reason (ltb i (length s.mem)) (λ _. tt) (past _ q i (or_right (eqb i lay.cell) _ (head_used i [])))) (past _ q lay.cell (head_used lay.cell (i ∷ [])))
  reasons (StopIf d) q = cond_ind Reason (eqb (register_at s d) no_arrow) (λ t. record { d = d; command = q; value = eqb-true _ _ t }) (λ _. tt)
  reasons (Keep d) q = cond_ind Reason (ltb lay.cell (length s.mem)) (λ _. tt) (past _ q lay.cell (head_used lay.cell []))
  reasons (Event v) q =
      let full : ((v < orders) ⊎ (s.used < length rd)) → ltb view.free 2 ≡ true → WaitsAt lay ws rd s LogFull =
      λ g f. record { event = v; command = q; given = ⊎_elim (λ x. inl x) (λ x. inr (omega (arith, x))) g; room = let h = ltb-true view.free 2 f in omega arith } in
      cond_ind Reason (ltb v orders) (λ t. cond_ind Reason (ltb view.free 2) (full (inl (ltb-true v orders t))) (λ _. tt))
      (λ o. cond_ind Reason (eqb view.left 0)
      (λ e. record { event = v; command = q; reading = ltb-false v orders o; none = let h = eqb-true view.left 0 e in omega arith })
      (λ e. cond_ind Reason (ltb view.free 2) (full (inr (let h = eqb-false view.left 0 e in omega arith))) (λ _. tt)))
  reasons Invalid q = invalid q

  pub reason : Reason (next_of lay ws rd s)
  reason = reasons (command_at lay ws s) refl

  -- ---- conversely, under these conditions it does
  abbrev does : Command → Effect
  does c = effect_of c view

  abbrev Faulty : Effect → Type 0
  Faulty e = e ≡ End Faulted

  not_there : (x i : ℕ) → listed (x ∷ []) i ≡ true → lay.size ≤ i → ltb x (length s.mem) ≡ false
  not_there x i u h = ⊎_elim (λ e. le-ltb x (length s.mem) (omega (arith, eqb-true i x e, size))) (λ z. no z) (either (eqb i x) false u)

  faults_beyond : (c : Command) (i : ℕ) → listed (cells_used lay s.regs s.mem c) i ≡ true → lay.size ≤ i → Faulty (does c)
  unfolding effect_of
  faults_beyond Nop i u h = no u
  faults_beyond Halt i u h = no u
  faults_beyond (Plain k d a b v) i u h = no u
  faults_beyond (Load d a) i u h = rw (not_there (register_at s a) i u h)
  faults_beyond (Store a b) i u h = rw (not_there (register_at s a) i u h)
  faults_beyond (GoIf a b c v) i u h = no u
  faults_beyond (GoReg d a b c) i u h = no u
  faults_beyond (Look d v) i u h =
      let x = entry_from lay.table lay.cell s.mem v in
      cond_ind Faulty (ltb lay.cell (length s.mem))
      (λ t.
      ⊎_elim (λ e. absurd (omega (arith, eqb-true i lay.cell e, ltb-true lay.cell (length s.mem) t, size))) (λ r. rw (not_there x i r h))
      (either (eqb i lay.cell) (listed (x ∷ []) i) u)) (λ _. refl)
  faults_beyond (StopIf d) i u h = no u
  faults_beyond (Keep d) i u h = rw (not_there lay.cell i u h)
  faults_beyond (Event v) i u h = no u
  faults_beyond Invalid i u h = no u

  faults : FaultsAt lay ws s → Faulty (next_of lay ws rd s)
  unfolding effect_of fetch_of command_of
  faults (outside (inl h)) = rw (lt-leb lay.base s.pc h)
  faults (outside (inr h)) = rw (le-leb lay.base s.pc (omega arith), le-ltb (s.pc - lay.base) (length ws) (omega arith))
  faults (unknown f) = rw f (cond_ind (λ (c : Command). Faulty (does c)) inside (λ _. refl) (λ _. refl))
  faults (beyond i u h) = faults_beyond (command_at lay ws s) i u h

  pub ends_by : (t : Status) → EndsAt lay ws s t → next_of lay ws rd s ≡ End t
  unfolding effect_of
  ends_by Running e = absurd e
  ends_by Ended e = ap does e
  ends_by Stopped e = ap does e.command ∙ rw (eq-eqb _ _ e.value)
  ends_by Faulted e = faults e
  ends_by Strayed e = ap does e.command ∙ rw (e.taken, e.no_landing)

  pub waits_by : (e : Ending) → WaitsAt lay ws rd s e → next_of lay ws rd s ≡ Wait e
  unfolding effect_of
  waits_by Done w = absurd w
  waits_by NoArrow w = absurd w
  waits_by Fault w = absurd w
  waits_by LogFull w = ap does w.command ∙ full_by w.event view.free view.left (⊎_elim (λ x. inl x) (λ x. inr (omega arith)) w.given) (omega (arith, w.room))
  waits_by Silent w = ap does w.command ∙ silent_by w.event view.free view.left w.reading (omega (arith, w.none))
  waits_by Spent w = absurd w
  waits_by NoLanding w = absurd w
  waits_by Refused w = absurd w

-- ---- the order, at every moment
abbrev leaves : RunResult → ℕ × State
leaves r = (r.outcome.answer.steps, final_state r)

fitting : (lay : Layout) (mem : List ℕ) → fits lay mem ≡ true → length mem ≡ lay.size
fitting lay mem fit = eqb-true (length mem) lay.size (both (right_layout lay) (eqb (length mem) lay.size) fit).1

pub machine_order : MachineOrder
unfolding run_of apply_of
machine_order lay ws m mem rd log j fit =
    let l = machine_loop lay ws rd in
    let first = start_of m mem log in
    let r = run_from lay ws rd j 0 first in
    let k = r.outcome.answer.steps in
    let s = final_state r in
    let size : length s.mem ≡ lay.size = run_length lay ws rd j 0 first ∙ fitting lay mem fit in
    let on : (n : ℕ) → run_from lay ws rd (j + (n + 1)) 0 first ≡ run_from lay ws rd (suc n) k s = λ n. more_from l leaves (λ e k s. refl) (λ s k. refl) j n first in
    let none : j + 0 ≡ j = omega arith in
    rw fit
    (record {
      over = λ n h. over_on l leaves (λ e k s. refl) (λ s k. refl) j n first h;
      spent = λ run e. ap (λ (i : ℕ). run_from lay ws rd i 0 first) none ∙ (left_by l leaves (λ e k s. refl) (λ s k. refl) j first).spent run e ∙ rw run;
      waits = λ n e run w. on n ∙ wait_from l n k s e run (waits_by lay ws rd s size e w) ∙ rw run;
      ends =
          λ n t run e.
          let next = ends_by lay ws rd s size t e in
          on n ∙ go_from l n k s run (λ w z. no (cc)) ∙ ap (λ (x : Effect). run_from lay ws rd n (k + 1) (apply_of lay.ceilings rd x s)) next
          ∙ over_from l n (k + 1) (apply_of lay.ceilings rd (End t) s) (λ z. subst (EndsAt lay ws s) z e);
      goes = λ n run h. on n ∙ go_from l n k s run (λ w z. h w (subst (Reason lay ws rd s size) z (reason lay ws rd s size)));
    })

pub terminal_is_absorbing : TerminalIsAbsorbing
unfolding run_of
terminal_is_absorbing lay ws m mem budget rd log fit h = rw fit (over_from (machine_loop lay ws rd) budget 0 (start_of m mem log) h)

-- ---- an ending comes only under its condition

-- what ends a run changes only its status
abbrev at_status : State → Status → State
at_status s t = state_of s.regs s.pc t s.mem s.log s.pairs s.used

still_faults : (lay : Layout) (ws : List ℕ) (s : State) (t : Status) → FaultsAt lay ws s → FaultsAt lay ws (at_status s t)
still_faults lay ws s t (outside h) = outside h
still_faults lay ws s t (unknown h) = unknown h
still_faults lay ws s t (beyond i u h) = beyond i u h

module _ (lay : Layout) (ws rd : List ℕ) (m : Machine) (budget : ℕ) where
  -- how a state got its status: it was given so, or a step ended the run
  abbrev Why : State → Status → Type 0
  Why s Running = Unit {0}
  Why s Ended = (m.status ≡ Ended) ⊎ EndsAt lay ws s Ended
  Why s Stopped = (m.status ≡ Stopped) ⊎ EndsAt lay ws s Stopped
  Why s Faulted = (m.status ≡ Faulted) ⊎ EndsAt lay ws s Faulted
  Why s Strayed = (m.status ≡ Strayed) ⊎ EndsAt lay ws s Strayed

  given : (s : State) (t : Status) → m.status ≡ t → Why s t
  given s Running e = tt
  given s Ended e = inl e
  given s Stopped e = inl e
  given s Faulted e = inl e
  given s Strayed e = inl e

  ended : (s : State) (t : Status) → EndsAt lay ws s t → Why (at_status s t) t
  ended s Running e = tt
  ended s Ended e = inr e
  ended s Stopped e = inr (record { d = e.d; command = e.command; value = e.value })
  ended s Faulted e = inr (still_faults lay ws s Faulted e)
  ended s Strayed e = inr (record { d = e.d; a = e.a; b = e.b; c = e.c; command = e.command; taken = e.taken; no_landing = e.no_landing })

  stepped : (s : State) (size : length s.mem ≡ lay.size) (e : Effect) → s.status ≡ Running → Reason lay ws rd s size e → let t = apply_of lay.ceilings rd e s in Why t t.status
  unfolding apply_of
  stepped s size (Go to) run h = rw run tt
  stepped s size (SetReg d x) run h = rw run tt
  stepped s size (SetCell i x) run h = rw run tt
  stepped s size (Order v) run h = rw run tt
  stepped s size (Probe v) run h = rw run tt
  stepped s size (End t) run h = ended s t h
  stepped s size (Wait e) run h = rw run tt

  over_only : (n k : ℕ) (s : State) (t : Status) → k + n ≡ budget → Why s t → (n ≡ 0) ⊎ (t ≡ Running → ⊥) → OnlyWhen lay ws rd m budget (result_in (ending_of t) k s) (ending_of t)
  over_only n k s Running i w (inl z) = omega arith
  over_only n k s Running i w (inr o) = absurd (o refl)
  over_only n k s Ended i w o = w
  over_only n k s Stopped i w o = w
  over_only n k s Faulted i w o = w
  over_only n k s Strayed i w o = w

  wait_only : (k : ℕ) (s : State) (e : Ending) → WaitsAt lay ws rd s e → OnlyWhen lay ws rd m budget (result_in e k s) e
  wait_only k s Done w = absurd w
  wait_only k s NoArrow w = absurd w
  wait_only k s Fault w = absurd w
  wait_only k s LogFull w = w
  wait_only k s Silent w = w
  wait_only k s Spent w = absurd w
  wait_only k s NoLanding w = absurd w
  wait_only k s Refused w = absurd w

  Within : ℕ → ℕ → State → Type 0
  Within n k s = (k + n ≡ budget) × (length s.mem ≡ lay.size) × Why s s.status

  run_only : (s : State) → Within budget 0 s → OnlyWhen lay ws rd m budget (run_from lay ws rd budget 0 s) (run_from lay ws rd budget 0 s).outcome.answer.ending
  unfolding Within
  run_only =
      keeps (machine_loop lay ws rd) Within (λ r. OnlyWhen lay ws rd m budget r r.outcome.answer.ending)
      (λ n k s i o. over_only n k s s.status i.0 i.2 o)
      (λ n k s i r w z. wait_only k s w (subst (Reason lay ws rd s i.1) z (reason lay ws rd s i.1)))
      (λ n k s i r g. (omega (arith, i.0), apply_length lay.ceilings rd (next_of lay ws rd s) s ∙ i.1, stepped s i.1 (next_of lay ws rd s) r (reason lay ws rd s i.1)))
      budget 0

pub ends_only_when : EndsOnlyWhen
unfolding run_of Within
ends_only_when lay ws m mem budget rd log fit =
    rw fit (run_only lay ws rd m budget (start_of m mem log) (omega arith, fitting lay mem fit, given lay ws rd m budget (start_of m mem log) m.status refl))
