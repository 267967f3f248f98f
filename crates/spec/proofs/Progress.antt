-- A running machine at a bundle boundary reaches the next one within four steps, unless it pauses.
-- So whatever the guest does in its next instruction, the machine does too.
use mathlib.Core.Path.{◌≡◌, refl, sym, ◌∙◌, ap, subst}
use mathlib.Core.Bool.{Bool, true, false, cond}
use mathlib.Core.Logic.{◌⊎◌, inl, inr, ⊎_elim}
use mathlib.Core.List.{List}
use Prim.Native.Nat.{ℕ, zero, suc, ◌+◌, ◌-◌, ◌*◌, ◌%◌, ◌^◌, ◌<◌, ◌≤◌}
use native.Mathlib.Omega.{arith}
use borrow.Author.Tests.{ltb-true, ltb-false, eqb-true, eqb-false, eq-eqb}
use lib.Dec.{eqb, ltb}
use lib.ListN.{length, get_or}
use Rattle.types.specs.declared.Layout.{Layout}
use Rattle.types.specs.declared.Instr.{Instr}
use Rattle.types.specs.declared.Instr.TheVariants.{HALT, PLAIN, LOAD, STORE, GOIF, GOX, EVENT}
use Rattle.types.specs.declared.Command.{Command}
use Rattle.types.specs.declared.Command.TheVariants.{Nop, Halt, Plain, Load, Store, GoIf, GoReg, Look, StopIf, Keep, Event, Invalid}
use Rattle.types.specs.declared.Status.{Status}
use Rattle.types.specs.declared.Status.TheVariants.{Running, Ended, Stopped, Faulted, Strayed}
use Rattle.types.specs.declared.Ending.TheVariants.{LogFull, Silent}
use Rattle.types.specs.declared.Effect.{Effect}
use Rattle.types.specs.declared.Effect.TheVariants.{Go, SetReg, SetCell, Order, Probe, End, Wait}
use Rattle.types.specs.Names.{orders, no_arrow, bundle_length, hidden}
use Rattle.spec.specs.Policies.{Policy}
use Rattle.spec.specs.Commands.{fetch_of, holds_of}
use Rattle.spec.specs.Bundles.{at4, address_of, position_of, shape_of, check_answer}
use Rattle.spec.specs.Machines.{State, RunResult, View, reg_at, if_cell, is_landing, if_landing, if_room, entry_of, next_pc, effect_of, apply_of, view_at}
use Rattle.spec.specs.Machines.{next_of, step_of, ending_of, run_from, start_of, run_of, fits, loop_from}
use Rattle.spec.specs.Guests.{Pair, Guest, guest_reg}
use Rattle.spec.specs.Runs.{RunInput, Session, begins, begun_from, run_on, after_taken, after_run, after}
use Rattle.spec.specs.Claims.{AtBoundary, with_budget, Paused, ReachesBoundary, ResumableNoPause, Resumes, Progress}
use Rattle.spec.proofs.Facts.{Right, Bundled}
use Rattle.spec.proofs.Bools.{no, cases, join, cond_ind}
use Rattle.spec.proofs.Conditions.{layout_of_lem}
use Rattle.spec.proofs.Simulation.{MidBundle, start, rest, load1, load2, store1, store2, gox1, gox2, gox3, event1, event2, event3, InBundle, over, live, RunInvariant}
use Rattle.spec.proofs.RunSimulation.{first_yes, first_no, fetched, sim_invariant, step_known, enter}
use Rattle.spec.proofs.Loops.{Goes, go_from, wait_from, keeps, machine_loop, begun_loop}
use Rattle.spec.proofs.Endings.{Pauses, pauses, goes}
use Rattle.spec.proofs.Isolation.{list_simulated}

-- ---- commands other than EVENT, and effects that neither pause nor record
abbrev pub Quiet : Command → Type 0
Quiet Nop = Unit {0}
Quiet Halt = Unit {0}
Quiet (Plain k d a b v) = Unit {0}
Quiet (Load d a) = Unit {0}
Quiet (Store a b) = Unit {0}
Quiet (GoIf a b c v) = Unit {0}
Quiet (GoReg d a b c) = Unit {0}
Quiet (Look d v) = Unit {0}
Quiet (StopIf d) = Unit {0}
Quiet (Keep d) = Unit {0}
Quiet (Event e) = ⊥
Quiet Invalid = Unit {0}

quiet_at : (a b c d : Command) (p : ℕ) → (p ≡ 2 → ⊥) → Quiet a → Quiet b → Quiet d → Quiet (at4 p a b c d)
quiet_at a b c d zero l x y z = x
quiet_at a b c d (suc zero) l x y z = y
quiet_at a b c d (suc (suc zero)) l x y z = absurd (l refl)
quiet_at a b c d (suc (suc (suc p))) l x y z = z

-- EVENT is always the third command of its bundle
pub quiet : (lay : Layout) (n : ℕ) (i : Instr) (p : ℕ) → (p ≡ 2 → ⊥) → Quiet (shape_of lay n i p)
unfolding shape_of
quiet lay n HALT p l = quiet_at _ _ _ _ p l tt tt tt
quiet lay n (PLAIN k d a b v) p l = quiet_at _ _ _ _ p l tt tt tt
quiet lay n (LOAD d a) p l = quiet_at _ _ _ _ p l tt tt tt
quiet lay n (STORE a b) p l = quiet_at _ _ _ _ p l tt tt tt
quiet lay n (GOIF a b c v) p l = quiet_at _ _ _ _ p l tt tt tt
quiet lay n (GOX d a b c) p l = quiet_at _ _ _ _ p l tt tt tt
quiet lay n (EVENT e) p l = quiet_at _ _ _ _ p l tt tt tt

abbrev pub Still : Effect → Type 0
Still (Go to) = Unit {0}
Still (SetReg d x) = Unit {0}
Still (SetCell i x) = Unit {0}
Still (Order v) = ⊥
Still (Probe v) = ⊥
Still (End t) = Unit {0}
Still (Wait e) = ⊥

pub still : (c : Command) (v : View) → Quiet c → Still (effect_of c v)
unfolding effect_of
still Nop v e = tt
still Halt v e = tt
still (Plain k d a b x) v e = tt
still (Load d a) v e = cond_ind Still (ltb (reg_at v a) (length v.mem)) (λ _. tt) (λ _. tt)
still (Store a b) v e = cond_ind Still (ltb (reg_at v a) (length v.mem)) (λ _. tt) (λ _. tt)
still (GoIf a b c x) v e = tt
still (GoReg d a b c) v e =
    cond_ind Still (holds_of c (reg_at v a) (reg_at v b)) (λ _. cond_ind Still (is_landing v.mem v.base v.landings (reg_at v d)) (λ _. tt) (λ _. tt)) (λ _. tt)
still (Look d x) v e = cond_ind Still (ltb v.cell (length v.mem)) (λ _. cond_ind Still (ltb (entry_of v x) (length v.mem)) (λ _. tt) (λ _. tt)) (λ _. tt)
still (StopIf d) v e = cond_ind Still (eqb (reg_at v d) no_arrow) (λ _. tt) (λ _. tt)
still (Keep d) v e = cond_ind Still (ltb v.cell (length v.mem)) (λ _. tt) (λ _. tt)
still (Event x) v e = absurd e
still Invalid v e = tt

still_keeps : (caps rd : List ℕ) (e : Effect) (s : State) → Still e → ((apply_of caps rd e s).log ≡ s.log) × ((apply_of caps rd e s).pairs ≡ s.pairs) × ((apply_of caps rd e s).used ≡ s.used)
unfolding apply_of
still_keeps caps rd (Go to) s q = (refl, refl, refl)
still_keeps caps rd (SetReg d x) s q = (refl, refl, refl)
still_keeps caps rd (SetCell i x) s q = (refl, refl, refl)
still_keeps caps rd (Order v) s q = absurd q
still_keeps caps rd (Probe v) s q = absurd q
still_keeps caps rd (End t) s q = (refl, refl, refl)
still_keeps caps rd (Wait e) s q = absurd q

-- ---- room for one pair and one reading, so no command pauses
abbrev Room : List ℕ → State → Type 0
Room rd s = (2 * s.pairs + 1 < length s.log) × (s.used < length rd)

goes_in : (lay : Layout) (rd : List ℕ) (c : Command) (s : State) → Room rd s → Goes (effect_of c (view_at lay rd s))
goes_in lay rd c s r = goes c (view_at lay rd s) (omega (arith, r.0)) (omega (arith, r.1))

still_goes : (e : Effect) → Still e → Goes e
still_goes e q w z = subst Still z q

-- ---- where an effect leads: to the next address, or to a boundary
abbrev AtBoundaryIn : Layout → State → Type 0
AtBoundaryIn lay s = (position_of lay s.pc ≡ 0) ⊎ (s.status ≡ Running → ⊥)

abbrev Moves : Layout → List ℕ → State → Effect → Type 0
Moves lay rd s e = Goes e → ((apply_of lay.ceilings rd e s).pc ≡ next_pc s.pc) ⊎ AtBoundaryIn lay (apply_of lay.ceilings rd e s)

-- a jump leads to a first command, or to the next address if it is not taken
jumps : (lay : Layout) (rd : List ℕ) (s : State) (t : Bool) (x v : ℕ) → v ≡ address_of lay x → Moves lay rd s (Go (cond t v (next_pc s.pc)))
unfolding apply_of
jumps lay rd s true x v e f = inr (inl (omega arith))
jumps lay rd s false x v e f = inl refl

module _ (lay : Layout) (rd : List ℕ) (s : State) where
  moves_on : Moves lay rd s (Go (next_pc s.pc))
  unfolding apply_of
  moves_on f = inl refl

  moves_put : (d x : ℕ) → Moves lay rd s (SetReg d x)
  unfolding apply_of
  moves_put d x f = inl refl

  moves_cell : (i x : ℕ) → Moves lay rd s (SetCell i x)
  unfolding apply_of
  moves_cell i x f = inl refl

  moves_end : (t : Status) → (t ≡ Running → ⊥) → Moves lay rd s (End t)
  unfolding apply_of
  moves_end t h f = inr (inr h)

  faults : Moves lay rd s (End Faulted)
  faults = moves_end Faulted (λ x. no (cc))

  -- an access to a cell that does not exist faults
  moves_at : (i : ℕ) (e : Effect) → Moves lay rd s e → Moves lay rd s (if_cell (view_at lay rd s) i e)
  moves_at i e m = cond_ind (Moves lay rd s) (ltb i (length s.mem)) (λ _. m) (λ _. faults)

  -- without room in the log it pauses
  moves_room : (e : Effect) → Moves lay rd s e → Moves lay rd s (if_room (length s.log - 2 * s.pairs) e)
  moves_room e m = cond_ind (Moves lay rd s) (ltb (length s.log - 2 * s.pairs) 2) (λ _ f. absurd (f LogFull refl)) (λ _. m)

  -- to a first command; it stops if that is no landing
  moves_landing : (x v : ℕ) → v ≡ address_of lay x → Moves lay rd s (if_landing (view_at lay rd s) v)
  moves_landing x v e = cond_ind (Moves lay rd s) (is_landing s.mem lay.base lay.landings v) (λ _. jumps lay rd s true x v e) (λ _. moves_end Strayed (λ x. no (cc)))

  moves_event : (v : ℕ) → Moves lay rd s (effect_of (Event v) (view_at lay rd s))
  unfolding effect_of apply_of
  moves_event v =
      cond_ind (Moves lay rd s) (ltb v orders) (λ _. moves_room (Order v) (λ f. inl refl))
      (λ _. cond_ind (Moves lay rd s) (eqb (length rd - s.used) 0) (λ _ f. absurd (f Silent refl)) (λ _. moves_room (Probe v) (λ f. inl refl)))

  start_moves : (n : ℕ) (i : Instr) → Moves lay rd s (effect_of (shape_of lay n i 0) (view_at lay rd s))
  unfolding effect_of shape_of
  start_moves n HALT = moves_end Ended (λ x. no (cc))
  start_moves n (PLAIN k d a b v) = moves_put d _
  start_moves n (LOAD d a) = moves_put hidden _
  start_moves n (STORE a b) = moves_put hidden _
  start_moves n (GOIF a b c v) = jumps lay rd s (holds_of c (get_or s.regs a 0) (get_or s.regs b 0)) v (address_of lay v) refl
  start_moves n (GOX d a b c) = moves_put hidden _
  start_moves n (EVENT e) = moves_at _ _ (moves_at _ _ (moves_put hidden _))

  mid_moves : (pol : Policy) (n : ℕ) (g : Guest) (h k b : ℕ) (i : Instr) (p : ℕ)
      → MidBundle lay pol n g h k b (get_or s.regs hidden 0) (get_or s.mem lay.cell 0) i p
      → Moves lay rd s (effect_of (shape_of lay n i p) (view_at lay rd s))
  unfolding effect_of shape_of
  mid_moves pol n g h k b i p (start here) = start_moves n i
  mid_moves pol n g h k b i p (rest low nop lt here) = rw (nop p (omega arith)) moves_on
  mid_moves pol n g h k b i p (load1 here e) = moves_put hidden _
  mid_moves pol n g h k b i p (load2 {d = d} here e) = moves_at _ _ (moves_put d _)
  mid_moves pol n g h k b i p (store1 here e) = moves_put hidden _
  mid_moves pol n g h k b i p (store2 here e) = moves_at _ _ (moves_cell _ _)
  mid_moves pol n g h k b i p (gox1 here e) = moves_put hidden _
  mid_moves pol n g h k b i p (gox2 here e) = moves_put hidden _
  mid_moves pol n g h k b i p (gox3 {d = d} {a = x} {b' = y} {t = c} here e) =
      cond_ind (Moves lay rd s) (holds_of c (get_or s.regs x 0) (get_or s.regs y 0)) (λ _. moves_landing (guest_reg g d % n) _ e) (λ _. moves_on)
  mid_moves pol n g h k b i p (event1 here e) = cond_ind (Moves lay rd s) (eqb (get_or s.regs hidden 0) no_arrow) (λ _. moves_end Stopped (λ x. no (cc))) (λ _. moves_on)
  mid_moves pol n g h k b i p (event2 {e = x} here e some) = moves_event x
  mid_moves pol n g h k b i p (event3 es lt at bk e er q) = moves_at _ _ (moves_cell lay.cell _)

-- ---- one step of a run
module _ (lay : Layout) (ws rd : List ℕ) (s : State) (run : s.status ≡ Running) (go : Goes (next_of lay ws rd s)) where
  run_step : (j k : ℕ) → run_from lay ws rd (suc j) k s ≡ run_from lay ws rd j (k + 1) (step_of lay ws rd s)
  run_step j k = go_from (machine_loop lay ws rd) j k s run go

  begun_step : (j b : ℕ) → begun_from lay ws rd (suc j) b s ≡ begun_from lay ws rd j (b + begins lay s.pc) (step_of lay ws rd s)
  begun_step j b = ap (λ r. r.1) (go_from (begun_loop lay ws rd) j (0, b) s run go)

-- ---- a run that does not pause
abbrev NoPauseIn : Layout → List ℕ → List ℕ → ℕ → ℕ → State → Type 0
NoPauseIn lay ws rd n k s = Paused (run_from lay ws rd n k s).outcome.answer.ending → ⊥

unpaused_goes : (lay : Layout) (ws rd : List ℕ) (n k : ℕ) (s : State) → 1 ≤ n → s.status ≡ Running → NoPauseIn lay ws rd n k s → Goes (next_of lay ws rd s)
unpaused_goes lay ws rd zero k s l run none w z = absurd (omega (arith, l))
unpaused_goes lay ws rd (suc n) k s l run none w z =
    none (rw (wait_from (machine_loop lay ws rd) n k s w run z) (⊎_elim (λ x. inl x.0) (λ x. inr x.0) (subst (Pauses (view_at lay rd s)) z (pauses _ _))))

unpaused_next : (lay : Layout) (ws rd : List ℕ) (n k : ℕ) (s : State) → 1 ≤ n → s.status ≡ Running → Goes (next_of lay ws rd s) → NoPauseIn lay ws rd n k s
    → NoPauseIn lay ws rd (n - 1) (k + 1) (step_of lay ws rd s)
unpaused_next lay ws rd zero k s l run go none = absurd (omega (arith, l))
unpaused_next lay ws rd (suc n) k s l run go none =
    let e : n ≡ suc n - 1 = omega arith in
    subst (λ (m : ℕ). NoPauseIn lay ws rd m (k + 1) (step_of lay ws rd s)) e
    (subst (λ (r : RunResult). Paused r.outcome.answer.ending → ⊥) (run_step lay ws rd s run go n k) none)

-- a run of at most so many steps that ends at a boundary
record BoundaryReached (lay : Layout) (ws rd : List ℕ) (most k b b₂ : ℕ) (s : State) : Type 0 where
  j : ℕ
  few : j ≤ most
  boundary : AtBoundary lay (run_from lay ws rd j k s).outcome.machine
  begun : begun_from lay ws rd j b s ≡ b₂

one_more : (j most : ℕ) → j ≤ most → suc j ≤ suc most
one_more j most l = omega arith

-- at once, and after one step
came_now : (lay : Layout) (ws rd : List ℕ) (most k b : ℕ) (s : State) → AtBoundaryIn lay s → BoundaryReached lay ws rd most k b b s
unfolding loop_from
came_now lay ws rd most k b s x = record { j = 0; few = omega arith; boundary = x; begun = refl }

came_then : (lay : Layout) (ws rd : List ℕ) (most k b b₁ b₂ : ℕ) (s : State) → s.status ≡ Running → Goes (next_of lay ws rd s) → b + begins lay s.pc ≡ b₁
    → BoundaryReached lay ws rd most (k + 1) b₁ b₂ (step_of lay ws rd s) → BoundaryReached lay ws rd (suc most) k b b₂ s
came_then lay ws rd most k b b₁ b₂ s run go z c =
    record {
      j = suc c.j;
      few = one_more c.j most c.few;
      boundary = subst (λ (r : RunResult). AtBoundary lay r.outcome.machine) (sym (run_step lay ws rd s run go c.j k)) c.boundary;
      begun = begun_step lay ws rd s run go c.j b ∙ ap (λ (x : ℕ). begun_from lay ws rd c.j x (step_of lay ws rd s)) z ∙ c.begun;
    }

-- a run that ends by its status has not paused
status_unpaused : (t : Status) → Paused (ending_of t) → ⊥
status_unpaused Running (inl e) = no (cc)
status_unpaused Running (inr e) = no (cc)
status_unpaused Ended (inl e) = no (cc)
status_unpaused Ended (inr e) = no (cc)
status_unpaused Stopped (inl e) = no (cc)
status_unpaused Stopped (inr e) = no (cc)
status_unpaused Faulted (inl e) = no (cc)
status_unpaused Faulted (inr e) = no (cc)
status_unpaused Strayed (inl e) = no (cc)
status_unpaused Strayed (inr e) = no (cc)

pub running : (t : Status) → (t ≡ Running) ⊎ (t ≡ Running → ⊥)
running Running = inl refl
running Ended = inr (λ x. no (cc))
running Stopped = inr (λ x. no (cc))
running Faulted = inr (λ x. no (cc))
running Strayed = inr (λ x. no (cc))

-- ---- addresses as numbers: the one after position p of bundle h
takes_step : (base n h p pc to : ℕ) → base + bundle_length * n ≤ 2 ^ 32 → h < n → p < 3 → pc ≡ base + bundle_length * h + p → to ≡ next_pc pc → to ≡ base + bundle_length * h + suc p
takes_step base n h p pc to room lh lp e f = omega arith

goes_next : (base n h p pc to : ℕ) → base + bundle_length * n ≤ 2 ^ 32 → h < n → p + 1 ≡ bundle_length → pc ≡ base + bundle_length * h + p → to ≡ next_pc pc → (to - base) % bundle_length ≡ 0
goes_next base n h p pc to room lh lp e f = omega arith

within : (base h p to : ℕ) → p < 3 → to ≡ base + bundle_length * h + suc p → (to - base) % bundle_length ≡ 0 → ⊥
within base h p to lp e z = omega arith

plus_none : (b x : ℕ) → x ≡ 0 → b + x ≡ b
plus_none b x e = omega arith

-- how many positions are left after the next one
left : (r p : ℕ) → p + suc (suc r) ≡ bundle_length → suc p + suc r ≡ bundle_length
left r p e = omega arith

left_in : (r p : ℕ) → p + suc r ≡ bundle_length → p < bundle_length
left_in r p e = omega arith

-- a position in a bundle is the only one
same_position : (base h h' p p' pc : ℕ) → p < bundle_length → p' < bundle_length → pc ≡ base + bundle_length * h + p → pc ≡ base + bundle_length * h' + p' → p ≡ p'
same_position base h h' p p' pc l l' e e' = omega arith

more_left : (r p : ℕ) → p + suc (suc r) ≡ bundle_length → p < 3
more_left r p e = omega arith

module _ (lay : Layout) (pol : Policy) (ws : List ℕ) (n : ℕ) (is : ℕ → Instr) (ok : Right lay pol n) (bs : Bundled lay ws n is) (past : List Pair) (u0 rd : List ℕ) (g0 : Guest) where
  sim_moves : (s : State) (g : Guest) (k b : ℕ) → s.status ≡ Running → InBundle lay pol n is g k b s → Moves lay rd s (next_of lay ws rd s)
  sim_moves s g k b run (over f st h p lh lp si pc q bk) = absurd (f.0 (sym st ∙ run))
  sim_moves s g k b run (live gg st h p lh lp pc m) = rw (fetched lay pol ws n is ok bs s h p lh lp pc) (mid_moves lay rd s pol n g h k b (is h) p m)

  -- only the third command of a bundle can pause
  goes_at : (s : State) (h p : ℕ) → h < n → p < bundle_length → s.pc ≡ address_of lay h + p → (p ≡ 2 → Goes (next_of lay ws rd s)) → Goes (next_of lay ws rd s)
  goes_at s h p lh lp pc third =
      ⊎_elim (λ e. third (eqb-true p 2 e))
      (λ e. still_goes _ (rw (fetched lay pol ws n is ok bs s h p lh lp pc) (still (shape_of lay n (is h) p) (view_at lay rd s) (quiet lay n (is h) p (eqb-false p 2 e)))))
      (cases (eqb p 2))

  room_on : (s : State) (h p : ℕ) → h < n → p < 2 → s.pc ≡ address_of lay h + p → Room rd s → Room rd (step_of lay ws rd s)
  room_on s h p lh lp pc r =
      let e = fetched lay pol ws n is ok bs s h p lh (omega arith) pc in
      let w = still_keeps lay.ceilings rd (next_of lay ws rd s) s (rw e (still (shape_of lay n (is h) p) (view_at lay rd s) (quiet lay n (is h) p (λ z. omega arith)))) in
      rw (w.0, w.1, w.2) r

  -- from position p of bundle h, with r more commands after this one
  reach : (r p h k b b₂ : ℕ) (s : State) → p + suc r ≡ bundle_length → h < n → b + begins lay s.pc ≡ b₂ → RunInvariant lay pol n is past u0 rd g0 b s
      → s.status ≡ Running → s.pc ≡ address_of lay h + p → (m : ℕ) → 3 ≤ p + m → NoPauseIn lay ws rd m k s → BoundaryReached lay ws rd (suc r) k b b₂ s
  reach zero p h k b b₂ s e lh z w run pc m enough none =
      let go = goes_at s h p lh (left_in _ p e) pc (λ y. unpaused_goes lay ws rd m k s (omega arith) run none) in
      let t = sim_invariant lay pol ws n is ok bs past u0 rd g0 b s w in
      came_then lay ws rd 0 k b b₂ b₂ s run go z
      (came_now lay ws rd 0 (k + 1) b₂ (step_of lay ws rd s) (⊎_elim (λ y. inl (goes_next lay.base n h p s.pc _ ok.room lh e pc y)) (λ y. y) (sim_moves s _ t.0 b run t.1.sim go)))
  reach (suc r) p h k b b₂ s e lh z w run pc m enough none =
      let go = goes_at s h p lh (left_in _ p e) pc (λ y. unpaused_goes lay ws rd m k s (omega arith) run none) in
      let t = sim_invariant lay pol ws n is ok bs past u0 rd g0 b s w in
      let lp = more_left r p e in
      let now : AtBoundaryIn lay (step_of lay ws rd s) → BoundaryReached lay ws rd (suc r) (k + 1) b₂ b₂ (step_of lay ws rd s) = λ y. came_now lay ws rd (suc r) (k + 1) b₂ (step_of lay ws rd s) y in
      let more : (step_of lay ws rd s).pc ≡ next_pc s.pc → (step_of lay ws rd s).status ≡ Running → BoundaryReached lay ws rd (suc r) (k + 1) b₂ b₂ (step_of lay ws rd s) =
      λ y l.
      let to : (step_of lay ws rd s).pc ≡ address_of lay h + suc p = takes_step lay.base n h p s.pc _ ok.room lh lp pc y in
      reach r (suc p) h (k + 1) b₂ b₂ (step_of lay ws rd s) (left r p e) lh
      (plus_none b₂ _ (first_no lay (step_of lay ws rd s).pc (within lay.base h p _ lp to)))
      (subst (λ (x : ℕ). RunInvariant lay pol n is past u0 rd g0 x (step_of lay ws rd s)) z (step_known lay pol ws n is ok bs past u0 rd g0 b s w run go))
      l to (m - 1) (omega arith) (unpaused_next lay ws rd m k s (omega arith) run go none) in
      came_then lay ws rd (suc r) k b b₂ b₂ s run go z
      (⊎_elim (λ y. ⊎_elim (λ l. more y l) (λ l. now (inr l)) (running (step_of lay ws rd s).status)) (λ y. now y) (sim_moves s _ t.0 b run t.1.sim go))

  -- from any position
  from_here : (b : ℕ) (s : State) (g : Guest) (k : ℕ) → RunInvariant lay pol n is past u0 rd g0 b s → s.status ≡ Running → NoPauseIn lay ws rd 3 0 s
      → InBundle lay pol n is g k b s → BoundaryReached lay ws rd bundle_length 0 b (b + begins lay s.pc) s
  from_here b s g k w run none (over f st h p lh lp si pc q bk) = absurd (f.0 (sym st ∙ run))
  from_here b s g k w run none (live gg st h p lh lp pc m) =
      let y = reach (3 - p) p h 0 b (b + begins lay s.pc) s (omega arith) lh refl w run pc 3 (omega arith) none in
      record { j = y.j; few = omega (arith, y.few); boundary = y.boundary; begun = y.begun }

  -- ---- with a free pair and a reading it does not pause within three steps: they reach the third command of one bundle at most
  -- n steps are left; where these reach the third command of this bundle, there is room
  record RoomLeft (m : ℕ) (s : State) : Type 0 where
    begun : ℕ
    known : RunInvariant lay pol n is past u0 rd g0 begun s
    few : m ≤ 3
    room : s.status ≡ Running → (h p : ℕ) → p ≤ 2 → s.pc ≡ address_of lay h + p → 3 ≤ p + m → Room rd s

  left_goes : (m : ℕ) (s : State) (g : Guest) (k b : ℕ) → RoomLeft (suc m) s → s.status ≡ Running → InBundle lay pol n is g k b s → Goes (next_of lay ws rd s)
  left_goes m s g k b i run (over f st h p lh lp si pc q bk) = absurd (f.0 (sym st ∙ run))
  left_goes m s g k b i run (live gg st h p lh lp pc x) =
      goes_at s h p lh lp pc (λ y. goes_in lay rd (fetch_of ws lay.base s.pc) s (i.room run h p (omega arith) pc (omega arith)))

  room_next : (m : ℕ) (s : State) (g : Guest) (k b : ℕ) → RoomLeft (suc m) s → s.status ≡ Running → Goes (next_of lay ws rd s) → InBundle lay pol n is g k b s
      → (step_of lay ws rd s).status ≡ Running → (h p : ℕ) → p ≤ 2 → (step_of lay ws rd s).pc ≡ address_of lay h + p → 3 ≤ p + m → Room rd (step_of lay ws rd s)
  room_next m s g k b i run go (over f st h p lh lp si pc q bk) on h' p' lp' pc' enough = absurd (f.0 (sym st ∙ run))
  room_next m s g k b i run go (live gg st h p lh lp pc x) on h' p' lp' pc' enough =
      let few = i.few in
      let first : ((step_of lay ws rd s).pc - lay.base) % bundle_length ≡ 0 → Room rd (step_of lay ws rd s) = λ y. absurd (omega (arith, y)) in
      ⊎_elim
      (λ y.
      ⊎_elim
      (λ t.
      let low = ltb-true p 3 t in
      let to : (step_of lay ws rd s).pc ≡ address_of lay h + suc p = takes_step lay.base n h p s.pc _ ok.room lh low pc y in
      let e : suc p ≡ p' = same_position lay.base h h' (suc p) p' _ (omega arith) (omega arith) to pc' in
      room_on s h p lh (omega arith) pc (i.room run h p (omega arith) pc (omega arith)))
      (λ f. first (goes_next lay.base n h p s.pc _ ok.room lh (omega (arith, ltb-false p 3 f)) pc y))
      (cases (ltb p 3)))
      (λ y. ⊎_elim first (λ o. absurd (o on)) y)
      (sim_moves s g k b run (live gg st h p lh lp pc x) go)

  room_unpaused : (s : State) → RoomLeft 3 s → NoPauseIn lay ws rd 3 0 s
  room_unpaused =
      keeps (machine_loop lay ws rd) (λ m k s. RoomLeft m s) (λ (r : RunResult). Paused r.outcome.answer.ending → ⊥)
      (λ m k s i o. status_unpaused s.status)
      (λ m k s i run w z. absurd (let t = sim_invariant lay pol ws n is ok bs past u0 rd g0 i.begun s i.known in left_goes m s _ t.0 i.begun i run t.1.sim w z))
      (λ m k s i run go.
      let t = sim_invariant lay pol ws n is ok bs past u0 rd g0 i.begun s i.known in
      record {
        begun = i.begun + begins lay s.pc;
        known = step_known lay pol ws n is ok bs past u0 rd g0 i.begun s i.known run go;
        few = omega (arith, i.few);
        room = room_next m s _ t.0 i.begun i run go t.1.sim;
      }) 3 0

-- so does the run with that budget, if it is not refused
reaches_boundary : (lay : Layout) (ws : List ℕ) (c : Session) (g : RunInput) (b : ℕ) → fits lay g.memory ≡ true
    → BoundaryReached lay ws g.readings bundle_length 0 c.begun b (start_of c.machine g.memory g.log) → ReachesBoundary lay ws c g b
unfolding after_run after_taken run_on run_of
reaches_boundary lay ws c g b fit y = record { budget = y.j; few = y.few; boundary = rw fit y.boundary; begun = rw fit y.begun }

-- a run that is not refused, from its first state
module _ (lay : Layout) (ws : List ℕ) (c : Session) (g : RunInput) (fit : fits lay g.memory ≡ true) where
  unpaused_from : (Paused (run_on lay ws c (with_budget g 3)).outcome.answer.ending → ⊥) → NoPauseIn lay ws g.readings 3 0 (start_of c.machine g.memory g.log)
  unfolding run_on run_of
  unpaused_from none = rw fit at none

  unpaused_on : NoPauseIn lay ws g.readings 3 0 (start_of c.machine g.memory g.log) → Paused (run_on lay ws c (with_budget g 3)).outcome.answer.ending → ⊥
  unfolding run_on run_of
  unpaused_on none = rw fit none

fit_of : (lay : Layout) (ws : List ℕ) (g : RunInput) → (check_answer lay ws).number ≡ 0 → length g.memory ≡ lay.size → fits lay g.memory ≡ true
fit_of lay ws g passed size = join _ _ (layout_of_lem lay ws passed) (eq-eqb (length g.memory) lay.size size)

pub resumes : Resumes
resumes lay pol ws mem gs v run g lent n =
    let t = list_simulated lay pol ws mem gs v in
    let c = after lay pol ws mem gs in
    let s = start_of c.machine g.memory g.log in
    let fit = fit_of lay ws g v.passed n.memory in
    let w = enter lay pol ws _ _ t.right t.bundled _ c g n.memory lent t.last in
    let k = sim_invariant lay pol ws _ _ t.right t.bundled c.records c.consumed g.readings _ c.begun s w in
    reaches_boundary lay ws c g _ fit
    (from_here lay pol ws _ _ t.right t.bundled c.records c.consumed g.readings _ c.begun s _ k.0 w run (unpaused_from lay ws c g fit n.goes) k.1.sim)

pub progress : Progress
progress lay pol ws mem gs v x run g lent n =
    let c = after lay pol ws mem gs in
    let y = resumes lay pol ws mem gs v run g lent n in
    let one : begins lay c.machine.pc ≡ 1 = ⊎_elim (λ z. first_yes lay c.machine.pc z) (λ z. absurd (z run)) x in
    record { budget = y.budget; few = y.few; boundary = y.boundary; begun = y.begun ∙ ap (λ (k : ℕ). c.begun + k) one }

pub resumable_no_pause : ResumableNoPause
resumable_no_pause lay pol ws mem gs v g lent n =
    let t = list_simulated lay pol ws mem gs v in
    let c = after lay pol ws mem gs in
    let w = enter lay pol ws _ _ t.right t.bundled _ c g n.memory lent t.last in
    record {
      memory = n.memory;
      goes =
          unpaused_on lay ws c g (fit_of lay ws g v.passed n.memory)
          (room_unpaused lay pol ws _ _ t.right t.bundled c.records c.consumed g.readings _ (start_of c.machine g.memory g.log)
          (record { begun = c.begun; known = w; few = omega arith; room = λ _ h p l e m. (omega (arith, n.log), omega (arith, n.readings)) }));
    }
