-- The bound on steps. While a machine runs a forward list, pc − B is at least the number of steps counted,
-- and pc is never past the first command of the last bundle.
use mathlib.Core.Path.{◌≡◌, refl, ◌∙◌, ap}
use mathlib.Core.Bool.{Bool, true, false}
use mathlib.Core.Logic.{⊎_elim}
use mathlib.Core.List.{List, [], ◌∷◌}
use Prim.Native.Nat.{ℕ, zero, suc, ◌+◌, ◌-◌, ◌*◌, ◌/◌, ◌%◌, ◌^◌, ◌<◌, ◌≤◌}
use native.Mathlib.Omega.{arith}
use native.Mathlib.Nat.{zero-add}
use borrow.Author.Tests.{ltb-true, ltb-false}
use lib.Dec.{eqb, ltb}
use lib.ListN.{length}
use Rattle.types.specs.declared.Layout.{Layout}
use Rattle.types.specs.declared.Machine.{Machine}
use Rattle.types.specs.declared.Instr.{Instr}
use Rattle.types.specs.declared.Instr.TheVariants.{HALT, PLAIN, LOAD, STORE, GOIF, GOX, EVENT}
use Rattle.types.specs.declared.Command.{Command}
use Rattle.types.specs.declared.Command.TheVariants.{Nop, Halt, Plain, Load, Store, GoIf, GoReg, Look, StopIf, Keep, Event, Invalid}
use Rattle.types.specs.declared.Status.{Status}
use Rattle.types.specs.declared.Status.TheVariants.{Running, Ended, Stopped, Faulted, Strayed}
use Rattle.types.specs.declared.Effect.{Effect}
use Rattle.types.specs.declared.Effect.TheVariants.{Go, SetReg, SetCell, Order, Probe, End, Wait}
use Rattle.types.specs.Names.{orders, no_arrow, bundle_length}
use Rattle.spec.specs.Policies.{Policy}
use Rattle.spec.specs.Commands.{fetch_of, holds_of}
use Rattle.spec.specs.Bundles.{at4, address_of, shape_of, bundle_at}
use Rattle.spec.specs.Machines.{View, State, RunResult, reg_at, entry_of, next_pc, effect_of, apply_of, view_at, next_of, step_of, run_from, start_of, run_of, fits, loop_from}
use Rattle.spec.specs.Runs.{RunInput, each_run, after_all, Session, initial_session, run_on, after_taken, after_run, HostPremise}
use Rattle.spec.proofs.Bools.{no, cases, cond_ind}
use Rattle.spec.proofs.Facts.{Valid, Bundled}
use Rattle.spec.proofs.Loops.{Goes}
use Rattle.spec.proofs.Endings.{run_ind}
use Rattle.spec.proofs.Conditions.{bundled_of, right_of, machine_of_lem}
use Rattle.forward_spec.specs.Forward.{forward_at, check_forward_answer}
use Rattle.forward_spec.specs.Claims.{most_steps, steps_in, Bounded}
use Rattle.forward_spec.proofs.Runs.{runs_of, after_runs}
use Rattle.forward_spec.proofs.Class.{AllForward, class_of}

-- a status in which a forward list can end: neither running nor strayed
abbrev pub Ends : Status → Type 0
Ends t = (t ≡ Running → ⊥) × (t ≡ Strayed → ⊥)

-- ---- where an effect leads: to a higher address up to `top`, or to an end
abbrev pub Leads : ℕ → ℕ → Effect → Type 0
Leads pc top (Go to) = (pc < to) × (to ≤ top)
Leads pc top (SetReg d x) = pc < top
Leads pc top (SetCell i x) = pc < top
Leads pc top (Order v) = pc < top
Leads pc top (Probe v) = pc < top
Leads pc top (End t) = Ends t
Leads pc top (Wait e) = Unit {0}

-- commands that are no jump
abbrev Straight : Command → Type 0
Straight Nop = Unit {0}
Straight Halt = Unit {0}
Straight (Plain k d a b v) = Unit {0}
Straight (Load d a) = Unit {0}
Straight (Store a b) = Unit {0}
Straight (GoIf a b c v) = ⊥
Straight (GoReg d a b c) = ⊥
Straight (Look d v) = Unit {0}
Straight (StopIf d) = Unit {0}
Straight (Keep d) = Unit {0}
Straight (Event v) = Unit {0}
Straight Invalid = Unit {0}

at4_straight : (a b c d : Command) (p : ℕ) → Straight a → Straight b → Straight c → Straight d → Straight (at4 p a b c d)
at4_straight a b c d zero x y z w = x
at4_straight a b c d (suc zero) x y z w = y
at4_straight a b c d (suc (suc zero)) x y z w = z
at4_straight a b c d (suc (suc (suc p))) x y z w = w

ended : Ends Ended
ended = (λ e. no (cc), λ e. no (cc))

stopped : Ends Stopped
stopped = (λ e. no (cc), λ e. no (cc))

faulted : Ends Faulted
faulted = (λ e. no (cc), λ e. no (cc))

runs_on : (t : Status) → t ≡ Running → t ≡ Strayed → ⊥
runs_on t r e = no (cc)

-- pc does not wrap
pub on_by_one : (pc top : ℕ) → pc < top → top < 2 ^ 32 → next_pc pc ≡ pc + 1
on_by_one pc top l b = omega arith

module _ (v : View) (top : ℕ) (below : top < 2 ^ 32) where
  leads_on : v.pc < top → Leads v.pc top (Go (next_pc v.pc))
  leads_on l = let e = on_by_one v.pc top l below in (omega arith, omega arith)

  leads_straight : (c : Command) → Straight c → v.pc < top → Leads v.pc top (effect_of c v)
  unfolding effect_of
  leads_straight Nop s l = leads_on l
  leads_straight Halt s l = ended
  leads_straight (Plain k d a b x) s l = l
  leads_straight (Load d a) s l = cond_ind (Leads v.pc top) (ltb (reg_at v a) (length v.mem)) (λ _. l) (λ _. faulted)
  leads_straight (Store a b) s l = cond_ind (Leads v.pc top) (ltb (reg_at v a) (length v.mem)) (λ _. l) (λ _. faulted)
  leads_straight (GoIf a b c x) s l = absurd s
  leads_straight (GoReg d a b c) s l = absurd s
  leads_straight (Look d x) s l =
      cond_ind (Leads v.pc top) (ltb v.cell (length v.mem))
      (λ _. cond_ind (Leads v.pc top) (ltb (entry_of v x) (length v.mem)) (λ _. l) (λ _. faulted)) (λ _. faulted)
  leads_straight (StopIf d) s l = cond_ind (Leads v.pc top) (eqb (reg_at v d) no_arrow) (λ _. stopped) (λ _. leads_on l)
  leads_straight (Keep d) s l = cond_ind (Leads v.pc top) (ltb v.cell (length v.mem)) (λ _. l) (λ _. faulted)
  leads_straight (Event x) s l =
      cond_ind (Leads v.pc top) (ltb x orders) (λ _. cond_ind (Leads v.pc top) (ltb v.free 2) (λ _. tt) (λ _. l))
      (λ _. cond_ind (Leads v.pc top) (eqb v.left 0) (λ _. tt) (λ _. cond_ind (Leads v.pc top) (ltb v.free 2) (λ _. tt) (λ _. l)))
  leads_straight Invalid s l = faulted

  -- a jump to a higher instruction
  leads_jump : (a b c to : ℕ) → v.pc < top → v.pc < to → to ≤ top → Leads v.pc top (effect_of (GoIf a b c to) v)
  unfolding effect_of
  leads_jump a b c to l h k =
      cond_ind (λ (x : ℕ). (v.pc < x) × (x ≤ top)) (holds_of c (reg_at v a) (reg_at v b)) (λ _. (h, k)) (λ _. leads_on l)

-- the first command of bundle v is higher than any of bundle h
higher : (base n h p v pc : ℕ) → h < v → v < n → p < bundle_length → pc ≡ base + bundle_length * h + p → (pc < base + bundle_length * v) × (base + bundle_length * v ≤ base + bundle_length * (n - 1))
higher base n h p v pc l u lp e = (omega arith, omega arith)

-- ---- a forward instruction, at position p of bundle h
module _ (lay : Layout) (n h : ℕ) (v : View) (below : lay.base + bundle_length * (n - 1) < 2 ^ 32) (more : v.pc < lay.base + bundle_length * (n - 1)) where
  abbrev top : ℕ
  top = lay.base + bundle_length * (n - 1)

  straight : (c : Command) → Straight c → Leads v.pc top (effect_of c v)
  straight c s = leads_straight v top below c s more

  leads_goif : (a b c x p : ℕ) → forward_at h (GOIF a b c x) ≡ true → Valid n (GOIF a b c x) → p < bundle_length → v.pc ≡ address_of lay h + p
      → Leads v.pc top (effect_of (shape_of lay n (GOIF a b c x) p) v)
  unfolding shape_of forward_at
  leads_goif a b c x zero f g lp e =
      let t = higher lay.base n h 0 x v.pc (ltb-true h x f) g.3 lp e in
      leads_jump v top below a b c (address_of lay x) more t.0 t.1
  leads_goif a b c x (suc zero) f g lp e = straight Nop tt
  leads_goif a b c x (suc (suc zero)) f g lp e = straight Nop tt
  leads_goif a b c x (suc (suc (suc p))) f g lp e = straight Nop tt

  leads : (i : Instr) (p : ℕ) → forward_at h i ≡ true → Valid n i → p < bundle_length → v.pc ≡ address_of lay h + p → Leads v.pc top (effect_of (shape_of lay n i p) v)
  unfolding shape_of forward_at
  leads HALT p f g lp e = straight _ (at4_straight _ _ _ _ p tt tt tt tt)
  leads (PLAIN k d a b x) p f g lp e = straight _ (at4_straight _ _ _ _ p tt tt tt tt)
  leads (LOAD d a) p f g lp e = straight _ (at4_straight _ _ _ _ p tt tt tt tt)
  leads (STORE a b) p f g lp e = straight _ (at4_straight _ _ _ _ p tt tt tt tt)
  leads (GOIF a b c x) p f g lp e = leads_goif a b c x p f g lp e
  leads (GOX d a b c) p f g lp e = no f
  leads (EVENT x) p f g lp e = straight _ (at4_straight _ _ _ _ p tt tt tt tt)

-- ---- a machine after t steps
pub record Ahead (base n t pc : ℕ) (st : Status) : Type 0 where
  pub most : t ≤ most_steps n
  pub on : st ≡ Running → (base + t ≤ pc) × (pc ≤ base + bundle_length * (n - 1))
  pub lands : st ≡ Strayed → ⊥

-- after a step that does not pause
pub ahead_step : (caps rd : List ℕ) (base n t : ℕ) (s : State) (e : Effect) → base + bundle_length * (n - 1) < 2 ^ 32 → Goes e → s.status ≡ Running
    → base + t ≤ s.pc → s.pc ≤ base + bundle_length * (n - 1) → Leads s.pc (base + bundle_length * (n - 1)) e
    → Ahead base n (t + 1) (apply_of caps rd e s).pc (apply_of caps rd e s).status
unfolding apply_of
ahead_step caps rd base n t s (Go to) b g r l u d = record { most = omega arith; on = λ _. (omega (arith, d.0), d.1); lands = runs_on _ r }
ahead_step caps rd base n t s (SetReg i x) b g r l u d = let e = on_by_one s.pc _ d b in record { most = omega arith; on = λ _. (omega arith, omega arith); lands = runs_on _ r }
ahead_step caps rd base n t s (SetCell i x) b g r l u d = let e = on_by_one s.pc _ d b in record { most = omega arith; on = λ _. (omega arith, omega arith); lands = runs_on _ r }
ahead_step caps rd base n t s (Order v) b g r l u d = let e = on_by_one s.pc _ d b in record { most = omega arith; on = λ _. (omega arith, omega arith); lands = runs_on _ r }
ahead_step caps rd base n t s (Probe v) b g r l u d = let e = on_by_one s.pc _ d b in record { most = omega arith; on = λ _. (omega arith, omega arith); lands = runs_on _ r }
ahead_step caps rd base n t s (End st) b g r l u d = record { most = omega arith; on = λ e. absurd (d.0 e); lands = d.1 }
ahead_step caps rd base n t s (Wait e) b g r l u d = absurd (g e refl)

-- an address of the list as bundle and position
pub split : (base n pc : ℕ) → base ≤ pc → pc ≤ base + bundle_length * (n - 1) → 0 < n → ((pc - base) / bundle_length < n)
    × ((pc - base) % bundle_length < bundle_length) × (pc ≡ base + bundle_length * ((pc - base) / bundle_length) + (pc - base) % bundle_length)
split base n pc l u some = (omega arith, omega arith, omega arith)

last_place : (base n pc : ℕ) → pc ≡ base + bundle_length * (n - 1) → ((pc - base) / bundle_length ≡ n - 1) × ((pc - base) % bundle_length ≡ 0)
last_place base n pc e = (omega arith, omega arith)

module _ (lay : Layout) (ws : List ℕ) (n : ℕ) (is : ℕ → Instr) (room : lay.base + bundle_length * n ≤ 2 ^ 32) (bs : Bundled lay ws n is) (fw : AllForward n is) where
  pub below_end : lay.base + bundle_length * (n - 1) < 2 ^ 32
  below_end = omega (arith, bs.some)

  fetched : (pc : ℕ) → lay.base ≤ pc → pc ≤ lay.base + bundle_length * (n - 1) → fetch_of ws lay.base pc ≡ shape_of lay n (is ((pc - lay.base) / bundle_length)) ((pc - lay.base) % bundle_length)
  fetched pc l u = let w = split lay.base n pc l u bs.some in ap (fetch_of ws lay.base) w.2 ∙ bs.each _ _ w.0 w.1

  -- the first command of the last bundle ends the run
  next_last : (rd : List ℕ) (s : State) → s.pc ≡ lay.base + bundle_length * (n - 1) → next_of lay ws rd s ≡ End Ended
  unfolding effect_of shape_of
  next_last rd s e = let q = last_place lay.base n s.pc e in rw (fetched s.pc (omega arith) (omega arith), q.0, q.1, bs.last)

  pub next_leads : (rd : List ℕ) (s : State) → lay.base ≤ s.pc → s.pc ≤ lay.base + bundle_length * (n - 1) → Leads s.pc (lay.base + bundle_length * (n - 1)) (next_of lay ws rd s)
  next_leads rd s l u =
      let w = split lay.base n s.pc l u bs.some in
      ⊎_elim
      (λ (x : ltb s.pc (lay.base + bundle_length * (n - 1)) ≡ true).
      rw (fetched s.pc l u) (leads lay n _ (view_at lay rd s) below_end (ltb-true _ _ x) _ _ (fw _ w.0) (bs.valid _ w.0) w.1 w.2))
      (λ (x : ltb s.pc (lay.base + bundle_length * (n - 1)) ≡ false).
      let e : s.pc ≡ lay.base + bundle_length * (n - 1) = omega (arith, ltb-false s.pc (lay.base + bundle_length * (n - 1)) x) in
      rw (next_last rd s e) ended)
      (cases (ltb s.pc (lay.base + bundle_length * (n - 1))))

  -- ---- within a run, after t steps of earlier runs and k of its own
  ahead_run : (rd : List ℕ) (t j k : ℕ) (s : State) → Ahead lay.base n (t + k) s.pc s.status →
      let r = (run_from lay ws rd j k s).outcome in
      Ahead lay.base n (t + r.answer.steps) r.machine.pc r.machine.status
  unfolding loop_from
  ahead_run rd t zero k s a = a
  ahead_run rd t (suc j) k s a =
      run_ind lay ws rd j k s (λ (r : RunResult). Ahead lay.base n (t + r.outcome.answer.steps) r.outcome.machine.pc r.outcome.machine.status)
      (λ f. a) (λ _ w z. a)
      (λ r g.
      let o = a.on r in
      let z : t + k + 1 ≡ t + (k + 1) = omega arith in
      ahead_run rd t j (k + 1) (step_of lay ws rd s)
      (rw z at (ahead_step lay.ceilings rd lay.base n (t + k) s (next_of lay ws rd s) below_end g r o.0 o.1 (next_leads rd s (omega arith) o.1))))

  abbrev InTail : ℕ → Machine → Type 0
  InTail t m = Ahead lay.base n t m.pc m.status

  -- ---- one run, and a list of them
  ahead_on : (t : ℕ) (c : Session) (g : RunInput) → InTail t c.machine → InTail (t + (run_on lay ws c g).outcome.answer.steps) (after_run lay ws c g).machine
  unfolding after_run after_taken run_on run_of
  ahead_on t c g a = by (fits lay g.memory) refl
    where
      z : t + 0 ≡ t
      z = omega arith

      by : (b : Bool) → fits lay g.memory ≡ b → InTail (t + (run_on lay ws c g).outcome.answer.steps) (after_run lay ws c g).machine
      by true e = rw e (ahead_run g.readings t g.budget 0 (start_of c.machine g.memory g.log) (rw z a))
      by false e = rw (e, z) a

  pub ahead_runs : (t : ℕ) (c : Session) (gs : List RunInput) → InTail t c.machine → InTail (t + steps_in (runs_of lay ws c gs)) (after_runs lay ws c gs).machine
  unfolding after_all each_run
  ahead_runs t c [] a = let z : t + 0 ≡ t = omega arith in rw z a
  ahead_runs t c (g ∷ gs) a =
      let x = (run_on lay ws c g).outcome.answer.steps in
      let y = steps_in (runs_of lay ws (after_run lay ws c g) gs) in
      let z : t + x + y ≡ t + (x + y) = omega arith in
      rw z at (ahead_runs (t + x) (after_run lay ws c g) gs (ahead_on t c g a))

-- ---- from an installation
pub ahead_all : (lay : Layout) (pol : Policy) (ws mem : List ℕ) (gs : List RunInput) → (check_forward_answer lay ws).number ≡ 0 → HostPremise lay pol ws mem gs →
    Ahead lay.base (length ws / bundle_length) (steps_in (runs_of lay ws (initial_session lay pol mem) gs))
    (after_runs lay ws (initial_session lay pol mem) gs).machine.pc (after_runs lay ws (initial_session lay pol mem) gs).machine.status
ahead_all lay pol ws mem gs f v =
    let n = length ws / bundle_length in
    let bs = bundled_of lay ws v.passed in
    let ok = right_of lay pol ws mem v.passed v.installed in
    let m = machine_of_lem lay pol mem v.installed in
    rw zero-add at
    (ahead_runs lay ws n (bundle_at lay ws) ok.room bs (class_of lay ws f) 0 (initial_session lay pol mem) gs
    (rw m (record { most = omega arith; on = λ _. (omega arith, omega arith); lands = runs_on Running refl })))

pub bounded : Bounded
bounded lay pol ws mem gs f v = (ahead_all lay pol ws mem gs f v).most
