-- Part (d) of isolation, noninterference: two lists of runs that differ only in free cells and old logs do the same, run by run.
use mathlib.Core.Path.{◌≡◌, refl, sym, ◌∙◌, ap, subst}
use mathlib.Core.Bool.{Bool, true, false, ◌&&◌}
use mathlib.Core.Logic.{⊎_elim}
use mathlib.Core.List.{List, [], ◌∷◌}
use Prim.Native.Nat.{ℕ, zero, suc, ◌+◌, ◌-◌, ◌*◌, ◌/◌, ◌%◌, ◌<◌}
use native.Mathlib.Omega.{arith}
use borrow.Author.Tests.{ltb-true, ltb-false, eqb-false, eqb-true}
use lib.Dec.{eqb, leb, ltb}
use lib.ListN.{length, get_or, set, length-set, get_or-eq_default}
use lib.Seq.{get_or-set_same, get_or-set_other, set_out}
use Rattle.types.specs.declared.Command.{Command}
use Rattle.types.specs.declared.Command.TheVariants.{Nop, Halt, Plain, Load, Store, GoIf, GoReg, Look, StopIf, Keep, Event, Invalid}
use Rattle.types.specs.declared.Status.{Status}
use Rattle.types.specs.declared.Status.TheVariants.{Running}
use Rattle.types.specs.declared.Ending.{Ending}
use Rattle.types.specs.declared.Effect.{Effect}
use Rattle.types.specs.declared.Effect.TheVariants.{Go, SetReg, SetCell, Order, Probe, End, Wait}
use Rattle.types.specs.declared.Outcome.{Outcome}
use Rattle.types.specs.declared.Layout.{Layout}
use Rattle.types.specs.declared.Instr.{Instr}
use Rattle.types.specs.declared.Instr.TheVariants.{HALT, PLAIN, LOAD, STORE, GOIF, GOX, EVENT}
use Rattle.types.specs.Names.{most_bundles, bundle_length, cell_bits, events, hidden}
use Rattle.spec.specs.Layouts.{in_box, not_free, right_layout}
use Rattle.spec.specs.Policies.{Policy}
use Rattle.spec.specs.Landings.{marked}
use Rattle.spec.specs.Commands.{fetch_of}
use Rattle.spec.specs.Machines.{view_of, is_landing, effect_of, State, state_of, with_pair, apply_of, next_of, step_of, RunResultWith, fits, start_of, run_from, run_of, install_memory}
use Rattle.spec.specs.Bundles.{shape_of}
use Rattle.spec.specs.Guests.{Pair, Guest, guest_reg, guest_start}
use Rattle.spec.specs.Runs.{RunInput, pairs_of, Session, initial_session, run_on, after_taken, begins, after_run, LowEqual, MemoryPreserved, HostPremise, Pairwise, each_run, Run, run_as, all_runs}
use Rattle.spec.specs.Claims.{SameInputs, SameObservations}
use Rattle.spec.proofs.Bools.{no, cases, both}
use Rattle.spec.proofs.Landings.{marked_same}
use Rattle.spec.proofs.Facts.{Right, Valid, Bundled}
use Rattle.spec.proofs.Loops.{Goes, Loop, step_in, alikes, machine_loop}
use Rattle.spec.proofs.Lists.{AllPreserved}
use Rattle.spec.proofs.Conditions.{machine_of_lem}
use Rattle.spec.proofs.Simulation.{MidBundle, start, rest, load1, load2, store1, store2, gox1, gox2, gox3, event1, event2, event3, InBundle, over, live, RunInvariant, SessionInvariant}
use Rattle.spec.proofs.RunSimulation.{lent_box, lent_cell, lent_table, lent_landing, sim_invariant, step_known, enter, stays_run}

-- ---- low-equivalent states: the same machine and counts, the same cells except free ones, the same logged pairs
abbrev pub besides : State → List ℕ → List ℕ → State
besides s mem log = state_of s.regs s.pc s.status mem log s.pairs s.used

pub record LowEqualState (lay : Layout) (s t : State) : Type 0 where
  pub same : t ≡ besides s t.mem t.log
  pub low_equal : LowEqual lay s.mem t.mem
  pub size : length s.mem ≡ length t.mem
  pub long : length s.log ≡ length t.log
  pub logged : (i : ℕ) → i < 2 * s.pairs → get_or s.log i 0 ≡ get_or t.log i 0

-- a store to a free cell gives a low-equivalent memory
pub free_set : (lay : Layout) (mem : List ℕ) (i x : ℕ) → not_free lay i ≡ false → LowEqual lay (set mem i x) mem
free_set lay mem i x f j s = get_or-set_other mem i j x 0 (λ e. no (sym f ∙ ap (λ (k : ℕ). not_free lay k) (sym e) ∙ s))

-- the same store into two lists of the same length
pub set_alike : (l l' : List ℕ) (a i v : ℕ) → length l ≡ length l' → ((i ≡ a → ⊥) → get_or l i 0 ≡ get_or l' i 0) → get_or (set l a v) i 0 ≡ get_or (set l' a v) i 0
set_alike l l' a i v n k =
    ⊎_elim
    (λ e.
    let q = eqb-true i a e in
    ⊎_elim
    (λ m.
    let h = ltb-true a (length l) m in
    rw q (get_or-set_same l a v 0 h ∙ sym (get_or-set_same l' a v 0 (omega arith))))
    (λ m.
    let h = ltb-false a (length l) m in
    rw (q, set_out l a v h, set_out l' a v (omega arith)) (get_or-eq_default l 0 h ∙ sym (get_or-eq_default l' 0 (omega arith))))
    (cases (ltb a (length l))))
    (λ e.
    let q = eqb-false i a e in
    get_or-set_other l a i v 0 q ∙ k q ∙ sym (get_or-set_other l' a i v 0 q))
    (cases (eqb i a))

pub pair_alike : (log log' : List ℕ) (n e x i : ℕ) → length log ≡ length log' → ((j : ℕ) → j < 2 * n → get_or log j 0 ≡ get_or log' j 0) → i < 2 * (n + 1)
    → get_or (with_pair log n e x) i 0 ≡ get_or (with_pair log' n e x) i 0
pair_alike log log' n e x i l h m =
    set_alike (set log (2 * n) e) (set log' (2 * n) e) (2 * n + 1) i x (simp length-set l)
    (λ p. set_alike log log' (2 * n) i e l (λ q. h i (omega arith)))

-- one more pair in both logs, whatever happens to registers, pc and readings
logs_alike : (lay : Layout) (s : State) (mem log regs : List ℕ) (pc used e x : ℕ) → LowEqualState lay s (besides s mem log)
    → LowEqualState lay (state_of regs pc s.status s.mem (with_pair s.log s.pairs e x) (s.pairs + 1) used)
    (state_of regs pc s.status mem (with_pair log s.pairs e x) (s.pairs + 1) used)
logs_alike lay s mem log regs pc used e x t =
    record {
      same = refl;
      low_equal = t.low_equal;
      size = t.size;
      long = simp length-set t.long;
      logged = λ i h. pair_alike s.log log s.pairs e x i t.long t.logged h;
    }

-- the same effect keeps two states low-equivalent
pub apply_alike : (lay : Layout) (rd : List ℕ) (e : Effect) (s : State) (mem log : List ℕ) → LowEqualState lay s (besides s mem log)
    → LowEqualState lay (apply_of lay.ceilings rd e s) (apply_of lay.ceilings rd e (besides s mem log))
unfolding apply_of
apply_alike lay rd (Go to) s mem log t = record { same = refl; low_equal = t.low_equal; size = t.size; long = t.long; logged = t.logged }
apply_alike lay rd (SetReg d x) s mem log t = record { same = refl; low_equal = t.low_equal; size = t.size; long = t.long; logged = t.logged }
apply_alike lay rd (SetCell i x) s mem log t =
    record {
      same = refl;
      low_equal = λ j h. set_alike s.mem mem i j x t.size (λ q. t.low_equal j h);
      size = simp length-set t.size;
      long = t.long;
      logged = t.logged;
    }
apply_alike lay rd (Order v) s mem log t = logs_alike lay s mem log _ _ _ v _ t
apply_alike lay rd (Probe v) s mem log t = logs_alike lay s mem log _ _ _ v _ t
apply_alike lay rd (End u) s mem log t = record { same = refl; low_equal = t.low_equal; size = t.size; long = t.long; logged = t.logged }
apply_alike lay rd (Wait e) s mem log t = t

-- ---- a command reads only cells that are not free
abbrev Safe : Layout → Command → List ℕ → List ℕ → Type 0
Safe lay Nop regs mem = Unit {0}
Safe lay Halt regs mem = Unit {0}
Safe lay (Plain k d a b v) regs mem = Unit {0}
Safe lay (Load d a) regs mem = in_box lay (get_or regs a 0) ≡ true
Safe lay (Store a b) regs mem = Unit {0}
Safe lay (GoIf a b c v) regs mem = Unit {0}
Safe lay (GoReg d a b c) regs mem = Unit {0}
Safe lay (Look d v) regs mem = events * get_or mem lay.cell 0 + v < events * lay.states
Safe lay (StopIf d) regs mem = Unit {0}
Safe lay (Keep d) regs mem = Unit {0}
Safe lay (Event v) regs mem = Unit {0}
Safe lay Invalid regs mem = Unit {0}

-- landings are looked up in the landing cells only
lands_alike : (lay : Layout) (mem mem' : List ℕ) (to : ℕ) → LowEqual lay mem mem' → is_landing mem' lay.base lay.landings to ≡ is_landing mem lay.base lay.landings to
unfolding is_landing
lands_alike lay mem mem' to m = by (leb lay.base to && eqb ((to - lay.base) % bundle_length) 0) _ refl
  where
    j : ℕ
    j = (to - lay.base) / bundle_length

    by : (p t : Bool) → ltb j most_bundles ≡ t → (p && t && marked mem' lay.landings j) ≡ (p && t && marked mem lay.landings j)
    by true true e =
        let l = ltb-true j most_bundles e in
        marked_same mem' mem lay.landings j (sym (m (lay.landings + j / cell_bits) (lent_landing lay (j / cell_bits) (omega arith))))
    by true false e = refl
    by false t e = refl

effect_alike : (lay : Layout) (c : Command) (regs mem mem' : List ℕ) (pc free left : ℕ) → length mem ≡ length mem' → LowEqual lay mem mem'
    → Safe lay c regs mem → effect_of c (view_of regs pc mem' lay.cell lay.table lay.base lay.landings free left)
    ≡ effect_of c (view_of regs pc mem lay.cell lay.table lay.base lay.landings free left)
unfolding effect_of
effect_alike lay Nop regs mem mem' pc free left n m f = refl
effect_alike lay Halt regs mem mem' pc free left n m f = refl
effect_alike lay (Plain k d a b v) regs mem mem' pc free left n m f = refl
effect_alike lay (Load d a) regs mem mem' pc free left n m f = rw (← n, ← m (get_or regs a 0) (lent_box lay _ f))
effect_alike lay (Store a b) regs mem mem' pc free left n m f = rw (← n)
effect_alike lay (GoIf a b c v) regs mem mem' pc free left n m f = refl
effect_alike lay (GoReg d a b c) regs mem mem' pc free left n m f = rw (lands_alike lay mem mem' (get_or regs d 0) m)
effect_alike lay (Look d v) regs mem mem' pc free left n m f =
    let q = get_or mem lay.cell 0 in
    let z : lay.table + (events * q + v) ≡ lay.table + events * q + v = omega arith in
    let e : get_or mem (lay.table + events * q + v) 0 ≡ get_or mem' (lay.table + events * q + v) 0 = rw z at (m _ (lent_table lay (events * q + v) f)) in
    rw (← n, ← m lay.cell (lent_cell lay), ← e)
effect_alike lay (StopIf d) regs mem mem' pc free left n m f = refl
effect_alike lay (Keep d) regs mem mem' pc free left n m f = rw (← n)
effect_alike lay (Event v) regs mem mem' pc free left n m f = refl
effect_alike lay Invalid regs mem mem' pc free left n m f = refl

next_alike : (lay : Layout) (ws rd : List ℕ) (s : State) (mem log : List ℕ) → LowEqualState lay s (besides s mem log)
    → Safe lay (fetch_of ws lay.base s.pc) s.regs s.mem → next_of lay ws rd (besides s mem log) ≡ next_of lay ws rd s
next_alike lay ws rd s mem log t f =
    rw (← t.long) (effect_alike lay (fetch_of ws lay.base s.pc) s.regs s.mem mem s.pc _ _ t.size t.low_equal f)

-- ---- runs
pub pairs_alike : (log log' : List ℕ) (k : ℕ) → ((i : ℕ) → i < 2 * k → get_or log i 0 ≡ get_or log' i 0) → pairs_of log k ≡ pairs_of log' k
pairs_alike log log' zero h = refl
pairs_alike log log' (suc k) h =
    let a = h (2 * k) (omega arith) in
    let b = h (2 * k + 1) (omega arith) in
    let r = pairs_alike log log' k (λ i m. h i (omega arith)) in
    cc

-- any loop whose next action and result are the same for low-equivalent states; `In` holds of the first state
module _ {R : Type 0} (a : Loop ℕ R) (lay : Layout) (In : State → Type 0)
    (one : (s : State) (k : ℕ) → a.tick s k ≡ k + 1)
    (next : (s : State) (mem log : List ℕ) → In s → s.status ≡ Running → LowEqualState lay s (besides s mem log) → a.next (besides s mem log) ≡ a.next s)
    (acts : (s : State) (mem log : List ℕ) → In s → s.status ≡ Running → LowEqualState lay s (besides s mem log) → LowEqualState lay (step_in a s) (a.act (a.next s) (besides s mem log)))
    (step : (s : State) → In s → s.status ≡ Running → Goes (a.next s) → In (step_in a s)) where
  pub loop_alike : (Q : R → R → Type 0) → ((e : Ending) (k : ℕ) (s : State) (mem log : List ℕ) → LowEqualState lay s (besides s mem log) → Q (a.ends e k s) (a.ends e k (besides s mem log)))
      → (n k : ℕ) (s : State) (mem log : List ℕ) → In s → LowEqualState lay s (besides s mem log) → Q (a.from n k s) (a.from n k (besides s mem log))
  loop_alike Q ends n k s mem log i w =
      alikes a (λ s t. In s × LowEqualState lay s t) Q (λ s t x. ap (λ (y : State). y.status) x.1.same) same_next
      (λ s t x r g. (
        step s x.0 r g,
        subst (LowEqualState lay (step_in a s)) (ap (λ (e : Effect). a.act e (paired s t)) (sym (same_next s t x r))
            ∙ ap (a.act (a.next t)) (sym x.1.same)) (acts s t.mem t.log x.0 r (besides_low_equal s t x.1)),
      ))
      (λ k s t x. one t k ∙ sym (one s k))
      (λ e k s t x. subst (λ (y : State). Q (a.ends e k s) (a.ends e k y)) (sym x.1.same) (ends e k s t.mem t.log (besides_low_equal s t x.1))) n k s (besides s mem log) (i, w)
    where
      paired : State → State → State
      paired s t = besides s t.mem t.log

      besides_low_equal : (s t : State) → LowEqualState lay s t → LowEqualState lay s (besides s t.mem t.log)
      besides_low_equal s t w = subst (LowEqualState lay s) w.same w

      same_next : (s t : State) → In s × LowEqualState lay s t → s.status ≡ Running → a.next t ≡ a.next s
      same_next s t x r = ap a.next x.1.same ∙ next s t.mem t.log x.0 r (besides_low_equal s t x.1)

-- two results with the same outcome and pairs, and low-equivalent memories
pub record SameResults {O : Type 0} (lay : Layout) (pairs : O → ℕ) (r r' : RunResultWith O) : Type 0 where
  pub outcome : r.outcome ≡ r'.outcome
  pub logged : pairs_of r.log (pairs r.outcome) ≡ pairs_of r'.log (pairs r'.outcome)
  pub low_equal : LowEqual lay r.mem r'.mem

-- two runs with the same inputs start low-equivalent
pub starts_alike : (lay : Layout) (regs : List ℕ) (pc : ℕ) (t : Status) (mem mem' : List ℕ) (g g' : RunInput) → length g.memory ≡ lay.size
    → SameInputs g g' → MemoryPreserved lay mem g → MemoryPreserved lay mem' g' → LowEqual lay mem mem'
    → LowEqualState lay (state_of regs pc t g.memory g.log 0 0) (state_of regs pc t g'.memory g'.log 0 0)
starts_alike lay regs pc t mem mem' g g' l a lent lent' m =
    record {
      same = refl;
      low_equal = λ i h. lent l i h ∙ m i h ∙ sym (lent' (sym a.memory ∙ l) i h);
      size = a.memory;
      long = a.log;
      logged = λ i m. absurd (omega arith);
    }

-- two runs that do the same and leave the same record and low-equivalent memories
pub record SameAfter {M O : Type 0} (lay : Layout) (m m' : M) (r r' : Run O) : Type 0 where
  pub outcome : r.result.outcome ≡ r'.result.outcome
  pub logged : pairs_of r.result.log r.pairs ≡ pairs_of r'.result.log r'.pairs
  pub from : m ≡ m'
  pub low_equal : LowEqual lay r.memory r'.memory

-- lists of such runs; `Out` holds of the first list between two runs
module _ {C M O : Type 0} (lay : Layout) (of : C → M) (memory : C → List ℕ) (run : C → RunInput → Run O) (on : C → RunInput → C) (Out : C → Type 0)
    (left : (c : C) (g : RunInput) → (run c g).memory ≡ memory (on c g))
    (stays : (c : C) (g : RunInput) → MemoryPreserved lay (memory c) g → Out c → Out (on c g))
    (each : (c c' : C) (g g' : RunInput) → SameInputs g g' → MemoryPreserved lay (memory c) g → MemoryPreserved lay (memory c') g' → Out c → of c ≡ of c'
    → LowEqual lay (memory c) (memory c') → SameAfter lay (of (on c g)) (of (on c' g')) (run c g) (run c' g')) where
  pub runs_alike : (c c' : C) (gs gs' : List RunInput) → Pairwise SameInputs gs gs' → AllPreserved on lay memory c gs → AllPreserved on lay memory c' gs'
      → Out c → of c ≡ of c' → LowEqual lay (memory c) (memory c') → Pairwise (SameObservations lay) (each_run run on c gs) (each_run run on c' gs')
  unfolding each_run
  runs_alike c c' [] [] a l l' w e m = tt
  runs_alike c c' [] (g' ∷ gs') a l l' w e m = absurd a
  runs_alike c c' (g ∷ gs) [] a l l' w e m = absurd a
  runs_alike c c' (g ∷ gs) (g' ∷ gs') a l l' w e m =
      let o = each c c' g g' a.0 l.0 l'.0 w e m in (
        record {
          outcome = o.outcome;
          logged = o.logged;
          cell = o.low_equal _ (lent_cell lay);
          box = λ i h. o.low_equal i (lent_box lay i h);
        },
        runs_alike (on c g) (on c' g') gs gs' a.1 l.1 l'.1 (stays c g l.0 w) o.from (rw (← left c g, ← left c' g') o.low_equal),
      )

-- the invariants of a list of runs: `In` within a run with readings rd, `Out` between two
record Invariant (lay : Layout) (ws : List ℕ) (In : List ℕ → State → Type 0) (Out : Session → Type 0) : Type 0 where
  safe : (rd : List ℕ) (s : State) → In rd s → s.status ≡ Running → Safe lay (fetch_of ws lay.base s.pc) s.regs s.mem
  step : (rd : List ℕ) (s : State) → In rd s → s.status ≡ Running → ((d : Ending) → next_of lay ws rd s ≡ Wait d → ⊥) → In rd (step_of lay ws rd s)
  enter : (c : Session) (g : RunInput) → length g.memory ≡ lay.size → MemoryPreserved lay c.memory g → Out c → In g.readings (start_of c.machine g.memory g.log)
  leave : (c : Session) (g : RunInput) → MemoryPreserved lay c.memory g → Out c → Out (after_run lay ws c g)

abbrev pairs_in : Outcome → ℕ
pairs_in o = o.answer.pairs

module _ (lay : Layout) (ws : List ℕ) (In : List ℕ → State → Type 0) (Out : Session → Type 0) (known : Invariant lay ws In Out) where
  run_alike : (rd : List ℕ) (n k : ℕ) (s : State) (mem log : List ℕ) → In rd s → LowEqualState lay s (besides s mem log)
      → SameResults lay pairs_in (run_from lay ws rd n k s) (run_from lay ws rd n k (besides s mem log))
  run_alike rd n k s mem log w t =
      loop_alike (machine_loop lay ws rd) lay (In rd) (λ s k. refl) (λ s mem log i r w. next_alike lay ws rd s mem log w (known.safe rd s i r))
      (λ s mem log i r w. apply_alike lay rd (next_of lay ws rd s) s mem log w) (known.step rd) (SameResults lay pairs_in)
      (λ e k s mem log w. record { outcome = refl; logged = pairs_alike s.log log s.pairs w.logged; low_equal = w.low_equal }) n k s mem log w t

  session_alike : (c c' : Session) (g g' : RunInput) (b : Bool) → fits lay g.memory ≡ b → SameInputs g g' → MemoryPreserved lay c.memory g
      → MemoryPreserved lay c'.memory g' → Out c → c.machine ≡ c'.machine → LowEqual lay c.memory c'.memory
      → SameAfter lay (after_run lay ws c g).machine (after_run lay ws c' g').machine (run_as lay ws c g) (run_as lay ws c' g')
  unfolding run_on run_of after_run after_taken
  session_alike c c' g g' true f a lent lent' w e m =
      let f' : fits lay g'.memory ≡ true = rw (← a.memory) f in
      let l = eqb-true _ _ (both (right_layout lay) (eqb (length g.memory) lay.size) f).1 in
      let r = run_alike g.readings g.budget 0 (start_of c.machine g.memory g.log) g'.memory g'.log (known.enter c g l lent w)
      (starts_alike lay _ _ _ c.memory c'.memory g g' l a lent lent' m) in
      rw (f, f', ← a.readings, ← a.budget, ← e) (record { outcome = r.outcome; logged = r.logged; from = ap (λ (o : Outcome). o.machine) r.outcome; low_equal = r.low_equal })
  session_alike c c' g g' false f a lent lent' w e m =
      let f' : fits lay g'.memory ≡ false = rw (← a.memory) f in
      rw (f, f', ← e) (record { outcome = refl; logged = refl; from = refl; low_equal = m })

-- ---- the simulation shows that the first list reads no free cell
start_safe : (lay : Layout) (n : ℕ) (regs mem : List ℕ) (i : Instr) → Valid n i → get_or mem lay.cell 0 < lay.states → Safe lay (shape_of lay n i 0) regs mem
unfolding shape_of
start_safe lay n regs mem HALT v l = tt
start_safe lay n regs mem (PLAIN k d a b x) v l = tt
start_safe lay n regs mem (LOAD d a) v l = tt
start_safe lay n regs mem (STORE a b) v l = tt
start_safe lay n regs mem (GOIF a b c x) v l = tt
start_safe lay n regs mem (GOX d a b c) v l = tt
start_safe lay n regs mem (EVENT e) v l = omega arith

mid_safe : (lay : Layout) (pol : Policy) (n : ℕ) (regs mem : List ℕ) (g : Guest) (h k b : ℕ) (i : Instr) (p : ℕ) → Right lay pol n → Valid n i
    → g.state < lay.states → MidBundle lay pol n g h k b (get_or regs hidden 0) (get_or mem lay.cell 0) i p → Safe lay (shape_of lay n i p) regs mem
unfolding shape_of
mid_safe lay pol n regs mem g h k b i p ok v l (start here) = start_safe lay n regs mem i v (rw here.cell l)
mid_safe lay pol n regs mem g h k b i p ok v l (rest low nop lt here) = rw (nop p (omega arith)) tt
mid_safe lay pol n regs mem g h k b i p ok v l (load1 here e) = tt
mid_safe lay pol n regs mem g h k b i p ok v l (load2 {a = x} here e) = ap (in_box lay) e ∙ ok.ready.mask (guest_reg g x)
mid_safe lay pol n regs mem g h k b i p ok v l (store1 here e) = tt
mid_safe lay pol n regs mem g h k b i p ok v l (store2 here e) = tt
mid_safe lay pol n regs mem g h k b i p ok v l (gox1 here e) = tt
mid_safe lay pol n regs mem g h k b i p ok v l (gox2 here e) = tt
mid_safe lay pol n regs mem g h k b i p ok v l (gox3 here e) = tt
mid_safe lay pol n regs mem g h k b i p ok v l (event1 here e) = tt
mid_safe lay pol n regs mem g h k b i p ok v l (event2 here e some) = tt
mid_safe lay pol n regs mem g h k b i p ok v l (event3 es lt at bk e er q) = tt

sim_safe : (lay : Layout) (pol : Policy) (ws : List ℕ) (n : ℕ) (is : ℕ → Instr) (s : State) (g : Guest) (k b : ℕ) → Right lay pol n → Bundled lay ws n is
    → g.state < lay.states → s.status ≡ Running → InBundle lay pol n is g k b s → Safe lay (fetch_of ws lay.base s.pc) s.regs s.mem
sim_safe lay pol ws n is s g k b ok bs l run (over f st h p lh lp si pc q bk) = absurd (f.0 (sym st ∙ run))
sim_safe lay pol ws n is s g k b ok bs l run (live gg st h p lh lp pc m) =
    let e : fetch_of ws lay.base s.pc ≡ shape_of lay n (is h) p = ap (fetch_of ws lay.base) pc ∙ bs.each h p lh lp in
    rw e (mid_safe lay pol n s.regs s.mem g h k b (is h) p ok (bs.valid h lh) l m)

-- within a run: the simulation holds after some earlier runs
record Within (lay : Layout) (pol : Policy) (n : ℕ) (is : ℕ → Instr) (g0 : Guest) (rd : List ℕ) (s : State) : Type 0 where
  past : List Pair
  before : List ℕ
  begun : ℕ
  known : RunInvariant lay pol n is past before rd g0 begun s

invariant-after : (lay : Layout) (pol : Policy) (ws : List ℕ) (n : ℕ) (is : ℕ → Instr) (g0 : Guest) → Right lay pol n → Bundled lay ws n is
    → Invariant lay ws (Within lay pol n is g0) (SessionInvariant lay pol n is g0)
invariant-after lay pol ws n is g0 ok bs =
    record {
      safe =
          λ rd s w run.
          let t = sim_invariant lay pol ws n is ok bs w.past w.before rd g0 w.begun s w.known in
          sim_safe lay pol ws n is s _ t.0 w.begun ok bs t.1.agree.events.below run t.1.sim;
      step =
          λ rd s w run go.
          record { past = w.past; before = w.before; begun = w.begun + begins lay s.pc; known = step_known lay pol ws n is ok bs w.past w.before rd g0 w.begun s w.known run go };
      enter = λ c g l lent w. record { past = c.records; before = c.consumed; begun = c.begun; known = enter lay pol ws n is ok bs g0 c g l lent w };
      leave = λ c g lent w. stays_run lay pol ws n is ok bs g0 c g _ refl lent w;
    }

pub noninterference : (lay : Layout) (pol : Policy) (ws mem : List ℕ) (gs : List RunInput) (n : ℕ) (is : ℕ → Instr) → Right lay pol n → Bundled lay ws n is
    → SessionInvariant lay pol n is (guest_start lay pol (install_memory lay pol mem)) (initial_session lay pol mem) → HostPremise lay pol ws mem gs
    → (pol' : Policy) (mem' : List ℕ) (gs' : List RunInput) → HostPremise lay pol' ws mem' gs'
    → LowEqual lay (install_memory lay pol mem) (install_memory lay pol' mem') → Pairwise SameInputs gs gs'
    → Pairwise (SameObservations lay) (all_runs lay pol ws mem gs) (all_runs lay pol' ws mem' gs')
noninterference lay pol ws mem gs n is ok bs w v pol' mem' gs' v' m a =
    let g0 = guest_start lay pol (install_memory lay pol mem) in
    let k = invariant-after lay pol ws n is g0 ok bs in
    runs_alike lay (λ c. c.machine) (λ c. c.memory) (run_as lay ws) (after_run lay ws) (SessionInvariant lay pol n is g0) (λ c g. refl) k.leave
    (λ c c' g g'. session_alike lay ws (Within lay pol n is g0) (SessionInvariant lay pol n is g0) k c c' g g' _ refl) (initial_session lay pol mem)
    (initial_session lay pol' mem') gs gs' a v.preserved v'.preserved w
    (machine_of_lem lay pol mem v.installed ∙ sym (machine_of_lem lay pol' mem' v'.installed)) m
