-- The raw run of a well-behaved routine follows the guest rule, instruction by instruction.
use Prim.Native.Nat.{ℕ, zero, suc, ◌+◌, ◌-◌, ◌%◌, ◌<◌}
use mathlib.Core.Path.{◌≡◌, refl, sym, ◌∙◌, ap, subst}
use mathlib.Core.Bool.{Bool, true, false, cond}
use mathlib.Core.List.{List}
use native.Mathlib.Omega.{arith}
use native.Mathlib.Nat.{mod-eq_of_lt}
use borrow.Author.Tests.{ne_eqb}
use lib.Dec.{ltb}
use lib.ListN.{length, get_or, set, length-set}
use Rattle.types.specs.declared.Layout.{Layout}
use Rattle.types.specs.declared.Status.{Status}
use Rattle.types.specs.declared.Status.TheVariants.{Running, Ended, Stopped, Faulted, Strayed}
use Rattle.types.specs.declared.Instr.{Instr}
use Rattle.types.specs.declared.Instr.TheVariants.{HALT, PLAIN, LOAD, STORE, GOIF, GOX, EVENT}
use Rattle.types.specs.Names.{orders, no_arrow}
use Rattle.spec.specs.Layouts.{mask_of, limited, in_box}
use Rattle.spec.specs.Policies.{Policy, arrow, state_over}
use Rattle.spec.specs.Landings.{listed}
use Rattle.spec.specs.Commands.{plain_of, holds_of}
use Rattle.spec.specs.Machines.{unless_over}
use Rattle.spec.specs.Guests.{Pair, pair_of, snoc, Guest, guest_reg, box_index, guest_at, exec_jump, exec_event, exec_instr, guest_step, guest_after}
use Rattle.spec.specs.Runs.{events_of}
use Rattle.spec.proofs.Simulation.{box_alike, events_snoc, state_more}
use Rattle.transparency.specs.Raw.{Raw, raw_reg, raw_goto, raw_event, raw_exec, raw_step, raw_after, Behaves, BehavesFor}

-- the raw run and the guest agree
pub record RawSimulates (lay : Layout) (pol : Policy) (g : Guest) (r : Raw) : Type 0 where
  pub regs : r.regs ≡ g.regs
  pub at : r.at ≡ g.at
  pub cells : length g.box + lay.low ≡ lay.high + 1
  pub room : lay.high < length r.mem
  pub box : (i : ℕ) → in_box lay i ≡ true → get_or r.mem i 0 ≡ get_or g.box (i - lay.low) 0
  pub records : r.records ≡ g.records
  pub used : r.used ≡ g.used
  pub status : r.status ≡ g.status
  pub state : state_over pol (events_of g.records) ≡ g.state

module _ (lay : Layout) (pol : Policy) (N : ℕ) (fixed : (x : ℕ) → in_box lay x ≡ true → mask_of lay.low lay.high x ≡ x) (reads : List ℕ) where
  -- they still agree with the same new registers and next instruction
  on : (g : Guest) (r : Raw) (rs rs' : List ℕ) (at at' : ℕ) → RawSimulates lay pol g r → rs' ≡ rs → at' ≡ at → RawSimulates lay pol (guest_at g rs g.box at) (raw_goto r rs' r.mem at')
  on g r rs rs' at at' l e f =
      record { regs = e; at = f; cells = l.cells; room = l.room; box = l.box; records = l.records; used = l.used; status = refl; state = l.state }

  reg : (g : Guest) (r : Raw) (i : ℕ) → RawSimulates lay pol g r → raw_reg r i ≡ guest_reg g i
  reg g r i l = ap (λ (x : List ℕ). get_or x i 0) l.regs

  further : (g : Guest) (r : Raw) → RawSimulates lay pol g r → r.at + 1 ≡ g.at + 1
  further g r l = ap (λ (x : ℕ). x + 1) l.at

  -- the policy's state after one more event
  moved : (g : Guest) (e x : ℕ) → state_over pol (events_of g.records) ≡ g.state → state_over pol (events_of (snoc g.records (pair_of e x))) ≡ arrow pol g.state e
  moved g e x s = ap (state_over pol) (events_snoc g.records (pair_of e x)) ∙ state_more pol (events_of g.records) g.state e s

  sent : (g : Guest) (r : Raw) (e : ℕ) (t : Bool) → ltb e orders ≡ t → RawSimulates lay pol g r → RawSimulates lay pol (exec_event lay pol reads e g) (raw_event lay reads e r)
  unfolding exec_event raw_event
  sent g r e true t l =
      rw t
      (record {
        regs = l.regs;
        at = further g r l;
        cells = l.cells;
        room = l.room;
        box = l.box;
        records =
            ap (λ (x : ℕ). snoc r.records (pair_of e (limited lay.ceilings e x))) (reg g r 0 l)
            ∙ ap (λ (x : List Pair). snoc x (pair_of e (limited lay.ceilings e (guest_reg g 0)))) l.records;
        used = l.used;
        status = refl;
        state = moved g e _ l.state;
      })
  sent g r e false t l =
      let z : get_or reads r.used 0 ≡ get_or reads g.used 0 = ap (λ (i : ℕ). get_or reads i 0) l.used in
      rw t
      (record {
        regs = ap (λ (x : ℕ). set r.regs 0 x) z ∙ ap (λ (x : List ℕ). set x 0 (get_or reads g.used 0)) l.regs;
        at = further g r l;
        cells = l.cells;
        room = l.room;
        box = l.box;
        records = ap (λ (x : ℕ). snoc r.records (pair_of e x)) z ∙ ap (λ (x : List Pair). snoc x (pair_of e (get_or reads g.used 0))) l.records;
        used = ap (λ (x : ℕ). x + 1) l.used;
        status = refl;
        state = moved g e _ l.state;
      })

  jumps : (g : Guest) (r : Raw) (d : ℕ) (t : Bool) → RawSimulates lay pol g r → (t ≡ true → (raw_reg r d < N) × (listed pol.landings (raw_reg r d) ≡ true))
      → RawSimulates lay pol (cond t (exec_jump pol (guest_reg g d % N) g) (guest_at g g.regs g.box (g.at + 1))) (raw_goto r r.regs r.mem (cond t (raw_reg r d) (r.at + 1)))
  jumps g r d true l h =
      let z = h refl in
      let y = reg g r d l in
      let m : guest_reg g d % N ≡ guest_reg g d = mod-eq_of_lt (rw y at z.0) in
      rw (m, rw y at z.1) (on g r _ _ _ _ l l.regs y)
  jumps g r d false l h = on g r _ _ _ _ l l.regs (further g r l)

  exec_raw : (i : Instr) (g : Guest) (r : Raw) → Behaves lay pol N i r → RawSimulates lay pol g r → RawSimulates lay pol (exec_instr lay pol N reads i g) (raw_exec lay reads i r)
  unfolding exec_instr raw_exec
  exec_raw HALT g r h l =
      record { regs = l.regs; at = l.at; cells = l.cells; room = l.room; box = l.box; records = l.records; used = l.used; status = refl; state = l.state }
  exec_raw (PLAIN k d a b v) g r h l =
      on g r _ _ _ _ l (ap (λ (x : List ℕ). set x d (plain_of (k + 1) (get_or x a 0) (get_or x b 0) v)) l.regs) (further g r l)
  exec_raw (LOAD d a) g r h l =
      let y = reg g r a l in
      let inside : in_box lay (raw_reg r a) ≡ true = h in
      let b : in_box lay (guest_reg g a) ≡ true = rw y at inside in
      let v : get_or r.mem (raw_reg r a) 0 ≡ get_or g.box (box_index lay (guest_reg g a)) 0 = rw (y, fixed (guest_reg g a) b) (l.box (guest_reg g a) b) in
      on g r _ _ _ _ l (ap (λ (x : List ℕ). set x d (get_or r.mem (raw_reg r a) 0)) l.regs ∙ ap (λ (x : ℕ). set g.regs d x) v) (further g r l)
  exec_raw (STORE a b) g r h l =
      let y = reg g r a l in
      let x = guest_reg g a in
      let inside : in_box lay (raw_reg r a) ≡ true = h in
      let m : in_box lay x ≡ true = rw y at inside in
      let w = reg g r b l in
      rw (y, w, fixed x m)
      (record {
        regs = l.regs;
        at = further g r l;
        cells = simp length-set l.cells;
        room = simp length-set l.room;
        box = box_alike lay r.mem g.box x (guest_reg g b) (guest_reg g b) m refl l.room l.cells l.box;
        records = l.records;
        used = l.used;
        status = refl;
        state = l.state;
      })
  exec_raw (GOIF a b c v) g r h l =
      let t : holds_of c (raw_reg r a) (raw_reg r b) ≡ holds_of c (guest_reg g a) (guest_reg g b) = ap (λ (x : List ℕ). holds_of c (get_or x a 0) (get_or x b 0)) l.regs in
      rw t (on g r _ _ _ _ l l.regs (ap (λ (x : ℕ). cond (holds_of c (guest_reg g a) (guest_reg g b)) v (x + 1)) l.at))
  exec_raw (GOX d a b c) g r h l =
      let t : holds_of c (raw_reg r a) (raw_reg r b) ≡ holds_of c (guest_reg g a) (guest_reg g b) = ap (λ (x : List ℕ). holds_of c (get_or x a 0) (get_or x b 0)) l.regs in
      rw t (jumps g r d (holds_of c (guest_reg g a) (guest_reg g b)) l (λ e. h (t ∙ e)))
  exec_raw (EVENT e) g r h l =
      let some : arrow pol (state_over pol (events_of r.records)) e ≡ no_arrow → ⊥ = h in
      let s : arrow pol g.state e ≡ no_arrow → ⊥ = λ z. some (ap (λ (x : List Pair). arrow pol (state_over pol (events_of x)) e) l.records ∙ ap (λ (x : ℕ). arrow pol x e) l.state ∙ z) in
      rw (ne_eqb (arrow pol g.state e) no_arrow s) (sent g r e _ refl l)

  by_status : (t : Status) (x g : Guest) (y r : Raw) → (t ≡ Running → RawSimulates lay pol x y) → RawSimulates lay pol g r → RawSimulates lay pol (unless_over t g x) (unless_over t r y)
  by_status Running x g y r a b = a refl
  by_status Ended x g y r a b = b
  by_status Stopped x g y r a b = b
  by_status Faulted x g y r a b = b
  by_status Strayed x g y r a b = b

  step_like : (is : ℕ → Instr) (g : Guest) (r : Raw) → (r.status ≡ Running → Behaves lay pol N (is r.at) r) → RawSimulates lay pol g r
      → RawSimulates lay pol (guest_step lay pol N is reads g) (raw_step lay is reads r)
  unfolding guest_step raw_step
  step_like is g r h l =
      let e = ap is l.at in
      subst (λ (c : Status). RawSimulates lay pol (unless_over g.status g (exec_instr lay pol N reads (is g.at) g)) (unless_over c r (raw_exec lay reads (is r.at) r))) (sym l.status)
      (by_status g.status _ g _ r (λ t. rw e (exec_raw (is g.at) g r (rw e at (h (l.status ∙ t))) l)) l)

  pub after_like : (is : ℕ → Instr) (g : Guest) (r : Raw) (k : ℕ) → BehavesFor lay pol N is reads r k → RawSimulates lay pol g r
      → RawSimulates lay pol (guest_after lay pol N is reads g k) (raw_after lay is reads r k)
  unfolding guest_after raw_after
  after_like is g r zero h l = l
  after_like is g r (suc k) h l = step_like is _ _ (h k (omega arith)) (after_like is g r k (λ j m. h j (omega arith)) l)
