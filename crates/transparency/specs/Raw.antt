-- A raw run of a routine: no masks, no landings and no policy. Also defines when a routine behaves well.
use Rattle.std.specs.Prelude.{ℕ, zero, suc, ◌+◌, ◌<◌, ◌≡◌, true, cond, List, [], get_or, set, replicate, ltb}
use Rattle.types.specs.declared.Layout.{Layout}
use Rattle.types.specs.declared.Status.{Status}
use Rattle.types.specs.declared.Status.TheVariants.{Running, Ended}
use Rattle.types.specs.declared.Instr.{Instr}
use Rattle.types.specs.declared.Instr.TheVariants.{HALT, PLAIN, LOAD, STORE, GOIF, GOX, EVENT}
use Rattle.types.specs.Names.{guest_registers, orders, no_arrow, plain_step}
use Rattle.spec.specs.Layouts.{limited, in_box}
use Rattle.spec.specs.Policies.{Policy, arrow, state_over}
use Rattle.spec.specs.Landings.{listed}
use Rattle.spec.specs.Words.{routine}
use Rattle.spec.specs.Commands.{plain_of, holds_of}
use Rattle.spec.specs.Machines.{unless_over}
use Rattle.spec.specs.Guests.{Pair, pair_of, snoc}
use Rattle.spec.specs.Runs.{events_of}

-- ---- the raw run

-- the raw run's state: guest registers, next instruction, its own memory, recorded pairs, how many readings are used, status
pub record Raw : Type 0 where
  pub regs : List ℕ
  pub at : ℕ
  pub mem : List ℕ
  pub records : List Pair
  pub used : ℕ
  pub status : Status

abbrev pub raw_of : List ℕ → ℕ → List ℕ → List Pair → ℕ → Status → Raw
raw_of regs at mem rec u t = record { regs = regs; at = at; mem = mem; records = rec; used = u; status = t }

abbrev pub raw_reg : Raw → ℕ → ℕ
raw_reg r i = get_or r.regs i 0

-- the raw run at another instruction, with these registers and memory
abbrev pub raw_goto : Raw → List ℕ → List ℕ → ℕ → Raw
raw_goto r regs mem at = raw_of regs at mem r.records r.used Running

-- an event, always allowed: 'Ceilings apply to both'
unfoldable pub raw_event : Layout → List ℕ → ℕ → Raw → Raw
raw_event lay reads e r =
    cond (ltb e orders)
    (raw_of r.regs (r.at + 1) r.mem (snoc r.records (pair_of e (limited lay.ceilings e (raw_reg r 0)))) r.used Running)
    (raw_of (set r.regs 0 (get_or reads r.used 0)) (r.at + 1) r.mem (snoc r.records (pair_of e (get_or reads r.used 0))) (r.used + 1) Running)

-- what each instruction does, 'with raw addresses and raw jump targets and no policy'
unfoldable pub raw_exec : Layout → List ℕ → Instr → Raw → Raw
raw_exec lay reads HALT r = raw_of r.regs r.at r.mem r.records r.used Ended
raw_exec lay reads (PLAIN k d a b v) r = raw_goto r (set r.regs d (plain_of (k + plain_step) (raw_reg r a) (raw_reg r b) v)) r.mem (r.at + 1)
raw_exec lay reads (LOAD d a) r = raw_goto r (set r.regs d (get_or r.mem (raw_reg r a) 0)) r.mem (r.at + 1)
raw_exec lay reads (STORE a b) r = raw_goto r r.regs (set r.mem (raw_reg r a) (raw_reg r b)) (r.at + 1)
raw_exec lay reads (GOIF a b c v) r = raw_goto r r.regs r.mem (cond (holds_of c (raw_reg r a) (raw_reg r b)) v (r.at + 1))
raw_exec lay reads (GOX d a b c) r = raw_goto r r.regs r.mem (cond (holds_of c (raw_reg r a) (raw_reg r b)) (raw_reg r d) (r.at + 1))
raw_exec lay reads (EVENT e) r = raw_event lay reads e r

-- the raw run after one instruction of `is`, and after k
unfoldable pub raw_step : Layout → (ℕ → Instr) → List ℕ → Raw → Raw
raw_step lay is reads r = unless_over r.status r (raw_exec lay reads (is r.at) r)

unfoldable pub raw_after : Layout → (ℕ → Instr) → List ℕ → Raw → ℕ → Raw
raw_after lay is reads r zero = r
raw_after lay is reads r (suc k) = raw_step lay is reads (raw_after lay is reads r k)

-- the start: instruction 0, registers 0, and its own memory
abbrev pub raw_start : List ℕ → Raw
raw_start mem = raw_of (replicate guest_registers 0) 0 mem [] 0 Running

-- the raw run of a routine after k instructions
abbrev pub raw_run : Layout → List ℕ → List ℕ → List ℕ → ℕ → Raw
raw_run lay code raw reads k = raw_after lay (routine code) reads (raw_start raw) k

-- ---- good behaviour

-- an instruction behaves well if it 'uses only addresses in SL..SH, takes a GOX only to an instruction below N that is a listed landing,
-- and sends only events for which the policy has an arrow after those recorded before'
abbrev pub Behaves : Layout → Policy → ℕ → Instr → Raw → Type 0
Behaves lay pol N HALT r = Unit {0}
Behaves lay pol N (PLAIN k d a b v) r = Unit {0}
Behaves lay pol N (LOAD d a) r = in_box lay (raw_reg r a) ≡ true
Behaves lay pol N (STORE a b) r = in_box lay (raw_reg r a) ≡ true
Behaves lay pol N (GOIF a b c v) r = Unit {0}
Behaves lay pol N (GOX d a b c) r = holds_of c (raw_reg r a) (raw_reg r b) ≡ true → (raw_reg r d < N) × (listed pol.landings (raw_reg r d) ≡ true)
Behaves lay pol N (EVENT e) r = arrow pol (state_over pol (events_of r.records)) e ≡ no_arrow → ⊥

-- each of the first k instructions behaves well, unless the raw run has ended before it
abbrev pub BehavesFor : Layout → Policy → ℕ → (ℕ → Instr) → List ℕ → Raw → ℕ → Type 0
BehavesFor lay pol N is reads r k =
    (j : ℕ) → j < k →
    let s = raw_after lay is reads r j in
    s.status ≡ Running → Behaves lay pol N (is s.at) s
