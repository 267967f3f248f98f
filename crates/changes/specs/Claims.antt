-- What requests 4, 6 and 12 altered: the rule before each, and which answers differ since.
use Rattle.std.specs.Prelude.{ℕ, ◌+◌, ◌-◌, ◌*◌, ◌/◌, ◌<◌, ◌≤◌, ◌≡◌, Bool, true, false, ◌&&◌, cond, List, [], ◌∷◌, length, get_or, take, drop, eqb, ltb}
use Rattle.types.specs.declared.Layout.{Layout}
use Rattle.types.specs.declared.Instr.{Instr}
use Rattle.types.specs.declared.Instr.TheVariants.{HALT, PLAIN, LOAD, STORE, GOIF, GOX, EVENT}
use Rattle.types.specs.declared.Command.{Command}
use Rattle.types.specs.declared.Command.TheVariants.{Nop, Halt, Plain, Load, Store, GoIf, GoReg, Look, StopIf, Keep, Event, Invalid}
use Rattle.types.specs.declared.Effect.{Effect}
use Rattle.types.specs.declared.Effect.TheVariants.{Order, Probe, Wait}
use Rattle.types.specs.declared.Ending.TheVariants.{LogFull, Silent, Refused}
use Rattle.types.specs.declared.Machine.{Machine}
use Rattle.types.specs.declared.Refusal.TheVariants.{BadLayout, BadBundle, BadCount, BadBase}
use Rattle.types.specs.Names.{orders, bundle_length, pair_cells, hidden, number_of, answer}
use Rattle.spec.specs.Commands.{fetch_of, word_of}
use Rattle.spec.specs.Bundles.{shape_with, valid, bundle_at, check_answer}
use Rattle.spec.specs.Machines.{View, if_room, effect_of, State, apply_of, view_at, RunResult, run_result_of, result_in, final_state, loop_from, start_of, fits, run_of}
use Rattle.types.specs.Records.{outcome_of}
use Rattle.spec.specs.Claims.{Placed}

-- ---- [4]: which pause comes first

-- EVENT v before the request, by free log cells and readings left: log full (23) came first
abbrev pub event_before : ℕ → ℕ → ℕ → Effect
event_before v free left = if_room free (cond (ltb v orders) (Order v) (cond (eqb left 0) (Wait Silent) (Probe v)))

-- 'a reading event with no readings left and fewer than two free log cells'
abbrev pub BothPause : ℕ → View → Type 0
BothPause v s = (orders ≤ v) × (s.left ≡ 0) × (s.free < pair_cells)

-- 'The one old answer that changes is' that event: 'it gave 23 and gives 24'; any other does what it did
pub record PauseLaws (v : ℕ) (s : View) : Type 0 where
  pub gave : BothPause v s → event_before v s.free s.left ≡ Wait LogFull
  pub gives : BothPause v s → effect_of (Event v) s ≡ Wait Silent
  pub same : (BothPause v s → ⊥) → effect_of (Event v) s ≡ event_before v s.free s.left

abbrev pub SilentFirst : Type 0
SilentFirst = (v : ℕ) (s : View) → PauseLaws v s

-- every command before the request: EVENT as above, the others as today
abbrev pub effect_before : Command → View → Effect
effect_before Nop s = effect_of Nop s
effect_before Halt s = effect_of Halt s
effect_before (Plain k d a b v) s = effect_of (Plain k d a b v) s
effect_before (Load d a) s = effect_of (Load d a) s
effect_before (Store a b) s = effect_of (Store a b) s
effect_before (GoIf a b c v) s = effect_of (GoIf a b c v) s
effect_before (GoReg d a b c) s = effect_of (GoReg d a b c) s
effect_before (Look d v) s = effect_of (Look d v) s
effect_before (StopIf d) s = effect_of (StopIf d) s
effect_before (Keep d) s = effect_of (Keep d) s
effect_before (Event v) s = event_before v s.free s.left
effect_before Invalid s = effect_of Invalid s

abbrev pub next_before : Layout → List ℕ → List ℕ → State → Effect
next_before lay ws reads s = effect_before (fetch_of ws lay.base s.pc) (view_at lay reads s)

abbrev pub step_before : Layout → List ℕ → List ℕ → State → State
step_before lay ws reads s = apply_of lay.ceilings reads (next_before lay ws reads s) s

-- a run before the request; all else is as in `run_from` and `run_of`
abbrev pub run_from_before : Layout → List ℕ → List ℕ → ℕ → ℕ → State → RunResult
run_from_before lay ws reads n k s = loop_from (next_before lay ws reads) (step_before lay ws reads) (λ s k. k + 1) result_in n k s

unfoldable pub run_before : Layout → List ℕ → Machine → List ℕ → ℕ → List ℕ → List ℕ → RunResult
run_before lay ws m mem budget reads log =
    cond (fits lay mem) (run_from_before lay ws reads budget 0 (start_of m mem log)) (run_result_of (outcome_of m Refused 0 0 0) mem log)

-- the run answered log full (23) at 'a reading event with no readings left and fewer than two free log cells'
pub record PausedBoth (lay : Layout) (ws reads : List ℕ) (r : RunResult) : Type 0 where
  pub full : r.outcome.answer.ending ≡ LogFull
  pub event : ℕ
  pub command : fetch_of ws lay.base r.outcome.machine.pc ≡ Event event
  pub both : BothPause event (view_at lay reads (final_state r))

-- the same result with ending probe silent (24)
abbrev pub silent_instead : RunResult → RunResult
silent_instead r =
    let a = r.outcome.answer in
    run_result_of (outcome_of r.outcome.machine Silent a.steps a.pairs a.used) r.mem r.log

-- a run today, `now`, and before, `old`: 'The one old answer that changes .. gave 23 and gives 24'
pub record RunLaws (lay : Layout) (ws reads : List ℕ) (now old : RunResult) : Type 0 where
  pub gives : PausedBoth lay ws reads old → now ≡ silent_instead old
  pub same : (PausedBoth lay ws reads old → ⊥) → now ≡ old

-- holds of every run: any layout, commands, record, memory, budget, readings and log
abbrev pub SilentRuns : Type 0
SilentRuns =
    (lay : Layout) (ws : List ℕ) (m : Machine) (mem : List ℕ) (budget : ℕ) (reads log : List ℕ) →
    RunLaws lay ws reads (run_of lay ws m mem budget reads log) (run_before lay ws m mem budget reads log)

-- ---- [6]: lists written when register 8 was the hidden one

abbrev pub hidden_before : ℕ
hidden_before = 8

-- LOAD, STORE, GOX and EVENT: their bundles name the hidden register
abbrev pub names_hidden : Instr → Bool
names_hidden HALT = false
names_hidden (PLAIN k d a b v) = false
names_hidden (LOAD d a) = true
names_hidden (STORE a b) = true
names_hidden (GOIF a b c v) = false
names_hidden (GOX d a b c) = true
names_hidden (EVENT e) = true

-- whether every register field of an instruction is below r
abbrev pub fields_below : ℕ → Instr → Bool
fields_below r HALT = true
fields_below r (PLAIN k d a b v) = ltb d r && ltb a r && ltb b r
fields_below r (LOAD d a) = ltb d r && ltb a r
fields_below r (STORE a b) = ltb a r && ltb b r
fields_below r (GOIF a b c v) = ltb a r && ltb b r
fields_below r (GOX d a b c) = ltb d r && ltb a r && ltb b r
fields_below r (EVENT e) = true

-- what the checker would pass if r were the hidden register and the guest had those below it; `is` are the bundles' instructions
pub record PassesWith (r : ℕ) (lay : Layout) (ws : List ℕ) (N : ℕ) (is : ℕ → Instr) : Type 0 where
  pub placed : Placed lay ws N
  pub fields : (h : ℕ) → h < N → (valid N (is h) && fields_below r (is h)) ≡ true
  pub words : (h p : ℕ) → h < N → p < bundle_length → get_or ws (bundle_length * h + p) 0 ≡ word_of (shape_with r lay N (is h) p)
  pub last : is (N - 1) ≡ HALT

-- `passes` and `passed`: today's checker is this one for register 15.
-- `refused`: 'the checker refuses lists written before, with 11, whenever they hold a LOAD, STORE, GOX or EVENT bundle',
--     unless bad layout (7), bad count (12) or bad base (13) comes first. This holds for all fields and places. The bundle's first command is enough.
-- `kept` and `before`: a list without such a bundle, and with register fields below 8, passes exactly if it passed before
pub record BeforeLaws (lay : Layout) (ws : List ℕ) (N : ℕ) : Type 0 where
  pub passes : (is : ℕ → Instr) → PassesWith hidden lay ws N is → check_answer lay ws ≡ answer 0 0
  pub passed : (check_answer lay ws).number ≡ 0 → PassesWith hidden lay ws N (bundle_at lay ws)
  pub refused :
      (h : ℕ) (i : Instr) → h < N → names_hidden i ≡ true → get_or ws (bundle_length * h) 0 ≡ word_of (shape_with hidden_before lay N i 0) →
      let x = (check_answer lay ws).number in
      (x ≡ number_of BadLayout → ⊥) → (x ≡ number_of BadCount → ⊥) → (x ≡ number_of BadBase → ⊥) → x ≡ number_of BadBundle
  pub kept :
      (is : ℕ → Instr) → ((h : ℕ) → h < N → names_hidden (is h) ≡ false) → PassesWith hidden_before lay ws N is → check_answer lay ws ≡ answer 0 0
  pub before :
      ((h : ℕ) → h < N → (names_hidden (bundle_at lay ws h) ≡ false) × (fields_below hidden_before (bundle_at lay ws h) ≡ true)) →
      (check_answer lay ws).number ≡ 0 → PassesWith hidden_before lay ws N (bundle_at lay ws)

abbrev pub ListsBefore : Type 0
ListsBefore = (lay : Layout) (ws : List ℕ) → BeforeLaws lay ws (length ws / bundle_length)

-- ---- [12]: lists whose event bundles have the old order

-- an event bundle's words in the order before [12], LOOK, STOPIF, KEEP, EVENT, with hidden register r
abbrev pub old_event : ℕ → ℕ → List ℕ
old_event r e = word_of (Look r e) ∷ word_of (StopIf r) ∷ word_of (Keep r) ∷ word_of (Event e) ∷ []

-- 'Lists in the old order that contain an event are refused with 11', whatever the event and its place: as bad bundle (11), at that bundle or before.
-- Lists that are refused as bad layout (7), bad count (12) or bad base (13) are left out
abbrev pub OldRefused : Type 0
OldRefused =
    (lay : Layout) (ws : List ℕ) (h r e : ℕ) →
    let N = length ws / bundle_length in
    Placed lay ws N → h < N → take bundle_length (drop (bundle_length * h) ws) ≡ old_event r e →
    ((check_answer lay ws).number ≡ number_of BadBundle) × ((check_answer lay ws).place ≤ h)
