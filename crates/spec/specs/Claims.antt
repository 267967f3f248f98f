-- Claims about the definitions. Each is a type; its proof, in proofs/, has the same name in small letters, with hyphens.
use Rattle.std.specs.Prelude.{ℕ, suc, ◌+◌, ◌-◌, ◌*◌, ◌/◌, ◌%◌, ◌^◌, ◌<◌, ◌≤◌, ◌≡◌, true, false, ◌⊎◌, List, [], ◌∷◌, ◌++◌, length, get_or, take, drop, pos, ◌*ℤ◌, ◌≤ℤ◌, ◌<ℤ◌, ltb}
use Rattle.spec.specs.Prelude.{ones, suc_ℤ}
use Rattle.spec.specs.Types.{Layout, Instr, HALT, EVENT, Machine, Outcome, Status, Running, Ended, Stopped, Faulted, Strayed, Ending, Done, NoArrow, Fault, LogFull, Silent, Spent, NoLanding, Refused, BadLayout}
use Rattle.types.specs.Names.{events, orders, no_arrow, most_instructions, most_bundles, bundle_length, pair_cells, bundle_shift, landing_cells, cell_bits, guest_registers, number_of, answer, ending_number}
use Rattle.spec.specs.Signed.{twos, sar_of, less_of}
use Rattle.spec.specs.Layouts.{span, right_layout, width_of, mask_of, in_box, protected}
use Rattle.spec.specs.Policies.{Policy, arrow, allowed, state_over}
use Rattle.spec.specs.Landings.{listed, landings_of, bit_at, marked}
use Rattle.spec.specs.Words.{routine, bundles_for}
use Rattle.spec.specs.Bytes.{read_answer, read_output, write_answer, write_output}
use Rattle.spec.specs.Commands.{shl_of, fetch_of}
use Rattle.spec.specs.Bundles.{address_of, last_address, position_of, shape_of, bundle_of, valid, decode_bundle, bundle_at, is_bundle, base_right, count_right, commands_of, rewrite_answer, rewrite_output, check_answer}
use Rattle.spec.specs.Machines.{State, next_pc, RunResult, run_result_of, final_state, fits, run_from, run_of, preview_of, install_answer, install_memory}
use Rattle.types.specs.Records.{outcome_of}
use Rattle.spec.specs.Guests.{Pair, Guest, guest_after, guest_start, box_of}
use Rattle.spec.specs.Runs.{begins, begun_from, RunInput, Every, Pairwise, each_run, Session, run_on, after_run, run_as, all_runs, after, Run, recorded_in, LowEqual, MemoryPreserved, HostPremise, pairs_of, events_of, waiting_at, pending_at}

-- ---- masks and sizes

-- the mask: 'On a right layout it lies in SL..SH and leaves an address already there as it is'. The sandbox has 2^width cells.
-- `lands`: the three commands before GOXR compute B + 4 × (rd modulo N)
pub record MaskLaws (lay : Layout) : Type 0 where
  pub inside : (e : ℕ) → in_box lay (mask_of lay.low lay.high e) ≡ true
  pub fixed : (e : ℕ) → in_box lay e ≡ true → mask_of lay.low lay.high e ≡ e
  pub width : 2 ^ width_of lay ≡ span lay
  pub lands : (N x : ℕ) → ones N ≡ 1 → N ≤ most_bundles → base_right lay N ≡ true → mask_of lay.base (last_address lay N) (shl_of x bundle_shift) ≡ address_of lay (x % N)

abbrev pub Masks : Type 0
Masks = (lay : Layout) → right_layout lay ≡ true → MaskLaws lay

-- 'instruction 32k + j in bit j of cell Q + k': exactly those bits of the 32 cells are set
abbrev pub LandingBits : Type 0
LandingBits = (ls : List ℕ) (k j : ℕ) → k < landing_cells → j < cell_bits → bit_at (get_or (landings_of ls) k 0) j ≡ listed ls (cell_bits * k + j)

-- 'Installing writes the start state to M and the table to its cells', the landings' bits to theirs, 'nothing else'
pub record InstallLaws (lay : Layout) (pol : Policy) (mem : List ℕ) : Type 0 where
  pub size : length (install_memory lay pol mem) ≡ length mem
  pub cell : get_or (install_memory lay pol mem) lay.cell 0 ≡ pol.start
  pub table : (i : ℕ) → i < events * lay.states → get_or (install_memory lay pol mem) (lay.table + i) 0 ≡ get_or pol.table i no_arrow
  pub landings : (j : ℕ) → j < most_bundles → marked (install_memory lay pol mem) lay.landings j ≡ listed pol.landings j
  pub rest : (i : ℕ) → protected lay i ≡ false → get_or (install_memory lay pol mem) i 0 ≡ get_or mem i 0

abbrev pub Installs : Type 0
Installs = (lay : Layout) (pol : Policy) (mem : List ℕ) → (install_answer lay pol mem).number ≡ 0 → InstallLaws lay pol mem

-- 'N is the smallest power of two greater than n', and at most 1,024
pub record SizeLaws (n : ℕ) : Type 0 where
  pub above : n < bundles_for n
  pub power : ones (bundles_for n) ≡ 1
  pub least : (i : ℕ) → n < 2 ^ i → bundles_for n ≤ 2 ^ i
  pub most : bundles_for n ≤ most_bundles

abbrev pub Sizes : Type 0
Sizes = (n : ℕ) → n ≤ most_instructions → SizeLaws n

-- ---- two's complement

-- SAR: 'ra as two's complement, divided by 2^v, rounded down'. The quotient q has q × 2^v ≤ x < (q + 1) × 2^v as integers, and fits 32 bits.
-- 'less than' is the unsigned order after the sign bit of each number is flipped
pub record SignLaws (x y v : ℕ) : Type 0 where
  pub fits : sar_of x v < 2 ^ 32
  pub down : (twos (sar_of x v) *ℤ pos (2 ^ v)) ≤ℤ twos x
  pub most : twos x <ℤ (suc_ℤ (twos (sar_of x v)) *ℤ pos (2 ^ v))
  pub less : less_of x y ≡ ltb ((x + 2 ^ 31) % 2 ^ 32) ((y + 2 ^ 31) % 2 ^ 32)

abbrev pub Signs : Type 0
Signs = (x y v : ℕ) → x < 2 ^ 32 → y < 2 ^ 32 → SignLaws x y v

-- ---- bytes

-- 'Words that writing takes are read again as the same words'
pub record ReadAfterWrite (ws out words : List ℕ) : Type 0 where
  pub answers : read_answer (take (write_answer ws (length out)).place (write_output ws out)) (length words) ≡ answer 0 (length ws)
  pub leaves : take (length ws) (read_output (take (write_answer ws (length out)).place (write_output ws out)) words) ≡ ws

abbrev pub WordsRoundTrip : Type 0
WordsRoundTrip = (ws out words : List ℕ) → (write_answer ws (length out)).number ≡ 0 → length ws ≤ length words → ReadAfterWrite ws out words

-- 'bytes that reading takes are written again as the same bytes'
pub record WriteAfterRead (bytes words out : List ℕ) : Type 0 where
  pub answers : write_answer (take (read_answer bytes (length words)).place (read_output bytes words)) (length out) ≡ answer 0 (length bytes)
  pub leaves : take (length bytes) (write_output (take (read_answer bytes (length words)).place (read_output bytes words)) out) ≡ bytes

abbrev pub BytesRoundTrip : Type 0
BytesRoundTrip =
    (bytes words out : List ℕ) → ((j : ℕ) → get_or bytes j 0 < 256) → (read_answer bytes (length words)).number ≡ 0 → length bytes ≤ length out → WriteAfterRead bytes words out

-- ---- rewriter and checker

-- the output of rewriting begins with the routine's commands
abbrev pub RewriteLeaves : Type 0
RewriteLeaves =
    (lay : Layout) (code out : List ℕ) →
    let a = rewrite_answer lay code (length out) in
    a.number ≡ 0 → take a.place (rewrite_output lay code out) ≡ commands_of lay code

-- the checker passes what the rewriter writes
abbrev pub RewrittenPasses : Type 0
RewrittenPasses =
    (lay : Layout) (code : List ℕ) (room : ℕ) → (rewrite_answer lay code room).number ≡ 0 → check_answer lay (commands_of lay code) ≡ answer 0 0

-- a list that passes is what the rewriter writes for some routine
pub record Rewrites (lay : Layout) (ws : List ℕ) : Type 0 where
  pub code : List ℕ
  pub takes : rewrite_answer lay code (length ws) ≡ answer 0 (length ws)
  pub same : commands_of lay code ≡ ws

abbrev pub PassedRewrites : Type 0
PassedRewrites = (lay : Layout) (ws : List ℕ) → (check_answer lay ws).number ≡ 0 → Rewrites lay ws

-- four words are the bundle of some valid instruction among N
pub record Shaped (lay : Layout) (N : ℕ) (words : List ℕ) : Type 0 where
  pub instr : Instr
  pub fields : valid N instr ≡ true
  pub same : (bundle_of lay N instr).words ≡ words

-- four words are the bundle of some valid instruction exactly if they are the bundle of the one that `decode_bundle` finds.
-- So `decode_bundle` need not be trusted
pub record ShapeLaws (lay : Layout) (N w x y z : ℕ) : Type 0 where
  pub shaped : is_bundle lay N (decode_bundle lay w y z) w x y z ≡ true → Shaped lay N (w ∷ x ∷ y ∷ z ∷ [])
  pub found : Shaped lay N (w ∷ x ∷ y ∷ z ∷ []) → is_bundle lay N (decode_bundle lay w y z) w x y z ≡ true

abbrev pub Shapes : Type 0
Shapes = (lay : Layout) (N w x y z : ℕ) → ShapeLaws lay N w x y z

-- a list that is not refused as bad layout (7), bad count (12) or bad base (13). It has '4N commands, N a power of two from 1 to 1,024',
-- and B is a multiple of 4N
pub record Placed (lay : Layout) (ws : List ℕ) (N : ℕ) : Type 0 where
  pub layout : right_layout lay ≡ true
  pub count : count_right (length ws) ≡ true
  pub base : base_right lay N ≡ true

-- 'whose bundles all have these shapes and whose last is HALT'
pub record AllShaped (lay : Layout) (ws : List ℕ) (N : ℕ) : Type 0 where
  pub placed : Placed lay ws N
  pub each : (h : ℕ) → h < N → Shaped lay N (take bundle_length (drop (bundle_length * h) ws))
  pub last : take bundle_length (drop (bundle_length * (N - 1)) ws) ≡ (bundle_of lay N HALT).words

-- the checker passes exactly the lists that are placed and shaped
pub record CheckLaws (lay : Layout) (ws : List ℕ) (N : ℕ) : Type 0 where
  pub passed : (check_answer lay ws).number ≡ 0 → AllShaped lay ws N
  pub passes : AllShaped lay ws N → check_answer lay ws ≡ answer 0 0

abbrev pub Checks : Type 0
Checks = (lay : Layout) (ws : List ℕ) → CheckLaws lay ws (length ws / bundle_length)

-- every word of a passed list is the command that its bundle's shape names
abbrev pub PassedDecodes : Type 0
PassedDecodes =
    (lay : Layout) (ws : List ℕ) → (check_answer lay ws).number ≡ 0 →
    let N = length ws / bundle_length in
    (h p : ℕ) → h < N → p < bundle_length → fetch_of ws lay.base (address_of lay h + p) ≡ shape_of lay N (bundle_at lay ws h) p

-- ---- endings

-- the machine's status after a run that was not refused and has this ending
abbrev pub status_after : Ending → Status
status_after Done = Ended
status_after NoArrow = Stopped
status_after Fault = Faulted
status_after LogFull = Running
status_after Silent = Running
status_after Spent = Running
status_after NoLanding = Strayed
status_after Refused = Running

-- a run answers bad layout (7) exactly if the layout is not right or the memory's length is not U. Then it changes nothing.
-- Any other run answers the ending that belongs to the status it leaves
pub record EndingLaws (lay : Layout) (m : Machine) (mem log : List ℕ) (r : RunResult) : Type 0 where
  pub refused : ending_number r.outcome.answer.ending ≡ number_of BadLayout → fits lay mem ≡ false
  pub refuses : fits lay mem ≡ false → r ≡ run_result_of (outcome_of m Refused 0 0 0) mem log
  pub status : fits lay mem ≡ true → r.outcome.machine.status ≡ status_after r.outcome.answer.ending

abbrev pub EndingStatus : Type 0
EndingStatus =
    (lay : Layout) (ws : List ℕ) (m : Machine) (mem : List ℕ) (budget : ℕ) (reads log : List ℕ) →
    EndingLaws lay m mem log (run_of lay ws m mem budget reads log)

-- ---- previews

-- request 10, for a `work` of U cells: a preview 'gives the ending, steps, pairs, readings used and final record of a run', and its log 'ends as that run's log
-- would'. If the run is not refused, `work` ends as its memory would. 'A refused preview gives back the record it was given', with `work` and log as they were
pub record PreviewLaws (lay : Layout) (m : Machine) (mem work log : List ℕ) (r p : RunResult) : Type 0 where
  pub outcome : length work ≡ lay.size → p.outcome ≡ r.outcome
  pub logged : length work ≡ lay.size → p.log ≡ r.log
  pub memory : length work ≡ lay.size → fits lay mem ≡ true → p.mem ≡ r.mem
  pub refused : ending_number p.outcome.answer.ending ≡ number_of BadLayout → p ≡ run_result_of (outcome_of m Refused 0 0 0) work log

abbrev pub Previews : Type 0
Previews =
    (lay : Layout) (ws : List ℕ) (m : Machine) (mem work : List ℕ) (budget : ℕ) (reads log : List ℕ) →
    PreviewLaws lay m mem work log (run_of lay ws m mem budget reads log) (preview_of lay ws m mem work budget reads log)

-- ---- every moment

-- runs compose: a run with a budget above j reaches the state where budget j ends, and continues from there. So does its count of bundles begun
pub record ComposeLaws (lay : Layout) (ws reads : List ℕ) (j l k b : ℕ) (s : State) : Type 0 where
  pub run :
      let r = run_from lay ws reads j k s in
      run_from lay ws reads (j + suc l) k s ≡ run_from lay ws reads (suc l) r.outcome.answer.steps (final_state r)
  pub begun :
      let r = run_from lay ws reads j k s in
      begun_from lay ws reads (j + suc l) b s ≡ begun_from lay ws reads (suc l) (begun_from lay ws reads j b s) (final_state r)

abbrev pub RunsCompose : Type 0
RunsCompose = (lay : Layout) (ws reads : List ℕ) (j l k b : ℕ) (s : State) → ComposeLaws lay ws reads j l k b s

-- a run's input with another budget
abbrev pub with_budget : RunInput → ℕ → RunInput
with_budget g j = record { memory = g.memory; budget = j; readings = g.readings; log = g.log }

-- the premise still holds if a list of runs is cut off within a run
abbrev pub PrefixClosed : Type 0
PrefixClosed =
    (lay : Layout) (pol : Policy) (ws mem : List ℕ) (xs ys : List RunInput) (g : RunInput) (j : ℕ) →
    HostPremise lay pol ws mem (xs ++ (g ∷ ys)) → HostPremise lay pol ws mem (xs ++ (with_budget g j ∷ []))

-- ---- the guest rule

-- at a boundary: on the first command of a bundle, or not running
abbrev pub AtBoundary : Layout → Machine → Type 0
AtBoundary lay m = (position_of lay m.pc ≡ 0) ⊎ (m.status ≡ Running → ⊥)

-- machine and guest agree: 'on ending, r0 to' r14 (since request 6), 'sandbox, state cell, records and readings used',
-- and on the next instruction: pc is at position p of its bundle. The ending is the record's status, by EndingStatus
pub record SimulatesAt (lay : Layout) (p : ℕ) (g : Guest) (c : Session) : Type 0 where
  pub ending : c.machine.status ≡ g.status
  pub regs : take guest_registers c.machine.regs ≡ g.regs
  pub box : box_of lay c.memory ≡ g.box
  pub state : get_or c.memory lay.cell 0 ≡ g.state
  pub records : c.records ≡ g.records
  pub used : length c.consumed ≡ g.used
  pub next : c.machine.status ≡ Running → c.machine.pc ≡ address_of lay g.at + p

abbrev pub Simulates : Layout → Guest → Session → Type 0
Simulates lay g c = SimulatesAt lay 0 g c

-- the guest after k instructions, 'from instruction 0, registers 0', with the readings that the runs used
abbrev pub guest_for : Layout → Policy → List ℕ → List ℕ → Session → ℕ → Guest
guest_for lay pol code mem c k = guest_after lay pol (bundles_for (length code)) (routine code) c.consumed (guest_start lay pol (install_memory lay pol mem)) k

-- simulation: 'Guest rule (from instruction 0, registers 0) and machine are compared from installation on, on demand 3's premise,
-- at each first command of a bundle and at every end or stop'. The guest has executed as many instructions as the runs began bundles
abbrev pub GuestRule : Type 0
GuestRule =
    (lay : Layout) (pol : Policy) (code mem : List ℕ) (room : ℕ) (gs : List RunInput) → (rewrite_answer lay code room).number ≡ 0 →
    let c = after lay pol (commands_of lay code) mem gs in
    HostPremise lay pol (commands_of lay code) mem gs → AtBoundary lay c.machine → Simulates lay (guest_for lay pol code mem c c.begun) c

-- every moment within a run, after any j of its steps. The whole run passes that moment and continues from there (`comes`).
-- If the moment is at a boundary, machine and guest agree (`agreement`)
pub record MomentLaws (lay : Layout) (pol : Policy) (code mem : List ℕ) (c : Session) (g : RunInput) (j : ℕ) : Type 0 where
  pub comes :
      let ws = commands_of lay code in
      let r = run_on lay ws c (with_budget g j) in
      (l : ℕ) → fits lay g.memory ≡ true → g.budget ≡ j + suc l → run_on lay ws c g ≡ run_from lay ws g.readings (suc l) r.outcome.answer.steps (final_state r)
  pub agreement :
      let d = after_run lay (commands_of lay code) c (with_budget g j) in
      AtBoundary lay d.machine → Simulates lay (guest_for lay pol code mem d d.begun) d

abbrev pub EveryMoment : Type 0
EveryMoment =
    (lay : Layout) (pol : Policy) (code mem : List ℕ) (room : ℕ) (xs ys : List RunInput) (g : RunInput) (j : ℕ) → (rewrite_answer lay code room).number ≡ 0 →
    HostPremise lay pol (commands_of lay code) mem (xs ++ (g ∷ ys)) → MomentLaws lay pol code mem (after lay pol (commands_of lay code) mem xs) g j

-- ---- progress: a running machine reaches the next boundary within four steps, or pauses

-- after at most four steps the machine is at a boundary, and b bundles have been begun
pub record ReachesBoundary (lay : Layout) (ws : List ℕ) (c : Session) (g : RunInput) (b : ℕ) : Type 0 where
  pub budget : ℕ
  pub few : budget ≤ bundle_length
  pub boundary : AtBoundary lay (after_run lay ws c (with_budget g budget)).machine
  pub begun : (after_run lay ws c (with_budget g budget)).begun ≡ b

-- a run answers log full (23) or probe silent (24)
abbrev pub Paused : Ending → Type 0
Paused e = (e ≡ LogFull) ⊎ (e ≡ Silent)

-- a run's input with memory of U cells, and log and readings enough: the machine does not pause before the next boundary.
-- Only the third command of a bundle can pause, so a budget of 3 shows it
pub record NoPause (lay : Layout) (ws : List ℕ) (c : Session) (g : RunInput) : Type 0 where
  pub memory : length g.memory ≡ lay.size
  pub goes : Paused (run_on lay ws c (with_budget g 3)).outcome.answer.ending → ⊥

-- a run's input with memory of U cells, a free pair in the log and a reading
pub record Resumable (lay : Layout) (g : RunInput) : Type 0 where
  pub memory : length g.memory ≡ lay.size
  pub log : pair_cells ≤ length g.log
  pub readings : 1 ≤ length g.readings

-- that is always enough, whatever the next instruction is
abbrev pub ResumableNoPause : Type 0
ResumableNoPause =
    (lay : Layout) (pol : Policy) (ws mem : List ℕ) (gs : List RunInput) → HostPremise lay pol ws mem gs →
    let c = after lay pol ws mem gs in
    (g : RunInput) → MemoryPreserved lay c.memory g → Resumable lay g → NoPause lay ws c g

-- a running machine that does not pause reaches the next boundary within four steps, also after a pause. It begins at most one bundle
abbrev pub Resumes : Type 0
Resumes =
    (lay : Layout) (pol : Policy) (ws mem : List ℕ) (gs : List RunInput) → HostPremise lay pol ws mem gs →
    let c = after lay pol ws mem gs in
    c.machine.status ≡ Running → (g : RunInput) → MemoryPreserved lay c.memory g → NoPause lay ws c g →
    ReachesBoundary lay ws c g (c.begun + begins lay c.machine.pc)

-- from a boundary, a running machine that does not pause executes one whole bundle
abbrev pub Progress : Type 0
Progress =
    (lay : Layout) (pol : Policy) (ws mem : List ℕ) (gs : List RunInput) → HostPremise lay pol ws mem gs →
    let c = after lay pol ws mem gs in
    AtBoundary lay c.machine → c.machine.status ≡ Running →
    (g : RunInput) → MemoryPreserved lay c.memory g → NoPause lay ws c g → ReachesBoundary lay ws c g (c.begun + 1)

-- ---- isolation

-- the pairs in a session are those that the runs' answers count, so claims may name either
abbrev pub Recorded : Type 0
Recorded = (lay : Layout) (pol : Policy) (ws mem : List ℕ) (gs : List RunInput) → (after lay pol ws mem gs).records ≡ recorded_in (all_runs lay pol ws mem gs)

-- request 2: no order records more than its ceiling, in any list of runs of any commands from any record
abbrev pub Limited : Layout → Pair → Type 0
Limited lay p = p.event < orders → p.value ≤ get_or lay.ceilings p.event 0

abbrev pub Ceilings : Type 0
Ceilings = (lay : Layout) (ws : List ℕ) (c : Session) (gs : List RunInput) → Every (Limited lay) (recorded_in (each_run (run_as lay ws) (after_run lay ws) c gs))

-- a run does not answer fault (22)
abbrev pub Faultless : {O : Type 0} → Run O → Type 0
Faultless r = r.number ≡ ending_number Fault → ⊥

-- the frame condition: a run keeps its memory's length and every cell outside the sandbox except the state cell.
-- The pairs that it counts are in its log, and the rest of the log is as before. Its readings are among those given
pub record FrameCondition {O : Type 0} (lay : Layout) (r : Run O) : Type 0 where
  pub size : length r.result.mem ≡ length r.input.memory
  pub cells : (i : ℕ) → in_box lay i ≡ false → (i ≡ lay.cell → ⊥) → get_or r.result.mem i 0 ≡ get_or r.input.memory i 0
  pub counted : pair_cells * r.pairs ≤ length r.result.log
  pub drawn : r.used ≤ length r.input.readings
  pub log_size : length r.result.log ≡ length r.input.log
  pub log_rest : (i : ℕ) → pair_cells * r.pairs ≤ i → get_or r.result.log i 0 ≡ get_or r.input.log i 0

-- two runs with the same readings and budget, and with logs and memories of the same lengths
pub record SameInputs (g g' : RunInput) : Type 0 where
  pub readings : g.readings ≡ g'.readings
  pub budget : g.budget ≡ g'.budget
  pub log : length g.log ≡ length g'.log
  pub memory : length g.memory ≡ length g'.memory

-- two runs with the same answer and record, the same recorded pairs, and the same state cell and sandbox after them
pub record SameObservations {O : Type 0} (lay : Layout) (r r' : Run O) : Type 0 where
  pub outcome : r.result.outcome ≡ r'.result.outcome
  pub logged : pairs_of r.result.log r.pairs ≡ pairs_of r'.result.log r'.pairs
  pub cell : get_or r.memory lay.cell 0 ≡ get_or r'.memory lay.cell 0
  pub box : (i : ℕ) → in_box lay i ≡ true → get_or r.memory i 0 ≡ get_or r'.memory i 0

-- what holds of a whole list of runs:
-- (a) no run faults;
-- (b) each run changes only the sandbox, the state cell and the log's counted pairs, so table and landing cells stay as installed;
-- (c) the policy allows the list of all recorded events, log after log;
-- (d) noninterference: two lists of runs with the same inputs, whose memories differ only in free cells, give the same observations run by run.
-- So neither free memory nor the old content of logs has any influence
pub record Isolated (lay : Layout) (pol : Policy) (ws mem : List ℕ) (gs : List RunInput) : Type 0 where
  pub faultless : Every Faultless (all_runs lay pol ws mem gs)
  pub frame : Every (FrameCondition lay) (all_runs lay pol ws mem gs)
  pub protected_kept : (i : ℕ) → protected lay i ≡ true → (i ≡ lay.cell → ⊥) → get_or (after lay pol ws mem gs).memory i 0 ≡ get_or (install_memory lay pol mem) i 0
  pub allowed : allowed pol (events_of (recorded_in (all_runs lay pol ws mem gs))) ≡ true
  pub noninterference :
      (pol' : Policy) (mem' : List ℕ) (gs' : List RunInput) → HostPremise lay pol' ws mem' gs' →
      LowEqual lay (install_memory lay pol mem) (install_memory lay pol' mem') → Pairwise SameInputs gs gs' →
      Pairwise (SameObservations lay) (all_runs lay pol ws mem gs) (all_runs lay pol' ws mem' gs')

-- demand 3, isolation
abbrev pub Isolation : Type 0
Isolation = (lay : Layout) (pol : Policy) (ws mem : List ℕ) (gs : List RunInput) → HostPremise lay pol ws mem gs → Isolated lay pol ws mem gs

-- ---- the pc

-- 'The pc wraps at 2^32, which a passed routine, on demand 3's premise, never does'. The list ends at or before 2^32, and pc stays in it.
-- A step that adds 1 to pc does not wrap
pub record PcLaws (lay : Layout) (ws : List ℕ) (c : Session) : Type 0 where
  pub from : lay.base ≤ c.machine.pc
  pub within : c.machine.pc < lay.base + length ws
  pub top : lay.base + length ws ≤ 2 ^ 32
  pub increment : (g : RunInput) → MemoryPreserved lay c.memory g → (after_run lay ws c (with_budget g 1)).machine.pc ≡ next_pc c.machine.pc → c.machine.pc + 1 < 2 ^ 32

-- at every moment, since a list of runs may end anywhere
abbrev pub NoWrap : Type 0
NoWrap = (lay : Layout) (pol : Policy) (ws mem : List ℕ) (gs : List RunInput) → HostPremise lay pol ws mem gs → PcLaws lay ws (after lay pol ws mem gs)

-- ---- the state cell

-- 'the state cell is the policy's state over the recorded events … but for one point. With pc on the fourth command of an event bundle …
-- it is behind by that one event'. `kept` are the recorded events without that last one
pub record CellLaws (lay : Layout) (pol : Policy) (ws : List ℕ) (c : Session) : Type 0 where
  pub kept : List ℕ
  pub recorded : events_of c.records ≡ kept ++ pending_at lay ws c.machine
  pub state : get_or c.memory lay.cell 0 ≡ state_over pol kept
  pub arrows : allowed pol (events_of c.records) ≡ true

-- 'which only a spent budget can show': a run that leaves pc there answers spent (25); a refused run leaves pc where it was
abbrev pub OnlySpent : Layout → List ℕ → Run Outcome → Type 0
OnlySpent lay ws r =
    (r.result.outcome.answer.ending ≡ Refused → ⊥) → (pending_at lay ws r.result.outcome.machine ≡ [] → ⊥) → r.number ≡ ending_number Spent

-- at every moment, pauses included, since a list of runs may end anywhere
abbrev pub StateCell : Type 0
StateCell =
    (lay : Layout) (pol : Policy) (ws mem : List ℕ) (gs : List RunInput) → HostPremise lay pol ws mem gs →
    CellLaws lay pol ws (after lay pol ws mem gs) × Every (OnlySpent lay ws) (all_runs lay pol ws mem gs)

-- ---- pauses for log or probe

-- a run that pauses leaves the machine running, on the third command of an event bundle
pub record Waiting (lay : Layout) (ws : List ℕ) (m : Machine) : Type 0 where
  pub running : m.status ≡ Running
  pub event : ℕ
  pub third : waiting_at lay ws m ≡ event ∷ []

abbrev pub PausedWaits : Type 0
PausedWaits =
    (lay : Layout) (pol : Policy) (ws mem : List ℕ) (gs : List RunInput) → HostPremise lay pol ws mem gs →
    Every (λ r. Paused r.result.outcome.answer.ending → Waiting lay ws r.result.outcome.machine) (all_runs lay pol ws mem gs)

-- at a pause the guest is before an event that the policy allows. The event's bundle has begun but is not done; all else agrees, the state cell too
pub record WaitsFor (lay : Layout) (pol : Policy) (code : List ℕ) (e : ℕ) (g : Guest) (c : Session) : Type 0 where
  pub begun : 1 ≤ c.begun
  pub event : routine code g.at ≡ EVENT e
  pub arrow : arrow pol g.state e ≡ no_arrow → ⊥
  pub simulates : SimulatesAt lay 2 g c

abbrev pub PauseRule : Type 0
PauseRule =
    (lay : Layout) (pol : Policy) (code mem : List ℕ) (room : ℕ) (gs : List RunInput) → (rewrite_answer lay code room).number ≡ 0 →
    let ws = commands_of lay code in
    let c = after lay pol ws mem gs in
    HostPremise lay pol ws mem gs → (w : Waiting lay ws c.machine) → WaitsFor lay pol code w.event (guest_for lay pol code mem c (c.begun - 1)) c
