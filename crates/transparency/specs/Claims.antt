-- Claims that the sandbox does not alter a well-behaved routine, in the machine and in the engine.
use Rattle.std.specs.Prelude.{ℕ, ◌+◌, ◌-◌, ◌<◌, ◌≤◌, ◌≡◌, true, List, length, get_or, take}
use Rattle.types.specs.declared.Layout.{Layout}
use Rattle.types.specs.declared.Status.{Status}
use Rattle.types.specs.declared.Status.TheVariants.{Running}
use Rattle.types.specs.Names.{guest_registers}
use Rattle.spec.specs.Layouts.{in_box}
use Rattle.spec.specs.Policies.{Policy}
use Rattle.spec.specs.Words.{routine, bundles_for}
use Rattle.spec.specs.Bundles.{rewrite_answer, commands_of}
use Rattle.spec.specs.Guests.{Pair}
use Rattle.spec.specs.Runs.{RunInput, Session, after_run, MemoryPreserved, HostPremise, after}
use Rattle.spec.specs.Claims.{AtBoundary, Waiting, ReachesBoundary, with_budget, NoPause}
use Rattle.engine_spec.specs.Claims.{Session as EngineSession, HostPremise as EnginePremise, after as engineAfter, after_run as engineRun, EngineNoPause}
use Rattle.transparency.specs.Raw.{Raw, raw_start, raw_run, BehavesFor}

-- a memory for the raw run that has the same cells in the sandbox
pub record SameBox (lay : Layout) (mem raw : List ℕ) : Type 0 where
  pub room : lay.high < length raw
  pub cells : (i : ℕ) → in_box lay i ≡ true → get_or mem i 0 ≡ get_or raw i 0

-- the readings that the runs used are a prefix of the raw run's; the raw run reads 0 past the end of its own
abbrev pub IsPrefix : List ℕ → List ℕ → Type 0
IsPrefix used reads = (i : ℕ) → i < length used → get_or used i 0 ≡ get_or reads i 0

-- [14]'s premise: the raw run behaves well for k instructions. It starts with the same sandbox cells, and the sandboxed run used a prefix of its readings
pub record Behaved (lay : Layout) (pol : Policy) (code mem raw used reads : List ℕ) (k : ℕ) : Type 0 where
  pub box : SameBox lay mem raw
  pub readings : IsPrefix used reads
  pub behaves : BehavesFor lay pol (bundles_for (length code)) (routine code) reads (raw_start raw) k

-- 'the same records, the same r0 to r14 and sandbox, and the same ending or none', and as many readings used.
-- The ending is the record's status: no raw run stops or strays, so no sandboxed one does
pub record SameAsRaw (lay : Layout) (r : Raw) (regs mem : List ℕ) (records : List Pair) (used : ℕ) (t : Status) : Type 0 where
  pub ending : t ≡ r.status
  pub registers : regs ≡ r.regs
  pub box : (i : ℕ) → in_box lay i ≡ true → get_or mem i 0 ≡ get_or r.mem i 0
  pub recorded : records ≡ r.records
  pub readings : used ≡ r.used

-- ---- the machine

-- 'a routine that the rewriter takes', 'newly installed, on demand 3's premise', behaves for k instructions
pub record Sandboxed (lay : Layout) (pol : Policy) (code mem raw reads : List ℕ) (room : ℕ) (gs : List RunInput) (k : ℕ) : Type 0 where
  pub taken : (rewrite_answer lay code room).number ≡ 0
  pub premise : HostPremise lay pol (commands_of lay code) mem gs
  pub behaved : Behaved lay pol code mem raw (after lay pol (commands_of lay code) mem gs).consumed reads k

-- the machine after its runs, compared in r0 to r14
abbrev pub MachineSameAsRaw : Layout → Raw → Session → Type 0
MachineSameAsRaw lay r c = SameAsRaw lay r (take guest_registers c.machine.regs) c.memory c.records (length c.consumed) c.machine.status

-- at every boundary, machine and raw run agree. The raw run has executed as many instructions as the runs began bundles, and behaved.
-- Lists of runs may end anywhere, so this holds for every number of instructions
abbrev pub Transparent : Type 0
Transparent =
    (lay : Layout) (pol : Policy) (code mem raw reads : List ℕ) (room : ℕ) (gs : List RunInput) →
    let c = after lay pol (commands_of lay code) mem gs in
    Sandboxed lay pol code mem raw reads room gs c.begun → AtBoundary lay c.machine → MachineSameAsRaw lay (raw_run lay code raw reads c.begun) c

-- at a pause, on the third command of an event bundle, they agree too; the raw run has executed the instructions before the event
abbrev pub TransparentPaused : Type 0
TransparentPaused =
    (lay : Layout) (pol : Policy) (code mem raw reads : List ℕ) (room : ℕ) (gs : List RunInput) →
    let c = after lay pol (commands_of lay code) mem gs in
    Sandboxed lay pol code mem raw reads room gs (c.begun - 1) → Waiting lay (commands_of lay code) c.machine → MachineSameAsRaw lay (raw_run lay code raw reads (c.begun - 1)) c

-- 'A pause is no instruction, and a run that can go on follows it'. If the raw run has not ended, the sandboxed one executes one bundle
-- within four steps, if it is lent its memory and does not pause
abbrev pub TransparentNext : Type 0
TransparentNext =
    (lay : Layout) (pol : Policy) (code mem raw reads : List ℕ) (room : ℕ) (gs : List RunInput) →
    let c = after lay pol (commands_of lay code) mem gs in
    Sandboxed lay pol code mem raw reads room gs c.begun → AtBoundary lay c.machine → (raw_run lay code raw reads c.begun).status ≡ Running →
    (g : RunInput) → MemoryPreserved lay c.memory g → NoPause lay (commands_of lay code) c g → ReachesBoundary lay (commands_of lay code) c g (c.begun + 1)

-- a run's input with the last memory. Its first reading, if it has one, is the raw run's next one after the readings used
pub record ContinuesAsRaw (lay : Layout) (mem used reads : List ℕ) (g : RunInput) : Type 0 where
  pub preserved : MemoryPreserved lay mem g
  pub reading : 1 ≤ length g.readings → get_or g.readings 0 0 ≡ get_or reads (length used) 0

-- within four steps the machine is at a boundary with k bundles begun, and agrees with the raw run after k instructions
pub record ReachesSameAsRaw (lay : Layout) (code raw reads : List ℕ) (c : Session) (g : RunInput) (k : ℕ) : Type 0 where
  pub reaches : ReachesBoundary lay (commands_of lay code) c g k
  pub same : MachineSameAsRaw lay (raw_run lay code raw reads k) (after_run lay (commands_of lay code) c (with_budget g reaches.budget))

-- from a boundary, the machine follows the raw run's next instruction, if that behaves well too and the machine does not pause
abbrev pub TransparentStep : Type 0
TransparentStep =
    (lay : Layout) (pol : Policy) (code mem raw reads : List ℕ) (room : ℕ) (gs : List RunInput) →
    let c = after lay pol (commands_of lay code) mem gs in
    Sandboxed lay pol code mem raw reads room gs (c.begun + 1) → AtBoundary lay c.machine → (raw_run lay code raw reads c.begun).status ≡ Running →
    (g : RunInput) → ContinuesAsRaw lay c.memory c.consumed reads g → NoPause lay (commands_of lay code) c g → ReachesSameAsRaw lay code raw reads c g (c.begun + 1)

-- from a pause, it follows the instruction whose bundle it had begun, if it does not pause again
abbrev pub TransparentResumed : Type 0
TransparentResumed =
    (lay : Layout) (pol : Policy) (code mem raw reads : List ℕ) (room : ℕ) (gs : List RunInput) →
    let c = after lay pol (commands_of lay code) mem gs in
    Sandboxed lay pol code mem raw reads room gs c.begun → Waiting lay (commands_of lay code) c.machine →
    (g : RunInput) → ContinuesAsRaw lay c.memory c.consumed reads g → NoPause lay (commands_of lay code) c g → ReachesSameAsRaw lay code raw reads c g c.begun

-- ---- the engine

-- the engine after its runs
abbrev pub EngineSameAsRaw : Layout → Raw → EngineSession → Type 0
EngineSameAsRaw lay r c = SameAsRaw lay r c.engine.regs c.memory c.records (length c.consumed) c.engine.status

-- wherever a list of runs ends, the engine agrees with the raw run after as many instructions
abbrev pub EngineTransparent : Type 0
EngineTransparent =
    (lay : Layout) (pol : Policy) (code mem raw reads : List ℕ) (gs : List RunInput) → EnginePremise lay pol code mem gs →
    let c = engineAfter lay pol code mem gs in
    Behaved lay pol code mem raw c.consumed reads c.counted →
    EngineSameAsRaw lay (raw_run lay code raw reads c.counted) c

-- if the raw run has not ended, an engine that does not pause executes one more instruction
abbrev pub EngineTransparentNext : Type 0
EngineTransparentNext =
    (lay : Layout) (pol : Policy) (code mem raw reads : List ℕ) (gs : List RunInput) → EnginePremise lay pol code mem gs →
    let c = engineAfter lay pol code mem gs in
    Behaved lay pol code mem raw c.consumed reads c.counted → (raw_run lay code raw reads c.counted).status ≡ Running →
    (g : RunInput) → EngineNoPause lay code c (with_budget g 1) → (engineRun lay code c (with_budget g 1)).counted ≡ c.counted + 1

-- the engine has counted k instructions, and agrees with the raw run after k
pub record FollowsRaw (lay : Layout) (code raw reads : List ℕ) (c : EngineSession) (k : ℕ) : Type 0 where
  pub counted : c.counted ≡ k
  pub same : EngineSameAsRaw lay (raw_run lay code raw reads k) c

-- from any moment, after a pause too, the engine follows the raw run's next instruction, if that behaves well and the engine does not pause
abbrev pub EngineTransparentStep : Type 0
EngineTransparentStep =
    (lay : Layout) (pol : Policy) (code mem raw reads : List ℕ) (gs : List RunInput) → EnginePremise lay pol code mem gs →
    let c = engineAfter lay pol code mem gs in
    Behaved lay pol code mem raw c.consumed reads (c.counted + 1) → (raw_run lay code raw reads c.counted).status ≡ Running →
    (g : RunInput) → ContinuesAsRaw lay c.memory c.consumed reads g → EngineNoPause lay code c (with_budget g 1) →
    FollowsRaw lay code raw reads (engineRun lay code c (with_budget g 1)) (c.counted + 1)
