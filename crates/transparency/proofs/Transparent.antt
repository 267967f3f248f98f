-- The sandbox does not alter a well-behaved routine: raw run, machine and engine all follow the guest rule.
use Prim.Native.Nat.{ℕ, suc, ◌+◌, ◌-◌, ◌<◌, ◌≤◌}
use mathlib.Core.Path.{◌≡◌, refl, sym, ◌∙◌, ap, subst}
use mathlib.Core.Bool.{true}
use mathlib.Core.Logic.{inl, inr, ⊎_elim}
use mathlib.Core.List.{List, [], ◌∷◌, ◌++◌}
use native.Mathlib.Omega.{arith}
use borrow.Author.Tests.{eq-eqb, eqb-true, ltb-true, ltb-false}
use lib.Dec.{eqb, ltb}
use lib.ListN.{length, get_or, take, drop, length-append, length-take, length-drop, get_or-append}
use lib.Seq.{get_or-append-add, get_or-take, get_or-drop, get_or-set_other}
use Rattle.types.specs.declared.Layout.{Layout}
use Rattle.types.specs.declared.Machine.{Machine}
use Rattle.types.specs.declared.Status.{Status}
use Rattle.spec.specs.Landings.{landings_of}
use Rattle.spec.specs.Layouts.{span, right_layout, in_box}
use Rattle.spec.specs.Policies.{Policy}
use Rattle.spec.specs.Words.{routine, bundles_for}
use Rattle.spec.specs.Bundles.{position_of, commands_of}
use Rattle.spec.specs.Machines.{install_memory, install_answer}
use Rattle.spec.specs.Guests.{Pair, Guest, guest_after, guest_start, box_of}
use Rattle.spec.specs.Runs.{RunInput, Session, begins, initial_session, waiting_at, after_run, after, HostPremise}
use Rattle.spec.specs.Claims.{with_budget, AtBoundary, Waiting, SimulatesAt, guest_for, ReachesBoundary}
use Rattle.spec.proofs.Bools.{no, both, cases}
use Rattle.spec.proofs.Lists.{after_more, lends_more}
use Rattle.spec.proofs.Facts.{InstalledFacts}
use Rattle.spec.proofs.Conditions.{fits_of, laid_of, policy_facts, sets_beside}
use Rattle.spec.proofs.Landings.{length_landings}
use Rattle.spec.proofs.Layouts.{LayoutFacts, layout_facts, in_box_lem}
use Rattle.spec.proofs.Masks.{masks}
use Rattle.spec.proofs.Isolation.{guest_rule}
use Rattle.spec.proofs.Pauses.{pause_rule}
use Rattle.spec.proofs.Progress.{resumes, progress}
use Rattle.engine_spec.specs.Claims.{Session as EngineSession, HostPremise as EnginePremise, after as engineAfter}
use Rattle.engine_spec.specs.Claims.{initial_session as initial_engine, run_on as engineOn, after_taken as engineTaken, after_run as engineRun}
use Rattle.engine_spec.specs.Engines.{refusal_of}
use Rattle.engine_spec.proofs.Rule.{engine_rule, same_guest, step_uses}
use Rattle.engine_spec.proofs.StepTogether.{takes, run_counts_one, machine_uses}
use Rattle.transparency.specs.Raw.{raw_start, raw_run}
use Rattle.transparency.specs.Claims.{IsPrefix, Behaved, SameAsRaw, Sandboxed, MachineSameAsRaw, Transparent, EngineTransparent}
use Rattle.transparency.specs.Claims.{TransparentPaused, TransparentNext, ContinuesAsRaw, ReachesSameAsRaw, TransparentStep, TransparentResumed}
use Rattle.transparency.specs.Claims.{EngineSameAsRaw, EngineTransparentNext, EngineTransparentStep}
use Rattle.transparency.proofs.RawSimulation.{RawSimulates, after_like}

-- a cell of the sandbox, in memory and in the guest's copy
box_cell : (lay : Layout) (mem : List ℕ) (i : ℕ) → lay.low ≤ lay.high → in_box lay i ≡ true → get_or (box_of lay mem) (i - lay.low) 0 ≡ get_or mem i 0
box_cell lay mem i o h =
    let p = in_box_lem lay i h in
    let z : lay.low + (i - lay.low) ≡ i = omega arith in
    get_or-take (span lay) (drop lay.low mem) (i - lay.low) 0 (omega arith) ∙ get_or-drop lay.low mem (i - lay.low) 0 ∙ ap (λ (y : ℕ). get_or mem y 0) z

module _ (lay : Layout) (pol : Policy) (code mem raw us reads : List ℕ) (k : ℕ) (z : (install_answer lay pol mem).number ≡ 0) (b : Behaved lay pol code mem raw us reads k) where
  fitted : (right_layout lay ≡ true) × (eqb (length mem) lay.size ≡ true)
  fitted = both (right_layout lay) (eqb (length mem) lay.size) (fits_of lay pol mem z).0

  installed : InstalledFacts lay pol (install_memory lay pol mem)
  installed = laid_of lay pol mem z

  facts : LayoutFacts lay
  facts = layout_facts lay fitted.0

  -- installing does not change the sandbox
  kept : (i : ℕ) → in_box lay i ≡ true → get_or (install_memory lay pol mem) i 0 ≡ get_or mem i 0
  unfolding install_memory
  kept i h =
      let p = in_box_lem lay i h in
      let q = policy_facts lay pol (fits_of lay pol mem z).1 in
      let wide = length_landings pol.landings in
      rw (eq-eqb _ _ z)
      (sets_beside (landings_of pol.landings) _ lay.landings i (⊎_elim (λ x. inl (omega arith)) (λ x. inr (omega (arith, wide))) facts.landings_box)
      ∙ sets_beside pol.table _ lay.table i (⊎_elim (λ x. inl (omega arith)) (λ x. inr (omega (arith, q.size, q.states))) facts.table_box)
      ∙ get_or-set_other mem lay.cell i pol.start 0 (λ e. ⊎_elim (λ (x : lay.cell < lay.low). omega arith) (λ (x : lay.high < lay.cell). omega arith) facts.cell_box))

  start_like : RawSimulates lay pol (guest_start lay pol (install_memory lay pol mem)) (raw_start raw)
  start_like =
      record {
        regs = refl;
        at = refl;
        cells = simp (length-take, length-drop) (omega (arith, installed.guarded.size, facts.box, facts.ordered));
        room = b.box.room;
        box = λ i h. sym (b.box.cells i h) ∙ sym (kept i h) ∙ sym (box_cell lay (install_memory lay pol mem) i facts.ordered h);
        records = refl;
        used = refl;
        status = refl;
        state = refl;
      }

  -- the guest with the readings that the runs used
  abbrev guest : Guest
  guest = guest_after lay pol (bundles_for (length code)) (routine code) us (guest_start lay pol (install_memory lay pol mem)) k

  -- the raw run agrees with that guest
  raw_like : length us ≡ guest.used → RawSimulates lay pol guest (raw_run lay code raw reads k)
  raw_like u =
      let N = bundles_for (length code) in
      let g0 = guest_start lay pol (install_memory lay pol mem) in
      let e = same_guest lay pol N (routine code) us reads g0 k (λ i m. b.readings i (omega (arith, u))) in
      subst (λ (g : Guest). RawSimulates lay pol g (raw_run lay code raw reads k)) (sym e)
      (after_like lay pol N (masks lay fitted.0).fixed reads (routine code) g0 (raw_start raw) k b.behaves start_like)

  -- what agrees with the guest agrees with the raw run
  alike : (regs m : List ℕ) (records : List Pair) (t : Status) → t ≡ guest.status → regs ≡ guest.regs → box_of lay m ≡ guest.box → records ≡ guest.records
      → length us ≡ guest.used → SameAsRaw lay (raw_run lay code raw reads k) regs m records (length us) t
  alike regs m records t e r x p u =
      let l = raw_like u in
      record {
        ending = e ∙ sym l.status;
        registers = r ∙ sym l.regs;
        box = λ i h. sym (box_cell lay m i facts.ordered h) ∙ ap (λ (y : List ℕ). get_or y (i - lay.low) 0) x ∙ sym (l.box i h);
        recorded = p ∙ sym l.records;
        readings = u ∙ sym l.used;
      }

-- a machine that agrees with the guest after k instructions agrees with the raw run
machine_alike : (lay : Layout) (pol : Policy) (code mem raw reads : List ℕ) (room : ℕ) (gs : List RunInput) (p k : ℕ) → Sandboxed lay pol code mem raw reads room gs k →
    let c = after lay pol (commands_of lay code) mem gs in
    SimulatesAt lay p (guest_for lay pol code mem c k) c → MachineSameAsRaw lay (raw_run lay code raw reads k) c
machine_alike lay pol code mem raw reads room gs p k x a =
    alike lay pol code mem raw _ reads k x.premise.installed x.behaved _ (after lay pol (commands_of lay code) mem gs).memory _ _ a.ending a.regs a.box a.records a.used

pub transparent : Transparent
transparent lay pol code mem raw reads room gs x s =
    machine_alike lay pol code mem raw reads room gs 0 _ x (guest_rule lay pol code mem room gs x.taken x.premise s)

pub transparent_paused : TransparentPaused
transparent_paused lay pol code mem raw reads room gs x w =
    machine_alike lay pol code mem raw reads room gs 2 _ x (pause_rule lay pol code mem room gs x.taken x.premise w).simulates

pub transparent_next : TransparentNext
transparent_next lay pol code mem raw reads room gs x s t g lg n =
    let u = transparent lay pol code mem raw reads room gs x s in
    progress lay pol (commands_of lay code) mem gs x.premise s (u.ending ∙ t) g lg n

-- ---- a run that continues
module _ (lay : Layout) (pol : Policy) (code mem raw reads : List ℕ) (room : ℕ) (gs : List RunInput) where
  abbrev commands : List ℕ
  commands = commands_of lay code

  abbrev now : Session
  now = after lay pol commands mem gs

  -- the guest with given readings
  abbrev guest_given : List ℕ → ℕ → Guest
  guest_given us j = guest_after lay pol (bundles_for (length code)) (routine code) us (guest_start lay pol (install_memory lay pol mem)) j

  -- the readings used after one more instruction are the raw run's
  prefix_more : (us : List ℕ) (j u : ℕ) (rd : List ℕ) → length us ≡ (guest_given us j).used → length (us ++ take u rd) ≡ (guest_given (us ++ take u rd) (suc j)).used
      → IsPrefix us reads → (1 ≤ length rd → get_or rd 0 0 ≡ get_or reads (length us) 0) → IsPrefix (us ++ take u rd) reads
  unfolding guest_after
  prefix_more us j u rd before later given next i h =
      let vs = us ++ take u rd in
      let all = length-append us (take u rd) in
      let same : guest_given us j ≡ guest_given vs j = same_guest lay pol (bundles_for (length code)) (routine code) us vs _ j
      (λ i m. sym (get_or-append us (take u rd) 0 i (omega (arith, before)))) in
      let one : length vs ≤ length us + 1 = omega (arith, later, before, ap (λ (g : Guest). g.used) same, step_uses lay pol (bundles_for (length code)) (routine code) vs vs (guest_given vs j)) in
      ⊎_elim (λ t. get_or-append us (take u rd) 0 i (ltb-true i (length us) t) ∙ given i (ltb-true i (length us) t))
      (λ t.
      let low = ltb-false i (length us) t in
      let e : i ≡ length us + 0 = omega arith in
      let some : 0 < u = omega (arith, length-take u rd) in
      let at : length us + 0 ≡ length us = omega arith in
      ap (λ (j : ℕ). get_or vs j 0) e ∙ get_or-append-add us (take u rd) 0 0 ∙ get_or-take u rd 0 0 some ∙ next (omega (arith, length-take u rd)) ∙ ap (λ (j : ℕ). get_or reads j 0) (sym at ∙ sym e))
      (cases (ltb i (length us)))

  follows : (j p : ℕ) → Sandboxed lay pol code mem raw reads room gs (suc j) → SimulatesAt lay p (guest_for lay pol code mem now j) now
      → (g : RunInput) → ContinuesAsRaw lay now.memory now.consumed reads g → ReachesBoundary lay commands now g (suc j) → ReachesSameAsRaw lay code raw reads now g (suc j)
  follows j p x a g o r =
      let h = with_budget g r.budget in
      let more : after lay pol commands mem (gs ++ (h ∷ [])) ≡ after_run lay commands now h = after_more (after_run lay commands) (initial_session lay pol mem) gs h in
      let v : HostPremise lay pol commands mem (gs ++ (h ∷ [])) =
      record {
        passed = x.premise.passed;
        installed = x.premise.installed;
        preserved = lends_more (after_run lay commands) lay (λ (c : Session). c.memory) (initial_session lay pol mem) gs h x.premise.preserved o.preserved;
      } in
      let to : AtBoundary lay (after lay pol commands mem (gs ++ (h ∷ []))).machine = subst (λ (c : Session). AtBoundary lay c.machine) (sym more) r.boundary in
      let k : (after lay pol commands mem (gs ++ (h ∷ []))).begun ≡ suc j = ap (λ (c : Session). c.begun) more ∙ r.begun in
      let d = after lay pol commands mem (gs ++ (h ∷ [])) in
      let u = machine_uses lay commands now h _ refl in
      let used : d.consumed ≡ now.consumed ++ take u.0 g.readings = ap (λ (c : Session). c.consumed) more ∙ u.1 in
      let sim = guest_rule lay pol code mem room (gs ++ (h ∷ [])) x.taken v to in
      let later = subst (λ (us : List ℕ). length us ≡ (guest_given us (suc j)).used) used (subst (λ (n : ℕ). length d.consumed ≡ (guest_given d.consumed n).used) k sim.used) in
      let given : IsPrefix d.consumed reads =
      subst (λ (us : List ℕ). IsPrefix us reads) (sym used) (prefix_more now.consumed j u.0 g.readings a.used later x.behaved.readings o.reading) in
      let all : Behaved lay pol code mem raw d.consumed reads (suc j) = record { box = x.behaved.box; readings = given; behaves = x.behaved.behaves } in
      let y : Sandboxed lay pol code mem raw reads room (gs ++ (h ∷ [])) d.begun =
      record { taken = x.taken; premise = v; behaved = subst (Behaved lay pol code mem raw d.consumed reads) (sym k) all } in
      let met = transparent lay pol code mem raw reads room (gs ++ (h ∷ [])) y to in
      record {
        reaches = r;
        same = subst (MachineSameAsRaw lay (raw_run lay code raw reads (suc j))) more (subst (λ (n : ℕ). MachineSameAsRaw lay (raw_run lay code raw reads n) d) k met);
      }

  -- the same with the count written as k
  follows_at : (k j p : ℕ) → suc j ≡ k → Sandboxed lay pol code mem raw reads room gs k → SimulatesAt lay p (guest_for lay pol code mem now j) now
      → (g : RunInput) → ContinuesAsRaw lay now.memory now.consumed reads g → ReachesBoundary lay commands now g k → ReachesSameAsRaw lay code raw reads now g k
  follows_at k j p e x a g o r =
      subst (ReachesSameAsRaw lay code raw reads now g) e (follows j p (subst (Sandboxed lay pol code mem raw reads room gs) (sym e) x) a g o (subst (ReachesBoundary lay commands now g) (sym e) r))

pub transparent_step : TransparentStep
transparent_step lay pol code mem raw reads room gs x s t g o n =
    let c = after lay pol (commands_of lay code) mem gs in
    let b = x.behaved in
    let y : Sandboxed lay pol code mem raw reads room gs c.begun =
    record { taken = x.taken; premise = x.premise; behaved = record { box = b.box; readings = b.readings; behaves = λ j m. b.behaves j (omega arith) } } in
    follows_at lay pol code mem raw reads room gs (c.begun + 1) c.begun 0 (omega arith) x (guest_rule lay pol code mem room gs x.taken x.premise s) g o
    (transparent_next lay pol code mem raw reads room gs y s t g o.preserved n)

-- on the third command no bundle begins
begins_none : (lay : Layout) (ws : List ℕ) (m : Machine) → Waiting lay ws m → begins lay m.pc ≡ 0
unfolding begins
begins_none lay ws m w =
    ⊎_elim (λ t. rw (eqb-true (position_of lay m.pc) 2 t)) (λ f. let none : waiting_at lay ws m ≡ [] = rw f in let e = w.third in no (cc)) (cases (eqb (position_of lay m.pc) 2))

pub transparent_resumed : TransparentResumed
transparent_resumed lay pol code mem raw reads room gs x w g o n =
    let ws = commands_of lay code in
    let c = after lay pol ws mem gs in
    let q = pause_rule lay pol code mem room gs x.taken x.premise w in
    let e : suc (c.begun - 1) ≡ c.begun = omega (arith, q.begun) in
    let none : c.begun + begins lay c.machine.pc ≡ c.begun = omega (arith, begins_none lay ws c.machine w) in
    follows_at lay pol code mem raw reads room gs c.begun (c.begun - 1) 2 e x q.simulates g o
    (subst (ReachesBoundary lay ws c g) none (resumes lay pol ws mem gs x.premise w.running g o.preserved n))

pub engine_transparent : EngineTransparent
engine_transparent lay pol code mem raw reads gs v b =
    let a = engine_rule lay pol code mem gs v in
    alike lay pol code mem raw _ reads _ v.installed b _ (engineAfter lay pol code mem gs).memory _ _ a.ending a.regs a.box a.records a.used

pub engine_transparent_next : EngineTransparentNext
engine_transparent_next lay pol code mem raw reads gs v b t g n =
    let u = engine_transparent lay pol code mem raw reads gs v b in
    run_counts_one lay code (engineAfter lay pol code mem gs) g (takes lay pol code mem gs v g n.memory) (u.ending ∙ t) n.goes

-- the readings used after a run
engine_uses : (lay : Layout) (ws : List ℕ) (c : EngineSession) (g : RunInput) → (refusal_of lay ws g.memory).number ≡ 0
    → (engineRun lay ws c g).consumed ≡ c.consumed ++ take (engineOn lay ws c g).outcome.used g.readings
unfolding engineRun engineTaken
engine_uses lay ws c g z = rw (eq-eqb _ _ z)

pub engine_transparent_step : EngineTransparentStep
engine_transparent_step lay pol code mem raw reads gs v b t g o none =
    let c = engineAfter lay pol code mem gs in
    let h = with_budget g 1 in
    let d = engineAfter lay pol code mem (gs ++ (h ∷ [])) in
    let start = initial_engine lay pol mem in
    let less : Behaved lay pol code mem raw c.consumed reads c.counted = record { box = b.box; readings = b.readings; behaves = λ j m. b.behaves j (omega arith) } in
    let more : d ≡ engineRun lay code c h = after_more (engineRun lay code) start gs h in
    let w : EnginePremise lay pol code mem (gs ++ (h ∷ [])) =
    record {
      taken = v.taken;
      installed = v.installed;
      preserved = lends_more (engineRun lay code) lay (λ (x : EngineSession). x.memory) start gs h v.preserved o.preserved;
    } in
    let one : (engineRun lay code c h).counted ≡ c.counted + 1 = engine_transparent_next lay pol code mem raw reads gs v less t g none in
    let next : c.counted + 1 ≡ suc c.counted = omega arith in
    let k : d.counted ≡ suc c.counted = ap (λ (x : EngineSession). x.counted) more ∙ one ∙ next in
    let n = (engineOn lay code c h).outcome.used in
    let used : d.consumed ≡ c.consumed ++ take n g.readings =
    ap (λ (x : EngineSession). x.consumed) more ∙ engine_uses lay code c h (takes lay pol code mem gs v h none.memory) in
    let later = subst (λ (us : List ℕ). length us ≡ (guest_given lay pol code mem raw reads 0 gs us (suc c.counted)).used) used
    (subst (λ (i : ℕ). length d.consumed ≡ (guest_given lay pol code mem raw reads 0 gs d.consumed i).used) k (engine_rule lay pol code mem (gs ++ (h ∷ [])) w).used) in
    let given : IsPrefix d.consumed reads =
    subst (λ (us : List ℕ). IsPrefix us reads) (sym used)
    (prefix_more lay pol code mem raw reads 0 gs c.consumed c.counted n g.readings (engine_rule lay pol code mem gs v).used later b.readings o.reading) in
    let all : Behaved lay pol code mem raw d.consumed reads (c.counted + 1) = record { box = b.box; readings = given; behaves = b.behaves } in
    let count : d.counted ≡ c.counted + 1 = k ∙ sym next in
    let met = engine_transparent lay pol code mem raw reads (gs ++ (h ∷ [])) w (subst (Behaved lay pol code mem raw d.consumed reads) (sym count) all) in
    record {
      counted = one;
      same = subst (EngineSameAsRaw lay (raw_run lay code raw reads (c.counted + 1))) more (subst (λ (i : ℕ). EngineSameAsRaw lay (raw_run lay code raw reads i) d) count met);
    }
