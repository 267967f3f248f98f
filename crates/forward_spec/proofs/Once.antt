-- One run with budget for all steps, and with log and readings for an event in each bundle but the last, never pauses and so finishes.
use mathlib.Core.Path.{◌≡◌, refl, sym, ◌∙◌, ap, subst}
use mathlib.Core.Bool.{true, false}
use mathlib.Core.Logic.{◌⊎◌, inl, inr, ⊎_elim}
use mathlib.Core.List.{List, [], ◌∷◌, ◌++◌}
use Prim.Native.Nat.{ℕ, zero, suc, ◌+◌, ◌-◌, ◌*◌, ◌/◌, ◌%◌, ◌^◌, ◌<◌, ◌≤◌}
use native.Mathlib.Omega.{arith}
use borrow.Author.Tests.{eqb-true, eqb-false, eq-eqb}
use lib.Dec.{eqb}
use lib.ListN.{length, length-set}
use Rattle.types.specs.declared.Layout.{Layout}
use Rattle.types.specs.declared.Instr.{Instr}
use Rattle.types.specs.declared.Machine.{Machine}
use Rattle.types.specs.declared.Status.{Status}
use Rattle.types.specs.declared.Status.TheVariants.{Running}
use Rattle.types.specs.declared.Effect.{Effect}
use Rattle.types.specs.declared.Effect.TheVariants.{Go, SetReg, SetCell, Order, Probe, End, Wait}
use Rattle.types.specs.Names.{bundle_length}
use Rattle.spec.specs.Commands.{fetch_of}
use Rattle.spec.specs.Bundles.{shape_of, bundle_at}
use Rattle.spec.specs.Machines.{View, State, RunResult, effect_of, apply_of, view_at, next_of, step_of, run_from, start_of, run_of, fits, loop_from}
use Rattle.spec.specs.Runs.{RunInput, each_run, after_all, Session, initial_session, run_on, after_taken, after_run, after, HostPremise}
use Rattle.spec.proofs.Bools.{cases}
use Rattle.spec.proofs.Facts.{Bundled}
use Rattle.spec.proofs.Loops.{Goes}
use Rattle.spec.proofs.Lists.{after_more, lends_first}
use Rattle.spec.proofs.Endings.{goes, run_ind}
use Rattle.spec.proofs.Conditions.{bundled_of, right_of, layout_of_lem}
use Rattle.spec.proofs.Progress.{Still, still, quiet}
use Rattle.forward_spec.specs.Claims.{steps_in, FinishesAtOnce, pauses}
use Rattle.forward_spec.proofs.Runs.{runs_of, after_runs, ending_plain, all_spent}
use Rattle.forward_spec.proofs.Class.{AllForward, class_of}
use Rattle.forward_spec.proofs.Bound.{Leads, Ahead, ahead_step, on_by_one, split, below_end, next_leads, ahead_all}
use Rattle.forward_spec.proofs.Finish.{going_or_over}

-- ---- only a bundle's third command pauses or records
abbrev Third : ℕ → Effect → Type 0
Third p e = Still e ⊎ (p ≡ 2)

third : (lay : Layout) (n : ℕ) (i : Instr) (p : ℕ) (v : View) → Third p (effect_of (shape_of lay n i p) v)
third lay n i p v =
    ⊎_elim (λ (e : eqb p 2 ≡ true). inr (eqb-true p 2 e)) (λ (e : eqb p 2 ≡ false). inl (still (shape_of lay n i p) v (quiet lay n i p (eqb-false p 2 e)))) (cases (eqb p 2))

-- an order or a reading is at the third command
order_third : (p v : ℕ) → Third p (Order v) → p ≡ 2
order_third p v (inl q) = absurd q
order_third p v (inr z) = z

probe_third : (p v : ℕ) → Third p (Probe v) → p ≡ 2
probe_third p v (inl q) = absurd q
probe_third p v (inr z) = z

-- ---- there are no more pairs and readings than bundles behind the machine; a bundle counts from its fourth command on
record Few (base size : ℕ) (s : State) : Type 0 where
  log : size ≡ length s.log
  pairs : s.status ≡ Running → base + bundle_length * s.pairs ≤ s.pc + 1
  used : s.status ≡ Running → base + bundle_length * s.used ≤ s.pc + 1

-- from the third command of a bundle to the fourth
one_on : (base q pc : ℕ) → base ≤ pc → base + bundle_length * q ≤ pc + 1 → (pc - base) % bundle_length ≡ 2 → base + bundle_length * (q + 1) ≤ pc + 1 + 1
one_on base q pc l h e = omega arith

few_step : (caps rd : List ℕ) (base top size : ℕ) (s : State) (e : Effect) → top < 2 ^ 32 → Goes e → s.status ≡ Running → base ≤ s.pc → Few base size s
    → Leads s.pc top e → Third ((s.pc - base) % bundle_length) e → Few base size (apply_of caps rd e s)
unfolding apply_of
few_step caps rd base top size s (Go to) b g r l f d q = let x = f.pairs r in let y = f.used r in record { log = f.log; pairs = λ _. omega (arith, d.0); used = λ _. omega (arith, d.0) }
few_step caps rd base top size s (SetReg i v) b g r l f d q =
    let x = f.pairs r in let y = f.used r in let e = on_by_one s.pc top d b in record { log = f.log; pairs = λ _. omega arith; used = λ _. omega arith }
few_step caps rd base top size s (SetCell i v) b g r l f d q =
    let x = f.pairs r in let y = f.used r in let e = on_by_one s.pc top d b in record { log = f.log; pairs = λ _. omega arith; used = λ _. omega arith }
few_step caps rd base top size s (Order v) b g r l f d q =
    let p = order_third _ v q in let x = one_on base s.pairs s.pc l (f.pairs r) p in let y = f.used r in let e = on_by_one s.pc top d b in
    record { log = f.log ∙ simp length-set; pairs = λ _. omega arith; used = λ _. omega arith }
few_step caps rd base top size s (Probe v) b g r l f d q =
    let p = probe_third _ v q in let x = one_on base s.pairs s.pc l (f.pairs r) p in let y = one_on base s.used s.pc l (f.used r) p in let e = on_by_one s.pc top d b in
    record { log = f.log ∙ simp length-set; pairs = λ _. omega arith; used = λ _. omega arith }
few_step caps rd base top size s (End t) b g r l f d q = record { log = f.log; pairs = λ e. absurd (d.0 e); used = λ e. absurd (d.0 e) }
few_step caps rd base top size s (Wait w) b g r l f d q = absurd (g w refl)

-- on a third command, which is never in the last bundle, there is room for one more
room_for : (base n k u pc size left : ℕ) → base ≤ pc → (pc - base) % bundle_length ≡ 2 → base + bundle_length * k ≤ pc + 1 → base + bundle_length * u ≤ pc + 1
    → pc ≤ base + bundle_length * (n - 1) → 2 * (n - 1) ≤ size → n - 1 ≤ left → (2 ≤ size - 2 * k) × (1 ≤ left - u)
room_for base n k u pc size left b p x y l s r = (omega arith, omega arith)

module _ (lay : Layout) (ws : List ℕ) (n : ℕ) (is : ℕ → Instr) (room : lay.base + bundle_length * n ≤ 2 ^ 32) (bs : Bundled lay ws n is) (fw : AllForward n is)
    (rd : List ℕ) (size : ℕ) (ls : 2 * (n - 1) ≤ size) (lr : n - 1 ≤ length rd) where
  abbrev top : ℕ
  top = lay.base + bundle_length * (n - 1)

  next_third : (s : State) → lay.base ≤ s.pc → s.pc ≤ top → Third ((s.pc - lay.base) % bundle_length) (next_of lay ws rd s)
  next_third s l u =
      let h = (s.pc - lay.base) / bundle_length in
      let p = (s.pc - lay.base) % bundle_length in
      let w = split lay.base n s.pc l u bs.some in
      let e : fetch_of ws lay.base s.pc ≡ shape_of lay n (is h) p = ap (fetch_of ws lay.base) w.2 ∙ bs.each h p w.0 w.1 in
      rw e (third lay n (is h) p (view_at lay rd s))

  no_wait : (s : State) → s.status ≡ Running → lay.base ≤ s.pc → s.pc ≤ top → Few lay.base size s → Goes (next_of lay ws rd s)
  no_wait s r l u f =
      ⊎_elim
      (λ q w z. subst Still z q)
      (λ p.
      let z = f.log in
      let m = room_for lay.base n s.pairs s.used s.pc size (length rd) l p (f.pairs r) (f.used r) u ls lr in
      goes (fetch_of ws lay.base s.pc) (view_at lay rd s) (omega (arith, m.0)) m.1)
      (next_third s l u)

  never_pauses : (j k : ℕ) (s : State) → Ahead lay.base n k s.pc s.status → Few lay.base size s → pauses (run_from lay ws rd j k s).outcome.answer.ending ≡ false
  unfolding loop_from
  never_pauses zero k s a f = ending_plain s.status
  never_pauses (suc j) k s a f =
      run_ind lay ws rd j k s (λ (r : RunResult). pauses r.outcome.answer.ending ≡ false)
      (λ _. ending_plain s.status)
      (λ r w z. let o = a.on r in absurd (no_wait s r (omega (arith, o.0)) o.1 f w z))
      (λ r g.
      let o = a.on r in
      let l : lay.base ≤ s.pc = omega (arith, o.0) in
      let below = below_end lay ws n is room bs fw in
      let d = next_leads lay ws n is room bs fw rd s l o.1 in
      never_pauses j (k + 1) (step_of lay ws rd s)
      (ahead_step lay.ceilings rd lay.base n k s (next_of lay ws rd s) below g r o.0 o.1 d)
      (few_step lay.ceilings rd lay.base top size s (next_of lay ws rd s) below g r l f d (next_third s l o.1)))

-- ---- a further run of a list
module _ (lay : Layout) (ws : List ℕ) where
  steps_last : (c : Session) (gs : List RunInput) (g : RunInput) → (run_on lay ws (after_runs lay ws c gs) g).outcome.answer.steps ≤ steps_in (runs_of lay ws c (gs ++ (g ∷ [])))
  unfolding after_all each_run
  steps_last c [] g = omega arith
  steps_last c (x ∷ gs) g = omega (arith, steps_last (after_run lay ws c x) gs g)

-- a machine after t steps is also one after 0 steps
fewer : (base n t pc : ℕ) (st : Status) → Ahead base n t pc st → Ahead base n 0 pc st
fewer base n t pc st a = record { most = omega arith; on = λ r. (omega (arith, (a.on r).0), (a.on r).1); lands = a.lands }

pub finishes_at_once : FinishesAtOnce
unfolding after_run after_taken run_on run_of
finishes_at_once lay pol ws mem gs g f v am =
    let n = length ws / bundle_length in
    let is = bundle_at lay ws in
    let bs = bundled_of lay ws v.passed in
    let ok = right_of lay pol ws mem v.passed v.installed in
    let v₀ : HostPremise lay pol ws mem gs = record {
      passed = v.passed;
      installed = v.installed;
      preserved = lends_first (after_run lay ws) lay (λ (c : Session). c.memory) (initial_session lay pol mem) gs (g ∷ []) v.preserved;
    } in
    let c = after lay pol ws mem gs in
    let s = start_of c.machine g.memory g.log in
    let t : fits lay g.memory ≡ true = rw (layout_of_lem lay ws v.passed, eq-eqb (length g.memory) lay.size am.memory) in
    let a₀ = fewer _ _ _ _ _ (ahead_all lay pol ws mem gs f v₀) in
    let calm =
    never_pauses lay ws n is ok.room bs (class_of lay ws f) g.readings (length g.log) am.log am.readings g.budget 0 s a₀
    (record { log = refl; pairs = λ r. omega (arith, (a₀.on r).0); used = λ r. omega (arith, (a₀.on r).0) }) in
    let a = ahead_all lay pol ws mem (gs ++ (g ∷ [])) f v in
    let ran : run_on lay ws c g ≡ run_from lay ws g.readings g.budget 0 s = rw t in
    let left : (after lay pol ws mem (gs ++ (g ∷ []))).machine ≡ (run_from lay ws g.readings g.budget 0 s).outcome.machine = ap
    (λ (x : Session). x.machine) (after_more (after_run lay ws) (initial_session lay pol mem) gs g) ∙ rw t in
    ⊎_elim
    (λ run.
    let o = a.on run in
    let spent = all_spent lay ws g.readings g.budget 0 s (ap (λ (m : Machine). m.status) (sym left) ∙ run) calm in
    let last = steps_last lay ws (initial_session lay pol mem) gs g in
    let same = ap (λ (r : RunResult). r.outcome.answer.steps) ran in
    absurd (omega (arith, o.0, o.1, am.budget)))
    (λ x. x)
    (going_or_over lay pol ws mem (gs ++ (g ∷ [])) f v)
