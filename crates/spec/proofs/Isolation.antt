-- The claims over lists of runs: guest rule, pc, isolation.
use mathlib.Core.Path.{◌≡◌, refl, sym, ◌∙◌, ap, subst}
use mathlib.Core.Bool.{true, false, ◌&&◌}
use mathlib.Core.Logic.{⊎_elim}
use mathlib.Core.List.{List, []}
use Prim.Native.Nat.{ℕ, ◌+◌, ◌-◌, ◌*◌, ◌/◌, ◌^◌, ◌<◌, ◌≤◌}
use native.Mathlib.Omega.{arith}
use lib.Dec.{leb, ltb}
use lib.ListN.{length}
use borrow.Author.Tests.{ltb-true, leb-true, eqb-true}
use Rattle.types.specs.declared.Layout.{Layout}
use Rattle.types.specs.declared.Instr.{Instr}
use Rattle.types.specs.declared.Machine.{Machine}
use Rattle.types.specs.Names.{most_bundles, bundle_length}
use Rattle.spec.specs.Layouts.{in_box, in_table, in_landings, protected}
use Rattle.spec.specs.Policies.{Policy, allowed}
use Rattle.spec.specs.Words.{routine, bundles_for}
use Rattle.spec.specs.Bundles.{commands_of, bundle_at, rewrite_answer}
use Rattle.spec.specs.Machines.{next_pc, install_answer, install_memory}
use Rattle.spec.specs.Guests.{Pair, guest_start}
use Rattle.spec.specs.Runs.{RunInput, events_of, session_of, initial_session, after_run, after, HostPremise}
use Rattle.spec.specs.Claims.{with_budget, GuestRule, NoWrap, Recorded, Isolation}
use Rattle.spec.proofs.Bools.{both, either}
use Rattle.spec.proofs.Facts.{Ready, Right, Bundled}
use Rattle.spec.proofs.Conditions.{passed_of, bundled_of, right_of, laid_of, machine_of_lem, taken_of, routine_word, routine_valid, routine_last, bundled_routine, right_routine}
use Rattle.spec.proofs.Passing.{back}
use Rattle.spec.proofs.Simulation.{SessionInvariant}
use Rattle.spec.proofs.RunSimulation.{recorded as recorded-runs, stays_run, stays_runs, install, simulates_after, pc_in, allowed_runs, sound_runs, kept_runs, lasts}
use Rattle.spec.proofs.Noninterference.{noninterference}

-- the invariant holds after an installation that was taken (0)
at_first : (lay : Layout) (pol : Policy) (ws mem : List ℕ) (n : ℕ) (is : ℕ → Instr) → Right lay pol n → Bundled lay ws n is
    → (install_answer lay pol mem).number ≡ 0 → SessionInvariant lay pol n is (guest_start lay pol (install_memory lay pol mem)) (initial_session lay pol mem)
at_first lay pol ws mem n is ok bs z =
    subst (λ (m : Machine). SessionInvariant lay pol n is (guest_start lay pol (install_memory lay pol mem)) (session_of m (install_memory lay pol mem) [] [] 0)) (sym (machine_of_lem lay pol mem z))
    (install lay pol ws n is ok bs (install_memory lay pol mem) (laid_of lay pol mem z))

-- what the premise gives: layout and commands are right for n instructions, which can be read off the commands,
-- and the invariant holds after the list of runs
pub record SimulatedRuns (lay : Layout) (pol : Policy) (ws mem : List ℕ) (gs : List RunInput) (n : ℕ) (is : ℕ → Instr) : Type 0 where
  pub right : Right lay pol n
  pub bundled : Bundled lay ws n is
  pub read : (h : ℕ) → h < n → bundle_at lay ws h ≡ is h
  pub first : SessionInvariant lay pol n is (guest_start lay pol (install_memory lay pol mem)) (initial_session lay pol mem)
  pub last : SessionInvariant lay pol n is (guest_start lay pol (install_memory lay pol mem)) (after lay pol ws mem gs)

simulated : (lay : Layout) (pol : Policy) (ws mem : List ℕ) (gs : List RunInput) (n : ℕ) (is : ℕ → Instr) → Right lay pol n → Bundled lay ws n is
    → ((h : ℕ) → h < n → bundle_at lay ws h ≡ is h) → HostPremise lay pol ws mem gs → SimulatedRuns lay pol ws mem gs n is
simulated lay pol ws mem gs n is ok bs read v =
    let w = at_first lay pol ws mem n is ok bs v.installed in
    record { right = ok; bundled = bs; read = read; first = w; last = stays_runs lay pol ws n is ok bs _ (initial_session lay pol mem) gs v.preserved w }

-- for a passed list, by the instructions read off it, and for a rewritten routine
pub list_simulated : (lay : Layout) (pol : Policy) (ws mem : List ℕ) (gs : List RunInput) → HostPremise lay pol ws mem gs → SimulatedRuns lay pol ws mem gs (length ws / bundle_length) (bundle_at lay ws)
list_simulated lay pol ws mem gs v = simulated lay pol ws mem gs _ _ (right_of lay pol ws mem v.passed v.installed) (bundled_of lay ws v.passed) (λ h l. refl) v

pub routine_simulated : (lay : Layout) (pol : Policy) (code mem : List ℕ) (room : ℕ) (gs : List RunInput) → (rewrite_answer lay code room).number ≡ 0
    → HostPremise lay pol (commands_of lay code) mem gs → SimulatedRuns lay pol (commands_of lay code) mem gs (bundles_for (length code)) (routine code)
routine_simulated lay pol code mem room gs z v =
    let t = taken_of lay code room z in
    simulated lay pol (commands_of lay code) mem gs _ _ (right_routine lay pol code mem room z v.installed) (bundled_routine lay code room z)
    (back lay _ (commands_of lay code) (routine code) (routine_word lay code t) (λ h _. routine_valid lay code t h) (routine_last lay code t))
    v

pub guest_rule : GuestRule
guest_rule lay pol code mem room gs z v x =
    let t = routine_simulated lay pol code mem room gs z v in
    simulates_after lay pol _ _ _ t.right t.bundled _ (after lay pol (commands_of lay code) mem gs) x t.last

-- if an address of the list plus 1, modulo 2 ^ 32, is in the list, then nothing wrapped
no_turn : (base n pc to : ℕ) → n ≤ most_bundles → base + bundle_length * n ≤ 2 ^ 32 → pc < base + bundle_length * n → base ≤ to → to ≡ next_pc pc → pc + 1 < 2 ^ 32
no_turn base n pc to most room l k e = omega arith

pub no_wrap : NoWrap
no_wrap lay pol ws mem gs v =
    let p = passed_of lay ws v.passed in
    let t = list_simulated lay pol ws mem gs v in
    let c = after lay pol ws mem gs in
    let i = pc_in lay pol ws _ _ t.right t.bundled _ c t.last in
    record {
      from = i.0;
      within = omega (arith, i.1, p.count);
      top = omega (arith, t.right.room, p.count);
      increment =
          λ g lent e.
          let w = stays_run lay pol ws _ _ t.right t.bundled _ c (with_budget g 1) _ refl lent t.last in
          no_turn lay.base _ c.machine.pc _ p.most t.right.room i.1 (pc_in lay pol ws _ _ t.right t.bundled _ (after_run lay ws c (with_budget g 1)) w).0 e;
    }

-- a cell of a range that lies outside the sandbox
range_out : (lay : Layout) (from size i : ℕ) → ((j : ℕ) → j < size → in_box lay (from + j) ≡ false) → (leb from i && ltb i (from + size)) ≡ true → in_box lay i ≡ false
range_out lay from size i out e =
    let b = both _ _ e in
    let low : from ≤ i = leb-true _ _ b.0 in
    let high : i < from + size = ltb-true _ _ b.1 in
    let z : from + (i - from) ≡ i = omega arith in
    rw z at (out (i - from) (omega arith))

-- a protected cell other than the state cell is outside the sandbox
pub protected_out : (lay : Layout) (pol : Policy) (n i : ℕ) → Ready lay pol n → protected lay i ≡ true → (i ≡ lay.cell → ⊥) → in_box lay i ≡ false
unfolding protected in_table in_landings
protected_out lay pol n i ok p ne =
    ⊎_elim (λ e. absurd (ne (eqb-true i lay.cell e)))
    (λ q. ⊎_elim (range_out lay lay.table _ i ok.table_out) (range_out lay lay.landings _ i ok.landings_out) (either _ _ q))
    (either _ _ p)

pub recorded : Recorded
recorded lay pol ws mem gs = recorded-runs lay ws (initial_session lay pol mem) gs

pub isolation : Isolation
isolation lay pol ws mem gs v =
    let t = list_simulated lay pol ws mem gs v in
    let ok = t.right in
    let bs = t.bundled in
    record {
      faultless = sound_runs lay pol ws _ _ ok bs _ (initial_session lay pol mem) gs v.preserved t.first;
      frame = kept_runs lay pol ws _ _ ok bs _ (initial_session lay pol mem) gs v.preserved t.first;
      protected_kept = λ i p ne. lasts lay pol ws _ _ ok bs _ (initial_session lay pol mem) gs v.preserved t.first i (protected_out lay pol _ i ok.ready p ne) ne p;
      allowed =
          ap (λ (ps : List Pair). allowed pol (events_of ps)) (sym (recorded lay pol ws mem gs))
          ∙ allowed_runs lay pol ws _ _ ok bs _ (after lay pol ws mem gs) t.last;
      noninterference = noninterference lay pol ws mem gs _ _ ok bs t.first v;
    }
