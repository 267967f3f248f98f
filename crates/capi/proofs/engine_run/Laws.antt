-- The engine's record and answer, said of the numbers of a C host.
use Prim.Native.Nat.{ℕ, ◌+◌, ◌^◌, ◌<◌, ◌≤◌}
use mathlib.Core.Path.{◌≡◌, sym, ap, subst}
use mathlib.Core.List.{List}
use native.Mathlib.Omega.{arith}
use lib.ListN.{length}
use Rattle.std.specs.Prelude.{Result}
use Rattle.types.specs.declared.Layout.{Layout}
use Rattle.types.specs.declared.Reject.{Reject}
use Rattle.types.specs.Names.{guest_registers, most_instructions}
use Rattle.spec.specs.Machines.{run_result_of}
use Rattle.capi_spec.specs.Numbers.{layout_from, numbers_after, trailer}
use Rattle.capi_spec.proofs.Numbers.{untouched}
use Rattle.capi_spec.specs.Hosts.{host_result, host_after}
use Rattle.engine_spec.specs.declared.Engine.{Engine}
use Rattle.engine_spec.specs.declared.EngineRun.{EngineRun}
use Rattle.engine_spec.specs.Engines.{EngineOutcome, RunResult, outcome_from, run_of}
use Rattle.engine_spec.specs.Continues.{continue_of}
use Rattle.engine_spec.proofs.Isolation.{RunCounts, run_counts, run_place}
use Rattle.engine_spec.proofs.Continues.{continue_counts, continue_place}
use Rattle.capi_spec.specs.engine.Records.{engine_from, engine_to, answer_to, NumbersFit, result_to, engine_for, continue_for}

-- a refused run leaves the record's numbers
pub stays : (xs : List ℕ) → length xs ≡ guest_registers + trailer → xs ≡ numbers_after guest_registers xs (engine_to (engine_from xs))
stays xs l = sym (untouched guest_registers xs l)

-- place, pairs and readings have 32 bits
narrow_by : (rd log mem' log' : List ℕ) (budget : ℕ) (o : EngineOutcome) (r : RunResult) → RunCounts log rd budget r
    → r.outcome.answer.place ≤ most_instructions → run_result_of o mem' log' ≡ r → budget < 2 ^ 32
    → NumbersFit o
narrow_by rd log mem' log' budget o r n p q h =
    let b = subst (RunCounts log rd budget) (sym q) n in
    let e = ap (λ (x : RunResult). x.outcome.answer.place) q in
    record { place = omega (arith, p, e); pairs = omega (arith, b.pairs); used = omega (arith, b.used) }

-- of the layout and the record of a host's numbers
left_by : (run : Layout → Engine → RunResult) (xs ms log' : List ℕ) (l : Layout) (m : Engine) (o : EngineOutcome) → l ≡ layout_from xs → m ≡ engine_from ms
    → (mem' ms' ns : List ℕ) → run_result_of o mem' log' ≡ run l m → ms' ≡ numbers_after guest_registers ms (engine_to o.engine) → ns ≡ answer_to o
    → host_result ns ms' mem' log' ≡ host_after guest_registers ms (result_to (run (layout_from xs) (engine_from ms)))
left_by run xs ms log' l m o e p mem' ms' ns q t u = rw (t, u, ← e, ← p) (ap (λ (r : RunResult). host_after guest_registers ms (result_to r)) q)

-- of the result of a run from the record of a host's numbers
module _ (xs ms ws mem rd log mem' log' : List ℕ) (budget : ℕ) (l : Layout) (m : Engine) (r : Result EngineRun Reject) (p : m ≡ engine_from ms) where
  abbrev Left : EngineOutcome
  Left = outcome_from (engine_from ms) r

  here : (f : RunResult) → run_result_of (outcome_from m r) mem' log' ≡ f → run_result_of Left mem' log' ≡ f
  here f q = subst (λ (x : Engine). run_result_of (outcome_from x r) mem' log' ≡ f) p q

  -- ---- hemdroas_engine_run
  module _ (q : run_result_of (outcome_from m r) mem' log' ≡ run_of l ws m mem budget rd log) where
    pub narrow : budget < 2 ^ 32 → NumbersFit Left
    narrow = narrow_by rd log mem' log' budget Left _ (run_counts l ws m mem budget rd log) (run_place l ws m mem budget rd log) (here _ q)

    pub left : l ≡ layout_from xs → (ms' ns : List ℕ) → ms' ≡ numbers_after guest_registers ms (engine_to Left.engine) → ns ≡ answer_to Left
        → host_result ns ms' mem' log' ≡ engine_for xs ws ms mem budget rd log
    unfolding engine_for
    left e ms' ns = left_by (λ l m. run_of l ws m mem budget rd log) xs ms log' l m Left e p mem' ms' ns (here _ q)

  -- ---- hemdroas_engine_continue
  module _ (q : run_result_of (outcome_from m r) mem' log' ≡ continue_of l ws m mem budget rd log) where
    pub narrow_on : budget < 2 ^ 32 → NumbersFit Left
    narrow_on =
        let z : (continue_of l ws m mem budget rd log).outcome.answer.place ≤ most_instructions = omega (arith, continue_place l ws m mem budget rd log) in
        narrow_by rd log mem' log' budget Left _ (continue_counts l ws m mem budget rd log) z (here _ q)

    pub left_on : l ≡ layout_from xs → (ms' ns : List ℕ) → ms' ≡ numbers_after guest_registers ms (engine_to Left.engine) → ns ≡ answer_to Left
        → host_result ns ms' mem' log' ≡ continue_for xs ws ms mem budget rd log
    unfolding continue_for
    left_on e ms' ns = left_by (λ l m. continue_of l ws m mem budget rd log) xs ms log' l m Left e p mem' ms' ns (here _ q)
