use Rattle.std.proofs.Common.{◌≡◌, ℕ, ◌*◌, ◌≤◌, List, arith, length, sym, subst}
use Rattle.types.specs.declared.Outcome.{Outcome}
use Rattle.types.specs.Names.{pair_cells}
use Rattle.spec.specs.Machines.{RunResult, run_result_of}
use Rattle.spec.proofs.Counts.{RunCounts, run_counts}
use Rattle.trial.proofs.run.Goals as goal

-- a run's pairs are within its log
within : (o : Outcome) (mem log : List ℕ) (r : RunResult) (g rd : List ℕ) (n : ℕ) → run_result_of o mem log ≡ r → RunCounts g rd n r → pair_cells * o.answer.pairs ≤ length log
within o mem log r g rd n e k =
    let c : RunCounts g rd n (run_result_of o mem log) = subst (λ (x : RunResult). RunCounts g rd n x) (sym e) k in
    omega (arith, c.room, c.log)

pub print_events-requires : goal.print_events-requires
print_events-requires g c = within _ _ _ _ _ _ _ c.run_value-out.ensures.result (run_counts _ _ _ _ _ _ _)
