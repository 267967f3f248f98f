use Rattle.engine.proofs.Running.{run_taken}
use Rattle.engine.proofs.run.Goals as goal

pub returns : goal.returns
returns c = run_taken _ _ _ _ _ _ _ c.in_ok-run_refusal.ensures _ c.judged-routine.ensures.0 _ _ _ c.run_on.ensures
