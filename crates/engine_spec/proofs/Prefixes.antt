-- Every moment of a run is the end of a run with a smaller budget. A list of runs that is cut off there is on the premise too.
use mathlib.Core.Path.{refl}
use Rattle.spec.proofs.Loops.{runs_compose_at}
use Rattle.spec.proofs.Lists.{preserved_prefix}
use Rattle.engine_spec.specs.Engines.{final_state}
use Rattle.engine_spec.specs.Claims.{Session, after_run, EngineRunsCompose, EnginePrefixClosed}
use Rattle.engine_spec.proofs.Runs.{engine_loop}

pub engine_runs_compose : EngineRunsCompose
engine_runs_compose lay ws rd j l k s = runs_compose_at (engine_loop lay ws rd) (λ r. (r.outcome.steps, final_state r)) (λ e k s. refl) l j k s

pub engine_prefix_closed : EnginePrefixClosed
engine_prefix_closed lay pol ws mem xs ys g j v =
    record { taken = v.taken; installed = v.installed; preserved = preserved_prefix (after_run lay ws) lay (λ (c : Session). c.memory) _ xs ys g j v.preserved }
