use Rattle.std.proofs.Common.{true, refl, sym, arith}
use Rattle.policy_spec.specs.reachability.Worklists.{node_number}
use Rattle.policy_spec.proofs.reachability.Explore.{holds_start, holds_more}
use Rattle.policy_reachability.proofs.explore.Goals as goal

pub loop-k-init : goal.loop-k-init
loop-k-init g c = λ next ok _. holds_start next c.args.start ok _ c.new-found.ensures

pub loop-k-preserved : goal.loop-k-preserved
loop-k-preserved g c = λ next ok follows.
    holds_more next c.args.start ok c.loop-k.found c.loop-k.k (c.loop-k.invariant next ok follows) true (sym c.in-Some.ensures.0) refl c.in-Some.x (node_number c.step.result) c.in-Some.ensures.1
    (follows _ _ _ (omega arith) (omega arith) c.step.ensures) _ c.insert.ensures
