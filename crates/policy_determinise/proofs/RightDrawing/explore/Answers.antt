use Rattle.std.proofs.Common.{rules}
use Rattle.policy_determinise.proofs.Runs.{arrows}
use Rattle.policy_determinise.proofs.Laws.{node_is}
use Rattle.policy_determinise.proofs.RightDrawing.explore.Goals as goal

pub returns : goal.returns
returns c = c.explore.ensures _ (arrows _ c.args.self.now.valid) (λ x n r _ _ k. search (node_is, rules))
