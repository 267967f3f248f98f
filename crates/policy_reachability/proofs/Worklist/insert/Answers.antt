use Rattle.std.proofs.Common.{◌≡◌, ◌∙◌, sym, ap, take, arith}
use Rattle.policy_spec.specs.reachability.Worklists.{node_number}
use Rattle.policy_reachability.proofs.Laws.{placed, step_none, step_known, step_new}
use Rattle.policy_reachability.proofs.Worklist.insert.Goals as goal

pub returns-in_default : goal.returns-in_default
returns-in_default c = rw (← c.self.view_is) (step_none _ c.args.k _ (ap node_number c.in_default.is))

pub returns-in-Some-index_of_node : goal.returns-in-Some-index_of_node
returns-in-Some-index_of_node c =
    let e : node_number c.args.x ≡ c.get-x.result = ap node_number c.in-Some.is ∙ sym c.get-x.ensures.value in
    rw (← c.self.view_is, e) (step_known _ _ _ (λ z. omega (arith, z, c.get-x.ensures.nonzero)) _ (placed (take c.self.inside.count c.self.inside.nodes) c.get-x.result _ c.in-Some-index_of_node.ensures))

pub returns : goal.returns
returns c =
    let e : node_number c.args.x ≡ c.get-x.result = ap node_number c.in-Some.is ∙ sym c.get-x.ensures.value in
    rw (← c.self.view_is, e) (step_new _ _ _ (λ z. omega (arith, z, c.get-x.ensures.nonzero)) (omega (arith, c.self.told.0, c.self.invariant)) (placed (take c.self.inside.count c.self.inside.nodes) c.get-x.result _ c.in_default-index_of_node.ensures))
