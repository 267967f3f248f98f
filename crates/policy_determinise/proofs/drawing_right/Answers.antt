use Rattle.std.proofs.Common.{◌≡◌, ◌∙◌, sym, rules, tests}
use Rattle.spec.specs.Policies.{states_right}
use Rattle.policy_determinise.proofs.Laws.{states_wrong_lem, states_right_lem}
use Rattle.policy_determinise.proofs.drawing_right.Goals as goal

pub returns-then-not-contains : goal.returns-then-not-contains
returns-then-not-contains c =
    let is : c.contains.result ≡ states_right c.args.states = search (rules, tests) in
    states_wrong_lem _ _ _ (sym is ∙ c.if-not-contains.true)

pub returns : goal.returns
returns c =
    let is : c.contains.result ≡ states_right c.args.states = search (rules, tests) in
    states_right_lem _ _ _ _ _ (sym is ∙ c.if-not-contains.false) c.fits_states.ensures c.maps_right.ensures
