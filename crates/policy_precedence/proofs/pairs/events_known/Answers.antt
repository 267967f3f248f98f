use Rattle.std.proofs.Common.{◌∙◌, ltb, rules, tests}
use Rattle.std.proofs.lemmas.Iterator.{YieldsList-from_slice}
use Rattle.std.proofs.lemmas.Iterator.Search.{all_from_yields_List}
use Rattle.types.specs.Names.{events}
use Rattle.policy_spec.proofs.precedence.Laws.{known_is}
use Rattle.policy_precedence.proofs.pairs.events_known.Goals as goal

pub returns : goal.returns
returns c =
    let ps = c.args.pairs.now in
    all_from_yields_List (λ e. ltb e events) _ _ _ c.all.ensures.ran (YieldsList-from_slice ps cc) (λ x b q k. search (rules, tests)) ∙ known_is ps
