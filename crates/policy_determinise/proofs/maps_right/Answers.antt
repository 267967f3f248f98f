use Rattle.std.proofs.Common.{◌&&◌, ◌^◌, ◌∙◌, true, ltb, rules, tests}
use Rattle.std.proofs.lemmas.Iterator.{YieldsList-from_slice}
use Rattle.std.proofs.lemmas.Iterator.Consumers.{fold_from_yields_List}
use Rattle.policy_determinise.proofs.Laws.{maps_right_folded}
use Rattle.policy_determinise.proofs.maps_right.Goals as goal

pub returns : goal.returns
returns c =
    let ms = c.args.arrows.now in
    fold_from_yields_List _ (λ b m. b && ltb m (2 ^ c.args.states)) true _ c.fold.ensures.ran (YieldsList-from_slice ms cc) (λ a x b q k. search (rules, tests)) ∙ maps_right_folded c.args.states true ms
