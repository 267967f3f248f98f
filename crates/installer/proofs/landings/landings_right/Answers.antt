use Rattle.std.proofs.Common.{rules, tests, nat_lt}
use Rattle.std.proofs.lemmas.Fn.{always_returns_same}
use Rattle.std.proofs.lemmas.Iterator.{YieldsList-from_slice}
use Rattle.std.proofs.lemmas.Iterator.Search.{all_from_yields_List}
use Rattle.installer.proofs.landings.Marks.{all_rise, one_falls}
use Rattle.installer.proofs.landings.landings_right.Goals as goal

pub returns-then-is_sorted_by : goal.returns-then-is_sorted_by
returns-then-is_sorted_by c =
    all_rise _ _ (c.is_sorted_by.ensures.cases nat_lt (always_returns_same _ _ _ (λ a r q k. search (rules, tests)))) c.if-is_sorted_by.true _
    (all_from_yields_List _ _ _ _ c.all.ensures.ran (YieldsList-from_slice c.args.landings.now cc) (λ x b q k. search (rules, tests)))

pub returns-else-is_sorted_by : goal.returns-else-is_sorted_by
returns-else-is_sorted_by c = one_falls _ _ (c.is_sorted_by.ensures.cases nat_lt (always_returns_same _ _ _ (λ a r q k. search (rules, tests)))) c.if-is_sorted_by.false
