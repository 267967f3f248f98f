-- The examples hold, by computation.
use mathlib.Core.Path.{refl}
use Rattle.installer.specs.table.Tables.{table_right}
use Rattle.policy_spec.specs.maps.Maps.{build}
use Rattle.policy_spec.specs.reachability.Reach.{insert, reached_by, table_of, reach_answer, reach_of}
use Rattle.policy_merge.specs.Pairs.{both, pair_after, merge_made, with_ceilings, merge_of}
use Rattle.policy_merge.specs.Claims.{WorkedExamples}

pub worked_examples : WorkedExamples
unfolding build insert reached_by table_of reach_answer reach_of both pair_after table_right merge_made with_ceilings merge_of
worked_examples = record { pairs = refl; rows = refl; small = refl; many = refl; same = refl; bad = refl; bad_start = refl }
