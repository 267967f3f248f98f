-- The examples hold, by computation.
use mathlib.Core.Path.{refl}
use Rattle.policy_spec.specs.maps.Maps.{bit, build}
use Rattle.policy_spec.specs.reachability.Reach.{insert, reached_by, table_of, reach_answer, reach_of}
use Rattle.policy_determinise.specs.Drawings.{union_of, drawing_right, determinise_of}
use Rattle.policy_determinise.specs.Claims.{WorkedExamples}

pub worked_examples : WorkedExamples
unfolding bit build insert reached_by table_of reach_answer reach_of union_of drawing_right determinise_of
worked_examples = record { sets = refl; rows = refl; starts = refl; sixteen = refl; many = refl; small = refl; no_start = refl; no_state = refl; start_above = refl; bit_above = refl; short = refl }
