-- The example holds, by computation.
use mathlib.Core.Path.{refl}
use Rattle.policy_spec.specs.maps.Maps.{build}
use Rattle.policy_spec.specs.reachability.Reach.{insert, reached_by, table_of}
use Rattle.policy_spec.specs.reachability.Claims.{WorkedExamples}

pub worked_examples : WorkedExamples
unfolding build insert reached_by table_of
worked_examples = record { nodes = refl; rows = refl }
