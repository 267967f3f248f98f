-- The examples hold, by computation.
use mathlib.Core.Path.{refl}
use Rattle.policy_spec.specs.maps.Maps.{every, some, count, map_where, bit, build}
use Rattle.policy_spec.specs.precedence.Precedence.{named_in, known_in, pairs_right, firsts_in, arrow_of, iterate, make_answer, make_of}
use Rattle.policy_spec.specs.precedence.Claims.{WorkedExamples}

pub worked_examples : WorkedExamples
unfolding every some count map_where bit build named_in known_in pairs_right firsts_in arrow_of iterate make_answer make_of
worked_examples = record { none = refl; chain = refl; ring = refl; alone = refl; above = refl; fifth = refl; small = refl; rows = refl }
