-- What `hemdroas_precedence` answers, as numbers.
use Rattle.std.specs.Prelude.{ℕ, List}
use Rattle.capi_spec.specs.Numbers.{made_to}
use Rattle.policy_spec.specs.precedence.Precedence.{PrecedenceResult}

-- a made policy as four numbers: number, place, states, and the set of events that it never allows
abbrev pub precedence_to : PrecedenceResult → List ℕ
precedence_to m = made_to m.answer m.policy.states m.unreachable
