-- What the code's result of making a policy from pairs is in the request's terms.
use Rattle.std.specs.Prelude.{Result, Ok, Err}
use Rattle.types.specs.declared.Reject.{Reject}
use Rattle.types.specs.Names.{taken_number, answer}
use Rattle.types.specs.Results.{rejected}
use Rattle.policy_spec.specs.declared.precedence.PrecedencePolicy.{PrecedencePolicy}
use Rattle.policy_spec.specs.precedence.Precedence.{PrecedenceResult, precedence_result}

abbrev pub precedence_of : Result PrecedencePolicy Reject → PrecedenceResult
precedence_of (Ok m) = record { answer = answer taken_number m.bytes; policy = m.policy; unreachable = m.unreachable }
precedence_of (Err e) = precedence_result (rejected e) 0 0
