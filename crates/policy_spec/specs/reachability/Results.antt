-- What the code's result of making a policy is in the request's terms.
use Rattle.std.specs.Prelude.{Result, Ok, Err}
use Rattle.types.specs.declared.Reject.{Reject}
use Rattle.types.specs.Names.{taken_number, answer}
use Rattle.types.specs.Results.{rejected}
use Rattle.policy_spec.specs.declared.reachability.NewPolicy.{NewPolicy}
use Rattle.policy_spec.specs.reachability.Reach.{Made, made_with}

abbrev pub made_of : Result NewPolicy Reject → Made
made_of (Ok m) = record { answer = answer taken_number m.bytes; policy = m.policy }
made_of (Err e) = made_with (rejected e) 0
