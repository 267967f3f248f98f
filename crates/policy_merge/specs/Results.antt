-- What the code's types are in the request's terms: one of the two policies, and the result of merging.
use Rattle.std.specs.Prelude.{Result, Ok, Err, replicate}
use Rattle.types.specs.declared.Reject.{Reject}
use Rattle.types.specs.Names.{orders, taken_number, answer}
use Rattle.types.specs.Results.{rejected}
use Rattle.spec.specs.Policies.{Policy}
use Rattle.policy_merge.specs.declared.Side.{Side}
use Rattle.policy_merge.specs.declared.MergedPolicy.{MergedPolicy}
use Rattle.policy_merge.specs.Pairs.{Merged, side_policy}

abbrev pub policy_of_side : Side → Policy
policy_of_side s = side_policy s.policy s.table.now

abbrev pub merged_of : Result MergedPolicy Reject → Merged
merged_of (Ok m) = record { answer = answer taken_number m.bytes; policy = m.policy; ceilings = m.ceilings }
merged_of (Err e) = record { answer = rejected e; policy = record { states = 0; start = 0 }; ceilings = replicate orders 0 }
