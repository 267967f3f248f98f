-- What `hemdroas_determinise` takes and answers, as numbers.
use Rattle.std.specs.Prelude.{ℕ, ◌^◌, cond, List, ltb}
use Rattle.types.specs.Names.{most_states}
use Rattle.capi_spec.specs.Numbers.{made_to}
use Rattle.policy_spec.specs.reachability.Reach.{Made}

-- a start set with a bit above 15 becomes empty; both are refused as bad drawing (16)
unfoldable pub starts_from : ℕ → ℕ
starts_from q = cond (ltb q (2 ^ most_states)) q 0

-- a made policy as four numbers: number, place, states, start
abbrev pub policy_to : Made → List ℕ
policy_to m = made_to m.answer m.policy.states m.policy.start
