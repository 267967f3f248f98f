-- Request 7, 'Two policies at once': the policy whose states are pairs of states, one of each policy.
use Rattle.std.specs.Prelude.{ℕ, ◌+◌, ◌-◌, ◌*◌, ◌/◌, ◌%◌, min, Bool, ◌&&◌, ◌||◌, not, cond, List, [], ◌∷◌, get_or, replicate, eqb}
use Rattle.types.specs.declared.PolicyNumbers.{PolicyNumbers}
use Rattle.types.specs.declared.Refusal.TheVariants.{BadPolicy}
use Rattle.types.specs.Names.{most_states, orders, no_arrow, refusal, if_taken, first}
use Rattle.spec.specs.Policies.{Policy, lent_policy, arrow}
use Rattle.installer.specs.table.Tables.{table_right}
use Rattle.policy_spec.specs.maps.Maps.{build}
use Rattle.types.specs.declared.Answer.{Answer}
use Rattle.policy_spec.specs.reachability.Reach.{Made, reached_policy, made_with, reach_of, reach_table}

-- a policy from its numbers and its table; merging needs no landings
abbrev pub side_policy : PolicyNumbers → List ℕ → Policy
side_policy p t = lent_policy p t []

-- the number of a pair of states, above 0, and the two states of a pair
abbrev pub pair : ℕ → ℕ → ℕ
pair s t = most_states * s + t + 1

abbrev pub left : ℕ → ℕ
left x = (x - 1) / most_states

abbrev pub right : ℕ → ℕ
right x = (x - 1) % most_states

-- the pair of two arrows, or none if one of them is missing
unfoldable pub both : ℕ → ℕ → ℕ
both s t = cond (eqb s no_arrow || eqb t no_arrow) 0 (pair s t)

-- the pair after event n in a pair
unfoldable pub pair_after : Policy → Policy → ℕ → ℕ → ℕ
pair_after a b x n = cond (eqb x 0) 0 (both (arrow a (left x) n) (arrow b (right x) n))

-- 'from the two starts'
abbrev pub start_pair : Policy → Policy → ℕ
start_pair a b = pair a.start b.start

-- whether one policy is not refused as bad policy (10), 'a state count outside 1 to 16 included'
abbrev pub side_right : Policy → Bool
side_right p = table_right p

-- 'Its states are the pairs reachable from the two starts, numbered as first met'
abbrev pub merged_policy : Policy → Policy → Policy
merged_policy a b = reached_policy (pair_after a b) (start_pair a b)

-- 'the merged ceilings are the smaller of each two'
abbrev pub smaller : List ℕ → List ℕ → List ℕ
smaller c d = build (λ i. min (get_or c i 0) (get_or d i 0)) orders

-- '10 for a bad input .. 15 .. follows it. 9 comes last': the result, with the policy's numbers
unfoldable pub merge_made : Policy → Policy → ℕ → Made
merge_made a b room = first ((not (side_right a && side_right b), made_with (refusal BadPolicy 0) 0) ∷ []) (reach_of (pair_after a b) (start_pair a b) room)

-- what merging answers: on success the bytes written, as place, the policy's numbers, and the ceilings
pub record Merged : Type 0 where
  pub answer : Answer
  pub policy : PolicyNumbers
  pub ceilings : List ℕ

-- the result with the ceilings: 'After a reject all else handed back is 0'
unfoldable pub with_ceilings : Made → List ℕ → Merged
with_ceilings m c = record { answer = m.answer; policy = m.policy; ceilings = if_taken m.answer c (replicate orders 0) }

unfoldable pub merge_of : Policy → List ℕ → Policy → List ℕ → ℕ → Merged
merge_of a c b d room = with_ceilings (merge_made a b room) (smaller c d)

-- the output after the table was written
unfoldable pub merge_table : Policy → Policy → List ℕ → List ℕ
merge_table a b table = cond (side_right a && side_right b) (reach_table (pair_after a b) (start_pair a b) table) table
