-- Claims about the merged policy. Each is a type; its proof, in proofs/, has the same name in small letters, with hyphens.
use Rattle.std.specs.Prelude.{ℕ, ◌<◌, min, ◌≡◌, true, ◌&&◌, cond, List, [], ◌∷◌, ◌++◌, length, get_or, take, replicate}
use Rattle.types.specs.declared.Answer.{Answer}
use Rattle.types.specs.declared.Layout.{Layout}
use Rattle.types.specs.Names.{orders, top_word, answer}
use Rattle.spec.specs.Policies.{Policy, policy_of, state_over, allowed, states_right, right_policy}
use Rattle.policy_spec.specs.reachability.Reach.{states_of, nodes_fit, node_after}
use Rattle.policy_spec.specs.reachability.Claims.{Exactly, row}
use Rattle.policy_merge.specs.Pairs.{Merged, pair, pair_after, start_pair, side_right, merged_policy, smaller, merge_of, merge_table}

-- if the answer is taken (0), what was answered and written is `merged_policy`, the policy of the other claims
pub record Merges (a : Policy) (c : List ℕ) (b : Policy) (d table : List ℕ) : Type 0 where
  pub right : (side_right a && side_right b) ≡ true
  pub few : nodes_fit (pair_after a b) (start_pair a b) ≡ true
  pub states : (merge_of a c b d (length table)).policy.states ≡ (merged_policy a b).states
  pub start : (merge_of a c b d (length table)).policy.start ≡ (merged_policy a b).start
  pub ceilings : (merge_of a c b d (length table)).ceilings ≡ smaller c d
  pub leaves : take (merge_of a c b d (length table)).answer.place (merge_table a b table) ≡ (merged_policy a b).table

abbrev pub TakenMerges : Type 0
TakenMerges = (a : Policy) (c : List ℕ) (b : Policy) (d table : List ℕ) → (merge_of a c b d (length table)).answer.number ≡ 0 → Merges a c b d table

-- two policies that are not refused as bad policy (10)
abbrev pub BothRight : Policy → Policy → Type 0
BothRight a b = (side_right a && side_right b) ≡ true

-- the merged policy can be installed under a layout with as many states
abbrev pub MergedRight : Type 0
MergedRight =
    (a b : Policy) (lay : Layout) → BothRight a b → nodes_fit (pair_after a b) (start_pair a b) ≡ true → lay.states ≡ states_of (pair_after a b) (start_pair a b) →
    right_policy lay (merged_policy a b) ≡ true

-- 'The words of events it allows are exactly those that both allow'
abbrev pub AllowedByBoth : Type 0
AllowedByBoth = (a b : Policy) (es : List ℕ) → BothRight a b → nodes_fit (pair_after a b) (start_pair a b) ≡ true → allowed (merged_policy a b) es ≡ (allowed a es && allowed b es)

-- the pair after a list of events has the state of each policy, if both allow the list; else there is none
abbrev pub PairsAreStates : Type 0
PairsAreStates =
    (a b : Policy) (es : List ℕ) → BothRight a b →
    node_after (pair_after a b) (start_pair a b) es ≡ cond (allowed a es && allowed b es) (pair (state_over a es) (state_over b es)) 0

-- the states are exactly the pairs that events lead to; refused as too many states (15) exactly if there are more than 16
abbrev pub PairsExact : Type 0
PairsExact = (a b : Policy) → BothRight a b → Exactly (pair_after a b) (start_pair a b)

-- the merged ceilings limit an order as one policy's ceilings and then the other's would
abbrev pub CeilingsOfBoth : Type 0
CeilingsOfBoth = (c d : List ℕ) (i v : ℕ) → i < orders → min v (get_or (smaller c d) i 0) ≡ min (min v (get_or c i 0)) (get_or d i 0)

-- a policy is right for merging, so not refused as bad policy (10), exactly if its state count is 1 to 16 and installing finds it right
-- under a layout with as many states
abbrev pub SideInstalls : Type 0
SideInstalls = (p : Policy) (lay : Layout) → lay.states ≡ p.states → side_right p ≡ (states_right p.states && right_policy lay p)

-- 'Swapping the inputs gives the same policy', and the same refusal
pub record Swapped (a : Policy) (c : List ℕ) (b : Policy) (d table : List ℕ) : Type 0 where
  pub merged : merge_of a c b d (length table) ≡ merge_of b d a c (length table)
  pub leaves : merge_table a b table ≡ merge_table b a table

abbrev pub MergeCommutes : Type 0
MergeCommutes = (a : Policy) (c : List ℕ) (b : Policy) (d table : List ℕ) → Swapped a c b d table

-- events 0 and 1 in turn, from event 0; and event 1 never twice in a row
abbrev pub turns : Policy
turns = policy_of 2 0 (row 1 255 ++ row 255 0) []

abbrev pub single : Policy
single = policy_of 2 0 (row 0 1 ++ row 0 255) []

-- event 0 counted modulo five, and modulo four: together 20 pairs; modulo four twice: 4 pairs
abbrev pub five : Policy
five = policy_of 5 0 (row 1 255 ++ row 2 255 ++ row 3 255 ++ row 4 255 ++ row 0 255) []

abbrev pub four : Policy
four = policy_of 4 0 (row 1 255 ++ row 2 255 ++ row 3 255 ++ row 0 255) []

abbrev pub ceilings : ℕ → List ℕ
ceilings c = c ∷ 7 ∷ replicate 6 top_word

abbrev pub merged_with : Answer → ℕ → List ℕ → Merged
merged_with a s c = record { answer = a; policy = record { states = s; start = 0 }; ceilings = c }

pub record WorkedExamples : Type 0 where
  pub pairs : merge_of turns (ceilings 5) single (ceilings 9) 48 ≡ merged_with (answer 0 48) 3 (ceilings 5)
  pub rows : (merged_policy turns single).table ≡ row 1 255 ++ row 255 2 ++ row 1 255
  pub small : merge_of turns (ceilings 5) single (ceilings 9) 47 ≡ merged_with (answer 9 0) 0 (replicate 8 0)
  pub many : merge_of five (ceilings 5) four (ceilings 9) 0 ≡ merged_with (answer 15 0) 0 (replicate 8 0)
  pub same : merge_of four (ceilings 5) four (ceilings 5) 64 ≡ merged_with (answer 0 64) 4 (ceilings 5)
  pub bad : merge_of turns (ceilings 5) (policy_of 2 0 (row 0 2 ++ row 0 255) []) (ceilings 9) 0 ≡ merged_with (answer 10 0) 0 (replicate 8 0)
  pub bad_start : merge_of (policy_of 1 1 (row 0 0) []) (ceilings 5) turns (ceilings 9) 0 ≡ merged_with (answer 10 0) 0 (replicate 8 0)
