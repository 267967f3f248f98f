-- Requests 7 and 8: finds the nodes that events lead to from a start, and makes a policy whose states are these nodes.
-- A node is a number above 0. `next x e` is the node after event e in node x, or 0 if there is none.
use Rattle.std.specs.Prelude.{ℕ, zero, suc, ◌*◌, ◌/◌, ◌%◌, Bool, ◌||◌, not, cond, List, [], ◌∷◌, ◌++◌, length, get_or, eqb, leb, ltb}
use Rattle.types.specs.declared.Answer.{Answer}
use Rattle.types.specs.declared.Refusal.TheVariants.{TooManyStates}
use Rattle.types.specs.declared.PolicyNumbers.{PolicyNumbers}
use Rattle.types.specs.Names.{most_states, events, no_arrow, refusal, if_taken, output_of, room_for, first}
use Rattle.spec.specs.Policies.{Policy, policy_of}
use Rattle.policy_spec.specs.maps.Maps.{build}

-- the first index of a number in a list, or the list's length if it is not there
abbrev pub index_of : List ℕ → ℕ → ℕ
index_of [] x = 0
index_of (y ∷ ys) x = cond (eqb y x) 0 (suc (index_of ys x))

abbrev pub known : List ℕ → ℕ → Bool
known ns x = ltb (index_of ns x) (length ns)

-- 'numbered as first met': a new node is added at the end
unfoldable pub insert : List ℕ → ℕ → List ℕ
insert ns x = cond (eqb x 0 || known ns x) ns (ns ++ (x ∷ []))

-- where arrow k leads: it belongs to event k % 16 in node number k / 16
abbrev pub target : (ℕ → ℕ → ℕ) → List ℕ → ℕ → ℕ
target next ns k = next (get_or ns (k / events) 0) (k % events)

-- the nodes found by following the first k arrows from node q, 'events taken in rising order from the lowest numbered'
unfoldable pub reached_by : (ℕ → ℕ → ℕ) → ℕ → ℕ → List ℕ
reached_by next q zero = q ∷ []
reached_by next q (suc k) = insert (reached_by next q k) (target next (reached_by next q k) k)

-- all nodes, if there are at most 16: these have no more than 16 × 16 arrows
abbrev pub nodes : (ℕ → ℕ → ℕ) → ℕ → List ℕ
nodes next q = reached_by next q (events * most_states)

-- a node's state in the policy: its number, or no arrow for 0
abbrev pub node_state : List ℕ → ℕ → ℕ
node_state ns x = cond (eqb x 0) no_arrow (index_of ns x)

-- byte k of the table
abbrev pub byte_of : (ℕ → ℕ → ℕ) → List ℕ → ℕ → ℕ
byte_of next ns k = node_state ns (target next ns k)

abbrev pub states_of : (ℕ → ℕ → ℕ) → ℕ → ℕ
states_of next q = length (nodes next q)

unfoldable pub table_of : (ℕ → ℕ → ℕ) → ℕ → List ℕ
table_of next q = build (byte_of next (nodes next q)) (events * states_of next q)

-- the policy whose states are the nodes; its start is the first one
abbrev pub reached_policy : (ℕ → ℕ → ℕ) → ℕ → Policy
reached_policy next q = policy_of (states_of next q) 0 (table_of next q) []

-- whether there are not 'more than 16' nodes
abbrev pub nodes_fit : (ℕ → ℕ → ℕ) → ℕ → Bool
nodes_fit next q = leb (states_of next q) most_states

-- '15 .. and then 9 follow'
unfoldable pub reach_answer : (ℕ → ℕ → ℕ) → ℕ → ℕ → Answer
reach_answer next q room = first ((not (nodes_fit next q), refusal TooManyStates 0) ∷ []) (room_for room (events * states_of next q))

-- what making a policy answers: on success the bytes written, as place, and the policy's numbers
pub record Made : Type 0 where
  pub answer : Answer
  pub policy : PolicyNumbers

-- 'After a reject all else handed back is 0'
abbrev pub made_with : Answer → ℕ → Made
made_with a s = record { answer = a; policy = record { states = s; start = 0 } }

-- the result of making a policy: its answer and its numbers
unfoldable pub reach_of : (ℕ → ℕ → ℕ) → ℕ → ℕ → Made
reach_of next q room = let a = reach_answer next q room in if_taken a (made_with a (states_of next q)) (made_with a 0)

-- the output after the table was written to its start
unfoldable pub reach_table : (ℕ → ℕ → ℕ) → ℕ → List ℕ → List ℕ
reach_table next q table = output_of (reach_answer next q (length table)) (table_of next q) table

-- the node after a list of events
abbrev pub node_after : (ℕ → ℕ → ℕ) → ℕ → List ℕ → ℕ
node_after next x [] = x
node_after next x (e ∷ es) = node_after next (next x e) es
