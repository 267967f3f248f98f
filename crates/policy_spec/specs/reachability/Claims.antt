-- Claims about the nodes reached and their policy. They hold for every `next` without arrows from 0 or for events above 15, from every start but 0.
use Rattle.std.specs.Prelude.{ℕ, ◌+◌, ◌*◌, ◌<◌, ◌≤◌, ◌≡◌, true, false, ◌&&◌, not, List, [], ◌∷◌, ◌++◌, length, get_or, take, replicate, eqb}
use Rattle.types.specs.declared.Layout.{Layout}
use Rattle.types.specs.Names.{most_states, events, no_arrow, first}
use Rattle.spec.specs.Policies.{allowed, right_policy}
use Rattle.policy_spec.specs.reachability.Reach.{reached_by, nodes, states_of, table_of, reached_policy, nodes_fit, reach_of, reach_table, node_after}

pub record Arrows (next : ℕ → ℕ → ℕ) (q : ℕ) : Type 0 where
  pub none : (e : ℕ) → next 0 e ≡ 0
  pub above : (x e : ℕ) → events ≤ e → next x e ≡ 0
  pub start : q ≡ 0 → ⊥

-- some list of events leads from q to x
pub record Reached (next : ℕ → ℕ → ℕ) (q x : ℕ) : Type 0 where
  pub by : List ℕ
  pub leads : node_after next q by ≡ x
  pub node : x ≡ 0 → ⊥

pub record Numbered (ns : List ℕ) (x : ℕ) : Type 0 where
  pub number : ℕ
  pub below : number < length ns
  pub is : get_or ns number 0 ≡ x

-- more than n nodes can be reached
pub record MoreThan (n : ℕ) (next : ℕ → ℕ → ℕ) (q : ℕ) : Type 0 where
  pub node : ℕ → ℕ
  pub reached : (i : ℕ) → i ≤ n → Reached next q (node i)
  pub apart : (i j : ℕ) → i ≤ n → j ≤ n → node i ≡ node j → i ≡ j

-- every node listed can be reached, none is listed twice, and none is missing unless refused as too many states (15)
pub record Exactly (next : ℕ → ℕ → ℕ) (q : ℕ) : Type 0 where
  pub reached : (i : ℕ) → i < states_of next q → Reached next q (get_or (nodes next q) i 0)
  pub once : (i j : ℕ) → i < states_of next q → j < states_of next q → get_or (nodes next q) i 0 ≡ get_or (nodes next q) j 0 → i ≡ j
  pub all : nodes_fit next q ≡ true → (x : ℕ) → Reached next q x → Numbered (nodes next q) x
  -- '15 (.. more than 16 ..)' is given exactly then
  pub many : nodes_fit next q ≡ false → MoreThan most_states next q
  pub not_many : nodes_fit next q ≡ true → MoreThan most_states next q → ⊥
  -- following more arrows would find no other node
  pub fixpoint : nodes_fit next q ≡ true → (more : ℕ) → reached_by next q (events * most_states + more) ≡ nodes next q

abbrev pub NodesExact : Type 0
NodesExact = (next : ℕ → ℕ → ℕ) (q : ℕ) → Arrows next q → Exactly next q

-- if the answer is taken (0), what was answered and written is `reached_policy`
pub record WritesPolicy (next : ℕ → ℕ → ℕ) (q : ℕ) (table : List ℕ) : Type 0 where
  pub few : nodes_fit next q ≡ true
  pub states : (reach_of next q (length table)).policy.states ≡ (reached_policy next q).states
  pub start : (reach_of next q (length table)).policy.start ≡ (reached_policy next q).start
  pub leaves : take (reach_of next q (length table)).answer.place (reach_table next q table) ≡ (reached_policy next q).table

abbrev pub TakenReaches : Type 0
TakenReaches = (next : ℕ → ℕ → ℕ) (q : ℕ) (table : List ℕ) → (reach_of next q (length table)).answer.number ≡ 0 → WritesPolicy next q table

-- the policy can be installed under every layout with as many states
abbrev pub ReachRight : Type 0
ReachRight = (next : ℕ → ℕ → ℕ) (q : ℕ) (lay : Layout) → Arrows next q → nodes_fit next q ≡ true → lay.states ≡ states_of next q → right_policy lay (reached_policy next q) ≡ true

-- a list of events is allowed exactly if it leads to a node
abbrev pub AllowedReaches : Type 0
AllowedReaches = (next : ℕ → ℕ → ℕ) (q : ℕ) (es : List ℕ) → Arrows next q → nodes_fit next q ≡ true → allowed (reached_policy next q) es ≡ not (eqb (node_after next q es) 0)

-- an example: node 1 leads to 5 by event 0 and to 3 by event 1; 5 leads to 7, and 3 back to 1 and to 9
abbrev pub sample : ℕ → ℕ → ℕ
sample x e = first ((eqb x 1 && eqb e 0, 5) ∷ (eqb x 1 && eqb e 1, 3) ∷ (eqb x 5 && eqb e 0, 7) ∷ (eqb x 3 && eqb e 0, 1) ∷ (eqb x 3 && eqb e 1, 9) ∷ []) 0

-- a row with arrows for events 0 and 1 only
abbrev pub row : ℕ → ℕ → List ℕ
row a b = a ∷ b ∷ replicate 14 no_arrow

-- 'numbered as first met, events taken in rising order from the lowest numbered'
pub record WorkedExamples : Type 0 where
  pub nodes : nodes sample 1 ≡ 1 ∷ 5 ∷ 3 ∷ 7 ∷ 9 ∷ []
  pub rows : table_of sample 1 ≡ row 1 2 ++ row 3 255 ++ row 0 4 ++ row 255 255 ++ row 255 255
