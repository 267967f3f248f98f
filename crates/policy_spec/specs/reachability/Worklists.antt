-- The work list of the search as the code keeps it: arrays of the nodes found, with room for one too many, and of the arrows' targets.
use Rattle.std.specs.Prelude.{ℕ, ◌+◌, ◌*◌, ◌/◌, ◌^◌, ◌<◌, ◌≤◌, ◌≡◌, Bool, true, false, ◌&&◌, ◌||◌, not, cond, Option, None, Some, MatchOption, List, [], ◌∷◌, ◌++◌, length, get_or, take, drop, set, replicate, eqb, leb, ltb}
use Rattle.std.specs.declared.num.NonZeroU16.{NonZeroU16}
use Rattle.std.specs.Int.NonZero.{non_zero_u16_get}
use Rattle.types.specs.declared.Answer.{Answer}
use Rattle.types.specs.declared.Refusal.TheVariants.{TooManyStates}
use Rattle.types.specs.Names.{most_states, events, refusal, if_taken, output_of, room_for, first}
use Rattle.policy_spec.specs.maps.Maps.{build}
use Rattle.policy_spec.specs.reachability.Reach.{Made, known, node_state, byte_of, reached_by, nodes, made_with}

-- the nodes found so far, their count, and for each arrow the number of the node that it leads to
pub record Worklist : Type 0 where
  pub nodes : List ℕ
  pub count : ℕ
  pub arrows : List ℕ

-- room for one node too many
abbrev pub capacity : ℕ
capacity = most_states + 1

-- the first work list: only the start
abbrev pub initial_worklist : ℕ → Worklist
initial_worklist q = record { nodes = set (replicate capacity 0) 0 q; count = 1; arrows = replicate (events * most_states) 0 }

-- the nodes found
abbrev pub nodes_of : Worklist → List ℕ
nodes_of f = take f.count f.nodes

-- the code's node as a number: 0 where there is none
abbrev pub node_number : Option NonZeroU16 → ℕ
node_number None = 0
node_number (Some x) = non_zero_u16_get x

-- what a step of the code may answer for an event in a node is what `next` says
abbrev pub Follows : (ℕ → ℕ → Option NonZeroU16 → Type 0) → (ℕ → ℕ → ℕ) → Type 0
Follows step next = (x n : ℕ) (r : Option NonZeroU16) → x < 2 ^ 16 → n < events → step x n r → node_number r ≡ next x n

-- the arrays have their lengths, and the nodes found fit
pub record WorklistSized (f : Worklist) : Type 0 where
  pub most : f.count ≤ capacity
  pub nodes : length f.nodes ≡ capacity
  pub arrows : length f.arrows ≡ events * most_states

-- whether arrow k belongs to a node found, and there are not too many nodes
abbrev pub has_pending : Worklist → ℕ → Bool
has_pending f k = ltb k (events * f.count) && leb f.count most_states

-- the node that arrow k still has to be followed from
abbrev pub PendingNode : Worklist → ℕ → Option ℕ → Type 0
PendingNode f k o = MatchOption o (has_pending f k ≡ false) (λ x. (has_pending f k ≡ true) × (x ≡ get_or f.nodes (k / events) 0))

-- after arrow k, which leads to x: its target is stored, and x is added if it is new
unfoldable pub insert_target : Worklist → ℕ → ℕ → Worklist
insert_target f k x =
    let old = eqb x 0 || known (nodes_of f) x in
    record {
      nodes = cond old f.nodes (set f.nodes f.count x);
      count = cond old f.count (f.count + 1);
      arrows = set f.arrows k (node_state (nodes_of f) x);
    }

-- invariant: the first k arrows have been followed
pub record WorklistInvariant (next : ℕ → ℕ → ℕ) (q : ℕ) (f : Worklist) (k : ℕ) : Type 0 where
  pub sized : WorklistSized f
  pub count : f.count ≡ length (reached_by next q k)
  pub list : nodes_of f ≡ reached_by next q k
  pub arrows : f.arrows ≡ build (byte_of next (nodes next q)) k ++ drop k (replicate (events * most_states) 0)
  pub taken : k ≤ events * f.count
  pub few : k ≤ events * most_states

-- all arrows of the nodes have been followed, or there are too many nodes
pub record Explored (next : ℕ → ℕ → ℕ) (q : ℕ) (f : Worklist) : Type 0 where
  pub arrows : ℕ
  pub holds : WorklistInvariant next q f arrows
  pub all : has_pending f arrows ≡ false

-- the answer for the nodes found, and the table after it: too many states (15), then small hopper (9)
unfoldable pub worklist_answer : Worklist → ℕ → Answer
worklist_answer f room = first ((not (leb f.count most_states), refusal TooManyStates 0) ∷ []) (room_for room (events * f.count))

unfoldable pub written_of : Worklist → ℕ → Made
written_of f room = let a = worklist_answer f room in if_taken a (made_with a f.count) (made_with a 0)

unfoldable pub written_table : Worklist → List ℕ → List ℕ
written_table f table = output_of (worklist_answer f (length table)) (take (events * f.count) f.arrows) table
