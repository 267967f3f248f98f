-- Claims about the policy made from a drawing. Each is a type; its proof, in proofs/, has the same name in small letters, with hyphens.
use Rattle.std.specs.Prelude.{ℕ, ◌≡◌, true, List, [], ◌∷◌, ◌++◌, length, take, replicate}
use Rattle.types.specs.declared.Layout.{Layout}
use Rattle.types.specs.Names.{answer}
use Rattle.spec.specs.Policies.{allowed, right_policy}
use Rattle.policy_spec.specs.maps.Maps.{bit}
use Rattle.policy_spec.specs.reachability.Reach.{states_of, nodes_fit, made_with, node_after}
use Rattle.policy_spec.specs.reachability.Claims.{Exactly, row}
use Rattle.policy_determinise.specs.Drawings.{Drawing, drawing_of, successors, set_after, drawing_right, made_policy, determinise_of, determinise_table}

-- if the answer is taken (0), what was answered and written is `made_policy`, the policy of the other claims
pub record WritesPolicy (d : Drawing) (table : List ℕ) : Type 0 where
  pub right : drawing_right d ≡ true
  pub few : nodes_fit (set_after d) d.starts ≡ true
  pub states : (determinise_of d (length table)).policy.states ≡ (made_policy d).states
  pub start : (determinise_of d (length table)).policy.start ≡ (made_policy d).start
  pub leaves : take (determinise_of d (length table)).answer.place (determinise_table d table) ≡ (made_policy d).table

abbrev pub TakenWritesPolicy : Type 0
TakenWritesPolicy = (d : Drawing) (table : List ℕ) → (determinise_of d (length table)).answer.number ≡ 0 → WritesPolicy d table

-- the policy can be installed under a layout with as many states
abbrev pub MadeRight : Type 0
MadeRight = (d : Drawing) (lay : Layout) → drawing_right d ≡ true → nodes_fit (set_after d) d.starts ≡ true → lay.states ≡ states_of (set_after d) d.starts → right_policy lay (made_policy d) ≡ true

-- a path through the drawing from state s to state t that follows a list of events
pub data DrawingPath (d : Drawing) : ℕ → List ℕ → ℕ → Type 0 where
  ends : {s : ℕ} → DrawingPath d s [] s
  goes : {s n t : ℕ} {es : List ℕ} (u : ℕ) → bit (successors d.arrows s n) u ≡ true → DrawingPath d u es t → DrawingPath d s (n ∷ es) t

-- a path that follows a list of events from one of the starts to state t
pub record DrawnRun (d : Drawing) (es : List ℕ) (t : ℕ) : Type 0 where
  pub from : ℕ
  pub starts : bit d.starts from ≡ true
  pub way : DrawingPath d from es t

pub record Followed (d : Drawing) (es : List ℕ) : Type 0 where
  pub end : ℕ
  pub run : DrawnRun d es end

-- 'An event word is allowed afterwards exactly if some run through the drawing follows it'
pub record FollowLaws (d : Drawing) (es : List ℕ) : Type 0 where
  pub follows : allowed (made_policy d) es ≡ true → Followed d es
  pub allows : Followed d es → allowed (made_policy d) es ≡ true

abbrev pub AllowedRuns : Type 0
AllowedRuns = (d : Drawing) (es : List ℕ) → drawing_right d ≡ true → nodes_fit (set_after d) d.starts ≡ true → FollowLaws d es

-- the set after a list of events contains exactly the states in which its paths end
pub record SetLaws (d : Drawing) (es : List ℕ) (t : ℕ) : Type 0 where
  pub ends : bit (node_after (set_after d) d.starts es) t ≡ true → DrawnRun d es t
  pub holds : DrawnRun d es t → bit (node_after (set_after d) d.starts es) t ≡ true

abbrev pub SetsAreEnds : Type 0
SetsAreEnds = (d : Drawing) (es : List ℕ) (t : ℕ) → drawing_right d ≡ true → SetLaws d es t

-- the states are exactly the sets that events lead to; refused as too many states (15) exactly if there are more than 16
abbrev pub SetsExact : Type 0
SetsExact = (d : Drawing) → drawing_right d ≡ true → Exactly (set_after d) d.starts

-- a row of a drawing with arrows for events 0 and 1 only; `row` is such a row of a table
abbrev pub drawn : ℕ → ℕ → List ℕ
drawn a b = a ∷ b ∷ replicate 14 0

-- two states: event 0 leads from 0 to both, and event 1 from 1 to 0
abbrev pub both : List ℕ
both = drawn 3 0 ++ drawn 0 1

-- 'the fourth event from the end is 1': five states, 16 sets; 'the fifth': six states, 32 sets
abbrev pub fourth : List ℕ
fourth = drawn 1 3 ++ drawn 4 4 ++ drawn 8 8 ++ drawn 16 16 ++ drawn 0 0

abbrev pub fifth : List ℕ
fifth = drawn 1 3 ++ drawn 4 4 ++ drawn 8 8 ++ drawn 16 16 ++ drawn 32 32 ++ drawn 0 0

pub record WorkedExamples : Type 0 where
  pub sets : determinise_of (drawing_of 2 1 both) 32 ≡ made_with (answer 0 32) 2
  pub rows : (made_policy (drawing_of 2 1 both)).table ≡ row 1 255 ++ row 1 0
  pub starts : (made_policy (drawing_of 2 2 both)).table ≡ row 255 1 ++ row 2 255 ++ row 2 1
  pub sixteen : determinise_of (drawing_of 5 1 fourth) 256 ≡ made_with (answer 0 256) 16
  pub many : determinise_of (drawing_of 6 1 fifth) 0 ≡ made_with (answer 15 0) 0
  pub small : determinise_of (drawing_of 5 1 fourth) 255 ≡ made_with (answer 9 0) 0
  pub no_start : determinise_of (drawing_of 2 0 both) 0 ≡ made_with (answer 16 0) 0
  pub no_state : determinise_of (drawing_of 0 1 []) 0 ≡ made_with (answer 16 0) 0
  pub start_above : determinise_of (drawing_of 2 4 both) 32 ≡ made_with (answer 16 0) 0
  pub bit_above : determinise_of (drawing_of 2 1 (drawn 3 0 ++ drawn 0 4)) 32 ≡ made_with (answer 16 0) 0
  pub short : determinise_of (drawing_of 2 1 (drawn 3 0)) 32 ≡ made_with (answer 16 0) 0
