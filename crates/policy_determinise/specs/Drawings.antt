-- Request 8, 'Policies drawn with several arrows': drawings, and the policy whose states are sets of a drawing's states.
use Rattle.std.specs.Prelude.{ℕ, zero, suc, ◌+◌, ◌*◌, ◌^◌, ◌<◌, ◌≤◌, ◌≡◌, Bool, true, ◌&&◌, not, cond, List, [], ◌∷◌, length, get_or, eqb, ltb}
use Rattle.std.specs.Int.Bits.{bit_or}
use Rattle.types.specs.declared.Refusal.TheVariants.{BadDrawing}
use Rattle.types.specs.Names.{events, most_states, refusal, first}
use Rattle.spec.specs.Policies.{Policy, states_right}
use Rattle.policy_spec.specs.maps.Maps.{bit}
use Rattle.policy_spec.specs.reachability.Reach.{Made, reached_policy, made_with, reach_of, reach_table}

-- a drawing: the state count, the set of starts, and 'entry 16 × s + n such a map of the successors of state s under event n'
pub record Drawing : Type 0 where
  pub states : ℕ
  pub starts : ℕ
  pub arrows : List ℕ

abbrev pub drawing_of : ℕ → ℕ → List ℕ → Drawing
drawing_of s q ms = record { states = s; starts = q; arrows = ms }

-- the set of states that event n leads to from state s; past the end there is no arrow
abbrev pub successors : List ℕ → ℕ → ℕ → ℕ
successors ms s n = cond (ltb n events) (get_or ms (events * s + n) 0) 0

-- the set of states that event n leads to from those of the first k states that are in the set x
unfoldable pub union_of : List ℕ → ℕ → ℕ → ℕ → ℕ
union_of ms x n zero = 0
union_of ms x n (suc k) = bit_or (union_of ms x n k) (cond (bit x k) (successors ms k n) 0)

-- the set after event n in the set x; 0 is the empty set
abbrev pub set_after : Drawing → ℕ → ℕ → ℕ
set_after d x n = union_of d.arrows x n d.states

-- no map has 'a bit at or above the state count'
abbrev pub maps_right : ℕ → List ℕ → Bool
maps_right s [] = true
maps_right s (m ∷ ms) = ltb m (2 ^ s) && maps_right s ms

-- whether a drawing is right; if not, refused as bad drawing (16): 'no start, a state count outside 1 to 16, the wrong length,
-- or a bit at or above the state count'
unfoldable pub drawing_right : Drawing → Bool
drawing_right d = states_right d.states && not (eqb d.starts 0) && eqb (length d.arrows) (events * d.states) && maps_right d.states (d.starts ∷ d.arrows)

-- 'Sets are numbered as first met, as pairs are in the merge'
abbrev pub made_policy : Drawing → Policy
made_policy d = reached_policy (set_after d) d.starts

-- what holds of a drawing that is right
pub record ValidDrawing (d : Drawing) : Type 0 where
  pub some_states : 1 ≤ d.states
  pub few_states : d.states ≤ most_states
  pub starts_some : d.starts ≡ 0 → ⊥
  pub starts_below : d.starts < 2 ^ d.states
  pub size : length d.arrows ≡ events * d.states
  pub below : (i : ℕ) → get_or d.arrows i 0 < 2 ^ d.states

-- '16 .. comes first. 15 .. and then 9 follow': the result, with the policy's numbers
unfoldable pub determinise_of : Drawing → ℕ → Made
determinise_of d room = first ((not (drawing_right d), made_with (refusal BadDrawing 0) 0) ∷ []) (reach_of (set_after d) d.starts room)

-- the output after the table was written
unfoldable pub determinise_table : Drawing → List ℕ → List ℕ
determinise_table d table = cond (drawing_right d) (reach_table (set_after d) d.starts table) table
