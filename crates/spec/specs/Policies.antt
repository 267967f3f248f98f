-- Policies: a start state, and a table of 16 bytes for each state.
use Rattle.std.specs.Prelude.{ℕ, ◌+◌, ◌*◌, Bool, true, ◌&&◌, ◌||◌, not, cond, List, [], ◌∷◌, length, get_or, eqb, leb, ltb}
use Rattle.spec.specs.Types.{Layout, PolicyNumbers}
use Rattle.types.specs.Names.{most_states, events, no_arrow}

-- a policy and its landings: what is installed
pub record Policy : Type 0 where
  pub states : ℕ
  pub start : ℕ
  pub table : List ℕ
  pub landings : List ℕ

abbrev pub policy_of : ℕ → ℕ → List ℕ → List ℕ → Policy
policy_of s q t ls = record { states = s; start = q; table = t; landings = ls }

-- the policy with these numbers, table and landings
abbrev pub lent_policy : PolicyNumbers → List ℕ → List ℕ → Policy
lent_policy p t ls = policy_of p.states p.start t ls

-- the state after event n in state s, or 255: 'byte 16 × s + n'; past the table's end there is no arrow
abbrev pub arrow : Policy → ℕ → ℕ → ℕ
arrow pol s n = cond (ltb n events) (get_or pol.table (events * s + n) no_arrow) no_arrow

-- the state after a list of events, from state s
abbrev pub state_from : Policy → ℕ → List ℕ → ℕ
state_from pol s [] = s
state_from pol s (e ∷ es) = state_from pol (arrow pol s e) es

abbrev pub state_over : Policy → List ℕ → ℕ
state_over pol es = state_from pol pol.start es

-- whether each event has an arrow in the state after those before it
abbrev pub allowed_from : Policy → ℕ → List ℕ → Bool
allowed_from pol s [] = true
allowed_from pol s (e ∷ es) = not (eqb (arrow pol s e) no_arrow) && allowed_from pol (arrow pol s e) es

-- 'A list of events is allowed if each has an arrow in the state to which those before it lead from the start'
unfoldable pub allowed : Policy → List ℕ → Bool
allowed pol es = allowed_from pol pol.start es

-- whether a byte is below S or 255
abbrev pub entry_right : ℕ → ℕ → Bool
entry_right s b = ltb b s || eqb b no_arrow

-- whether every byte is below S or 255
abbrev pub entries_right : ℕ → List ℕ → Bool
entries_right s [] = true
entries_right s (b ∷ bs) = entry_right s b && entries_right s bs

-- whether S is from 1 to 16
abbrev pub states_right : ℕ → Bool
states_right s = leb 1 s && leb s most_states

-- whether a policy can be installed; if not, refused as bad policy (10): 'S not the layout's, length not 16 × S, start not below S,
-- or a byte neither below S nor 255'
unfoldable pub right_policy : Layout → Policy → Bool
right_policy l pol =
    eqb pol.states l.states && eqb (length pol.table) (events * pol.states) && ltb pol.start pol.states && entries_right pol.states pol.table
