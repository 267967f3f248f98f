-- Claims about the policy made from pairs. Each is a type; its proof, in proofs/, has the same name in small letters, with hyphens.
use Rattle.std.specs.Prelude.{ℕ, ◌<◌, ◌≡◌, true, List, [], ◌∷◌, length, get_or, take}
use Rattle.types.specs.declared.Layout.{Layout}
use Rattle.types.specs.Names.{events, answer}
use Rattle.spec.specs.Policies.{state_over, allowed, right_policy}
use Rattle.policy_spec.specs.maps.Maps.{bit}
use Rattle.policy_spec.specs.precedence.Precedence.{pairs_in, first_at, second_at, is_named, pairs_right, bit_index, states_of, table_of, made_policy, unreachable_events, make_answer, precedence_result, make_of, make_table}

-- if the answer is taken (0), what was answered and written is `made_policy`, the policy of the other claims
pub record WritesPolicy (ps table : List ℕ) : Type 0 where
  pub right : pairs_right ps ≡ true
  pub states : (make_of ps (length table)).policy.states ≡ (made_policy ps).states
  pub start : (make_of ps (length table)).policy.start ≡ (made_policy ps).start
  pub leaves : take (make_of ps (length table)).answer.place (make_table ps table) ≡ (made_policy ps).table
  pub unreachable : (make_of ps (length table)).unreachable ≡ unreachable_events ps

abbrev pub TakenWritesPolicy : Type 0
TakenWritesPolicy = (ps table : List ℕ) → (make_answer ps (length table)).number ≡ 0 → WritesPolicy ps table

-- pairs that are right give a policy that can be installed under a layout with as many states
abbrev pub MadeRight : Type 0
MadeRight = (ps : List ℕ) (lay : Layout) → pairs_right ps ≡ true → lay.states ≡ states_of ps → right_policy lay (made_policy ps) ≡ true

-- whether an event is among the first n of a list
pub record Among (es : List ℕ) (n e : ℕ) : Type 0 where
  pub at : ℕ
  pub below : at < n
  pub is : get_or es at 0 ≡ e

-- in a list of events, each comes after all its firsts
abbrev pub InOrder : List ℕ → List ℕ → Type 0
InOrder ps es = (i j : ℕ) → i < length es → j < pairs_in ps → second_at ps j ≡ get_or es i 0 → Among es i (first_at ps j)

abbrev pub AreEvents : List ℕ → Type 0
AreEvents es = (i : ℕ) → i < length es → get_or es i 0 < events

-- 'the second of a pair has an arrow only once the first has been recorded': exactly the lists in order are allowed
pub record OrderLaws (ps es : List ℕ) : Type 0 where
  pub ordered : allowed (made_policy ps) es ≡ true → InOrder ps es
  pub allows : InOrder ps es → allowed (made_policy ps) es ≡ true

abbrev pub AllowedInOrder : Type 0
AllowedInOrder = (ps es : List ℕ) → pairs_right ps ≡ true → AreEvents es → OrderLaws ps es

-- 'A state is the map of named events already recorded: bit k stands for the k-th smallest named event', after any allowed list
pub record MapLaws (ps es : List ℕ) : Type 0 where
  pub state : state_over (made_policy ps) es < states_of ps
  pub recorded : (e : ℕ) → is_named ps e ≡ true → bit (state_over (made_policy ps) es) (bit_index ps e) ≡ true → Among es (length es) e
  pub kept : (e : ℕ) → is_named ps e ≡ true → Among es (length es) e → bit (state_over (made_policy ps) es) (bit_index ps e) ≡ true

abbrev pub StatesAreMaps : Type 0
StatesAreMaps = (ps es : List ℕ) → pairs_right ps ≡ true → allowed (made_policy ps) es ≡ true → MapLaws ps es

-- no allowed list contains event e
abbrev pub Unreachable : List ℕ → ℕ → Type 0
Unreachable ps e = (es : List ℕ) → allowed (made_policy ps) es ≡ true → Among es (length es) e → ⊥

-- 'a 16-bit map of the events that no allowed word holds'
pub record UnreachableLaws (ps : List ℕ) (e : ℕ) : Type 0 where
  pub event : bit (unreachable_events ps) e ≡ true → e < events
  pub unreachable : bit (unreachable_events ps) e ≡ true → Unreachable ps e
  pub complete : e < events → Unreachable ps e → bit (unreachable_events ps) e ≡ true

abbrev pub UnreachableExact : Type 0
UnreachableExact = (ps : List ℕ) (e : ℕ) → pairs_right ps ≡ true → UnreachableLaws ps e

-- examples, with gas 0, door 2 and charge 3
pub record WorkedExamples : Type 0 where
  -- 'An empty list gives one state that allows everything'
  pub none : make_of [] 16 ≡ precedence_result (answer 0 16) 1 0
  -- 'charge before gas, gas before door'
  pub chain : make_of (3 ∷ 0 ∷ 0 ∷ 2 ∷ []) 128 ≡ precedence_result (answer 0 128) 8 0
  -- 'so that a ring shows at once', also the event that waits for it
  pub ring : make_of (3 ∷ 0 ∷ 0 ∷ 3 ∷ 0 ∷ 2 ∷ []) 256 ≡ precedence_result (answer 0 128) 8 13
  -- 'without its partner' comes before small hopper (9)
  pub alone : make_of (3 ∷ 0 ∷ 0 ∷ []) 0 ≡ precedence_result (answer 17 0) 0 0
  pub above : make_of (3 ∷ 16 ∷ []) 256 ≡ precedence_result (answer 17 0) 0 0
  pub fifth : make_of (0 ∷ 1 ∷ 2 ∷ 3 ∷ 3 ∷ 4 ∷ []) 512 ≡ precedence_result (answer 17 0) 0 0
  pub small : make_of (3 ∷ 0 ∷ 0 ∷ 2 ∷ []) 127 ≡ precedence_result (answer 9 0) 0 0
  -- gas before door: in state 1 gas is recorded, in state 2 the door, in state 3 both
  pub rows : table_of (0 ∷ 2 ∷ []) ≡
      1 ∷ 0 ∷ 255 ∷ 0 ∷ 0 ∷ 0 ∷ 0 ∷ 0 ∷ 0 ∷ 0 ∷ 0 ∷ 0 ∷ 0 ∷ 0 ∷ 0 ∷ 0 ∷
      1 ∷ 1 ∷ 3 ∷ 1 ∷ 1 ∷ 1 ∷ 1 ∷ 1 ∷ 1 ∷ 1 ∷ 1 ∷ 1 ∷ 1 ∷ 1 ∷ 1 ∷ 1 ∷
      3 ∷ 2 ∷ 255 ∷ 2 ∷ 2 ∷ 2 ∷ 2 ∷ 2 ∷ 2 ∷ 2 ∷ 2 ∷ 2 ∷ 2 ∷ 2 ∷ 2 ∷ 2 ∷
      3 ∷ 3 ∷ 3 ∷ 3 ∷ 3 ∷ 3 ∷ 3 ∷ 3 ∷ 3 ∷ 3 ∷ 3 ∷ 3 ∷ 3 ∷ 3 ∷ 3 ∷ 3 ∷ []
