-- Request 11, 'This before that': the policy made from a list of pairs of events.
use Rattle.std.specs.Prelude.{ℕ, zero, suc, ◌+◌, ◌*◌, ◌/◌, ◌%◌, ◌^◌, ◌≤◌, ◌≡◌, Bool, true, ◌&&◌, ◌||◌, not, cond, List, [], ◌∷◌, length, get_or, eqb, leb, ltb}
use Rattle.std.specs.Int.Bits.{bit_or}
use Rattle.types.specs.declared.Answer.{Answer}
use Rattle.types.specs.declared.PolicyNumbers.{PolicyNumbers}
use Rattle.types.specs.declared.Refusal.TheVariants.{BadPair}
use Rattle.types.specs.Names.{events, no_arrow, refusal, if_taken, output_of, room_for, first}
use Rattle.spec.specs.Policies.{Policy, policy_of}
use Rattle.policy_spec.specs.maps.Maps.{every, some, count, map_where, bit, build}

-- 'more than four named events' are too many
abbrev pub most_named : ℕ
most_named = 4

-- 'a list of pairs of event numbers': the list has the first and the second event of each pair in turn
abbrev pub pairs_in : List ℕ → ℕ
pairs_in ps = length ps / 2

abbrev pub first_at : List ℕ → ℕ → ℕ
first_at ps i = get_or ps (2 * i) 0

abbrev pub second_at : List ℕ → ℕ → ℕ
second_at ps i = get_or ps (2 * i + 1) 0

-- whether an event is among the first n numbers of a list, and in all of it
unfoldable pub named_in : List ℕ → ℕ → ℕ → Bool
named_in ps n e = some (λ j. eqb (get_or ps j 0) e) n

abbrev pub is_named : List ℕ → ℕ → Bool
is_named ps e = named_in ps (length ps) e

-- how many events are named
abbrev pub named_count : List ℕ → ℕ
named_count ps = count (is_named ps) events

-- no 'event above 15' among the first n numbers
unfoldable pub known_in : List ℕ → ℕ → Bool
known_in ps n = every (λ j. ltb (get_or ps j 0) events) n

abbrev pub events_known : List ℕ → Bool
events_known ps = known_in ps (length ps)

-- whether pairs are right; if not, refused as bad pair (17): 'an event above 15 or without its partner, or more than four named events'
unfoldable pub pairs_right : List ℕ → Bool
pairs_right ps = events_known ps && eqb (length ps % 2) 0 && leb (named_count ps) most_named

-- pairs that are right, with the set m of the events that they name
pub record ValidPairs (ps : List ℕ) (m : ℕ) : Type 0 where
  pub below : events_known ps ≡ true
  pub few : named_count ps ≤ most_named
  pub map : m ≡ map_where (is_named ps) events

-- 'bit k stands for the k-th smallest named event, counted from 0': k named events are smaller
abbrev pub bit_index : List ℕ → ℕ → ℕ
bit_index ps e = count (is_named ps) e

-- 'A state is the map of named events already recorded'; 'all such maps are states'
abbrev pub states_of : List ℕ → ℕ
states_of ps = 2 ^ named_count ps

-- 'all its firsts are recorded': among the first n pairs, each whose second is e has its first recorded in state s
unfoldable pub firsts_in : List ℕ → ℕ → ℕ → ℕ → Bool
firsts_in ps s e n = every (λ i. not (eqb (second_at ps i) e) || bit s (bit_index ps (first_at ps i))) n

-- 'Unnamed events stay in their state'; 'A named event sets its bit, and has an arrow exactly in the states where all its firsts are recorded'
unfoldable pub arrow_of : List ℕ → ℕ → ℕ → ℕ
arrow_of ps s e = cond (is_named ps e) (cond (firsts_in ps s e (pairs_in ps)) (bit_or s (2 ^ bit_index ps e)) no_arrow) s

-- byte 16 × s + e of the table, by its index
abbrev pub byte_of : List ℕ → ℕ → ℕ
byte_of ps i = arrow_of ps (i / events) (i % events)

abbrev pub table_bytes : List ℕ → ℕ
table_bytes ps = events * states_of ps

abbrev pub table_of : List ℕ → List ℕ
table_of ps = build (byte_of ps) (table_bytes ps)

-- 'the policy in which the second of a pair has an arrow only once the first has been recorded'; 'the start state is 0'
abbrev pub made_policy : List ℕ → Policy
made_policy ps = policy_of (states_of ps) 0 (table_of ps) []

-- whether an event has no arrow in a state
abbrev pub blocked : List ℕ → ℕ → ℕ → Bool
blocked ps s e = eqb (arrow_of ps s e) no_arrow

-- one step towards the fixpoint: the state after an event if it has an arrow, else the same
abbrev pub advance_of : List ℕ → ℕ → ℕ → ℕ
advance_of ps s e = cond (blocked ps s e) s (arrow_of ps s e)

-- n steps towards the fixpoint: events 0 to 15, again and again, each recorded if it has an arrow
unfoldable pub iterate : List ℕ → ℕ → ℕ
iterate ps zero = 0
iterate ps (suc n) = advance_of ps (iterate ps n) (n % events)

-- the fixpoint: one pass over all events for each event that may be named; then no more can be recorded
abbrev pub fixpoint_of : List ℕ → ℕ
fixpoint_of ps = iterate ps (most_named * events)

-- 'a 16-bit map of the events that no allowed word holds': those still without an arrow at the fixpoint
abbrev pub unreachable_events : List ℕ → ℕ
unreachable_events ps = map_where (blocked ps (fixpoint_of ps)) events

-- '17 .. comes first. 9 follows it'
unfoldable pub make_answer : List ℕ → ℕ → Answer
make_answer ps room = first ((not (pairs_right ps), refusal BadPair 0) ∷ []) (room_for room (table_bytes ps))

-- what making a policy answers: on success the bytes written, as place, the policy's numbers, and the set of events that it never allows
pub record PrecedenceResult : Type 0 where
  pub answer : Answer
  pub policy : PolicyNumbers
  pub unreachable : ℕ

-- 'After a reject all else handed back is 0'
abbrev pub precedence_result : Answer → ℕ → ℕ → PrecedenceResult
precedence_result a s m = record { answer = a; policy = record { states = s; start = 0 }; unreachable = m }

-- the result of making a policy: its answer, its numbers, and the set of events that it never allows
unfoldable pub make_of : List ℕ → ℕ → PrecedenceResult
make_of ps room = let a = make_answer ps room in if_taken a (precedence_result a (states_of ps) (unreachable_events ps)) (precedence_result a 0 0)

-- the output after the table was written to its start
unfoldable pub make_table : List ℕ → List ℕ → List ℕ
make_table ps table = output_of (make_answer ps (length table)) (table_of ps) table
