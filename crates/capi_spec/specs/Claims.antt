-- Claims about C calls: a record survives the round trip through numbers, and lists of calls are isolated.
use Rattle.std.specs.Prelude.{ℕ, ◌+◌, ◌≡◌, true, List, [], ◌∷◌, map, length, get_or, take}
use Rattle.types.specs.declared.Layout.{Layout}
use Rattle.types.specs.Names.{registers}
use Rattle.spec.specs.Layouts.{in_box}
use Rattle.spec.specs.Policies.{Policy}
use Rattle.spec.specs.Runs.{RunInput, pairs_of, Pairwise, LowEqual, session_of, MemoriesPreserved, HostPremise, all_runs}
use Rattle.spec.specs.Claims.{SameInputs, Isolated}
use Rattle.capi_spec.specs.Numbers.{layout_from, trailer, status_known, numbers_after, machine_from, machine_to}
use Rattle.capi_spec.specs.Hosts.{check_for, install_for, HostLoaded, load_for, HostResult, result_to, run_for}

-- ---- a record as numbers, and back

-- a record of n registers survives the round trip: `from` makes it from numbers, `to` turns it into numbers
pub record RoundTrips {R : Type 0} (n : ℕ) (regs : R → List ℕ) (from : List ℕ → R) (to : R → List ℕ) : Type 0 where
  -- numbers whose status is valid become a record and the same numbers again
  pub from_numbers : (xs : List ℕ) → length xs ≡ n + trailer → status_known n xs ≡ true → to (from xs) ≡ xs
  -- a record of n registers becomes numbers and the same record again
  pub from_record : (m : R) → length (regs m) ≡ n → from (to m) ≡ m
  -- and its status number is valid
  pub known : (m : R) → length (regs m) ≡ n → status_known n (to m) ≡ true
  -- a run that leaves the record as it was, as a refused one does, leaves its numbers too, even with an invalid status
  pub untouched : (xs : List ℕ) (left : R) → length xs ≡ n + trailer → left ≡ from xs → numbers_after n xs (to left) ≡ xs

-- the machine's record, of sixteen registers
abbrev pub MachineRoundTrips : Type 0
MachineRoundTrips = RoundTrips registers (λ m. m.regs) machine_from machine_to

-- ---- a list of calls

-- the results of a list of calls: the first gets these numbers of a record, each other what the last call left
unfoldable pub calls_of : {G : Type 0} → (List ℕ → G → HostResult) → List ℕ → List G → List HostResult
calls_of call xs [] = []
calls_of call xs (g ∷ gs) = call xs g ∷ calls_of call (call xs g).after gs

-- one call of hemdroas_run
abbrev pub run_call : List ℕ → List ℕ → List ℕ → RunInput → HostResult
run_call lay ws xs g = run_for lay ws xs g.memory g.budget g.readings g.log

-- an answer's number
abbrev pub number : List ℕ → ℕ
number a = get_or a 0 0

-- the commands that a load's answer counts
abbrev pub counted : HostLoaded → List ℕ
counted r = take (get_or r.answer 1 0) r.commands

-- commands, record and memory ready for a first run: either hemdroas_check and hemdroas_install both answered taken (0), or hemdroas_load did.
-- Memory may have held anything before, such as another policy
pub data Prepared (lay : List ℕ) (pol : Policy) (mem : List ℕ) : List ℕ → List ℕ → List ℕ → Type 0 where
  installed : (ws : List ℕ) → number (check_for lay ws) ≡ 0 → number (install_for lay pol mem).answer ≡ 0
      → Prepared lay pol mem ws (install_for lay pol mem).machine (install_for lay pol mem).memory
  loaded : (bytes out : List ℕ) → number (load_for lay pol bytes out mem).answer ≡ 0
      → Prepared lay pol mem (counted (load_for lay pol bytes out mem)) (load_for lay pol bytes out mem).machine (load_for lay pol bytes out mem).memory

-- calls of hemdroas_run from there, with the same layout and commands. Each gets the record's numbers that the last call left,
-- and the memory that it left, except in free cells
abbrev pub CallsPreserved : List ℕ → List ℕ → List ℕ → List ℕ → List RunInput → Type 0
CallsPreserved lay ws xs left gs = MemoriesPreserved (layout_from lay) ws (session_of (machine_from xs) left [] [] 0) gs

-- these calls are runs that satisfy demand 3's premise, so isolation holds of them
pub record CallsIsolated (lay : List ℕ) (pol : Policy) (ws xs mem : List ℕ) (gs : List RunInput) : Type 0 where
  pub calls : calls_of (run_call lay ws) xs gs ≡ map (λ r. result_to r.result) (all_runs (layout_from lay) pol ws mem gs)
  pub premise : HostPremise (layout_from lay) pol ws mem gs
  pub isolated : Isolated (layout_from lay) pol ws mem gs

abbrev pub HostIsolation : Type 0
HostIsolation =
    (lay : List ℕ) (pol : Policy) (mem ws xs left : List ℕ) (gs : List RunInput) →
    Prepared lay pol mem ws xs left → CallsPreserved lay ws xs left gs → CallsIsolated lay pol ws xs mem gs

-- ---- two lists of calls

-- two calls with the same answer and record, and the same pairs in their logs. In memories of U cells, state cell and sandbox are the same too.
-- p is the index of the pairs in an answer
pub record SameCalls (p : ℕ) (lay : Layout) (r r' : HostResult) : Type 0 where
  pub answer : r.answer ≡ r'.answer
  pub after : r.after ≡ r'.after
  pub logged : pairs_of r.log (get_or r.answer p 0) ≡ pairs_of r'.log (get_or r'.answer p 0)
  pub cell : length r.memory ≡ lay.size → get_or r.memory lay.cell 0 ≡ get_or r'.memory lay.cell 0
  pub box : length r.memory ≡ lay.size → (i : ℕ) → in_box lay i ≡ true → get_or r.memory i 0 ≡ get_or r'.memory i 0

-- the index of the pairs in a run's answer
abbrev pub pairs_place : ℕ
pairs_place = 2

-- noninterference of two lists of calls with the same commands and inputs, whose memories at first differ only in free cells.
-- So neither free cells nor the old content of logs has any influence
abbrev pub HostNoninterference : Type 0
HostNoninterference =
    (lay : List ℕ) (pol pol' : Policy) (mem mem' ws xs xs' left left' : List ℕ) (gs gs' : List RunInput) →
    Prepared lay pol mem ws xs left → Prepared lay pol' mem' ws xs' left' →
    CallsPreserved lay ws xs left gs → CallsPreserved lay ws xs' left' gs' →
    LowEqual (layout_from lay) left left' → Pairwise SameInputs gs gs' →
    Pairwise (SameCalls pairs_place (layout_from lay)) (calls_of (run_call lay ws) xs gs) (calls_of (run_call lay ws) xs' gs')
