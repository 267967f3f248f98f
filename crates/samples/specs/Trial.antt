-- Document 01's `trial` on its sample input, as a theorem about the rules. The program `trial` itself is only tested.
use Rattle.std.specs.Prelude.{ℕ, zero, suc, ◌≡◌, List, [], ◌∷◌, get_or, take, replicate}
use Rattle.types.specs.Names.{most_bundles, most_commands, answer, ending_number}
use Rattle.spec.specs.Policies.{Policy, policy_of}
use Rattle.spec.specs.Machines.{RunResult}
use Rattle.spec.specs.Guests.{pair_of}
use Rattle.spec.specs.Runs.{RunInput, pairs_of, MemoriesPreserved, run_on}
use Rattle.sandbox_spec.specs.Loading.{load_answer, load_commands, load_memory}
use Rattle.sandbox_spec.specs.Claims.{loaded_at}
use Rattle.samples.specs.Sample.{layout, policy as samplePolicy, written}

-- n numbers from x on
abbrev pub up_from : ℕ → ℕ → List ℕ
up_from x zero = []
up_from x (suc n) = x ∷ up_from (suc x) n

-- 'row 0 stays in 0 but event 2 (door) goes to 1; row 1 stays in 1 but has no arrow for event 0 (gas)'; 'lists all 1,024 landings'
abbrev pub policy : Policy
policy = policy_of 2 0 samplePolicy.table (up_from 0 most_bundles)

-- 'Input, hexadecimal'
abbrev pub input : List ℕ
input =
    0x04 ∷ 0x00 ∷ 0x21 ∷ 0x01 ∷ 0x46 ∷ 0x00 ∷ 0x00 ∷ 0x00 ∷ 0x01 ∷ 0x0C ∷ 0x21 ∷ 0x0C ∷ 0x02 ∷ 0x00 ∷ 0x00 ∷ 0x00 ∷ 0x01 ∷ 0x0C ∷ []

-- 'all cells 0 at first'
abbrev pub memory : List ℕ
memory = replicate 1024 0

-- the commands that loading leaves in a list with room for the most commands
abbrev pub commands : List ℕ
commands =
    take (load_answer layout policy input most_commands memory).place (load_commands layout policy input (replicate most_commands 0) memory)

-- 'readings 1800, 1950, 2100; log 64 cells; budget 1,000'. Before the run the host writes x to a free cell.
-- `trial` writes nothing there. The cell holds 0, so its run has x = 0
abbrev pub run_input : ℕ → RunInput
run_input x =
    record {
      memory = written x (load_memory layout policy input most_commands memory);
      budget = 1000;
      readings = 1800 ∷ 1950 ∷ 2100 ∷ [];
      log = replicate 64 0;
    }

abbrev pub run_result : ℕ → RunResult
run_result x = run_on layout commands (loaded_at layout policy input most_commands memory) (run_input x)

-- what `trial` prints: 'answer 0; event 0 70; event 2 70; end 21 steps 14 state 1'; the run satisfies the premises of Loads
pub record TrialHolds : Type 0 where
  pub answers : load_answer layout policy input most_commands memory ≡ answer 0 32
  pub events : (x : ℕ) → pairs_of (run_result x).log (run_result x).outcome.answer.pairs ≡ pair_of 0 70 ∷ pair_of 2 70 ∷ []
  pub ending : (x : ℕ) → ending_number (run_result x).outcome.answer.ending ≡ 21
  pub steps : (x : ℕ) → (run_result x).outcome.answer.steps ≡ 14
  pub state : (x : ℕ) → get_or (run_result x).mem layout.cell 0 ≡ 1
  pub unwritten : (run_input 0).memory ≡ load_memory layout policy input most_commands memory
  pub preserved : (x : ℕ) → MemoriesPreserved layout commands (loaded_at layout policy input most_commands memory) (run_input x ∷ [])
