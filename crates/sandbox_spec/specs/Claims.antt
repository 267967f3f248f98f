-- The claim about loading: a routine that was loaded is isolated.
use Rattle.std.specs.Prelude.{ℕ, ◌≡◌, List, [], length, take}
use Rattle.types.specs.declared.Layout.{Layout}
use Rattle.spec.specs.Policies.{Policy}
use Rattle.spec.specs.Bytes.{words_in}
use Rattle.spec.specs.Bundles.{commands_of, rewrite_answer, check_answer}
use Rattle.spec.specs.Machines.{install_answer}
use Rattle.spec.specs.Runs.{RunInput, Session, session_of, initial_session, MemoriesPreserved}
use Rattle.spec.specs.Claims.{Isolated}
use Rattle.sandbox_spec.specs.Loading.{load_answer, load_commands, load_memory, load_machine}

-- the session after a load, before its first run
abbrev pub loaded_at : Layout → Policy → List ℕ → ℕ → List ℕ → Session
loaded_at lay pol bytes room mem = session_of (load_machine lay pol bytes room mem) (load_memory lay pol bytes room mem) [] [] 0

-- a load that is taken (0) satisfies demand 3's premise. The rewriter writes its commands, and the checker passes them.
-- Record and memory are those of an installation. So every list of runs from there is isolated.
-- Each run must be lent the memory that the load or the last run left, except in free cells
pub record Loaded (lay : Layout) (pol : Policy) (bytes out mem ws : List ℕ) : Type 0 where
  pub rewritten : (rewrite_answer lay (words_in bytes) (length out)).number ≡ 0
  pub commands : ws ≡ commands_of lay (words_in bytes)
  pub passed : (check_answer lay ws).number ≡ 0
  pub installed : (install_answer lay pol mem).number ≡ 0
  pub first : loaded_at lay pol bytes (length out) mem ≡ initial_session lay pol mem
  pub isolated : (gs : List RunInput) → MemoriesPreserved lay ws (loaded_at lay pol bytes (length out) mem) gs → Isolated lay pol ws mem gs

abbrev pub Loads : Type 0
Loads =
    (lay : Layout) (pol : Policy) (bytes out mem : List ℕ) →
    let a = load_answer lay pol bytes (length out) mem in
    a.number ≡ 0 → Loaded lay pol bytes out mem (take a.place (load_commands lay pol bytes out mem))
