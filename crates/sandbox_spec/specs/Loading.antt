-- What loading a routine's bytes answers and leaves.
use Rattle.std.specs.Prelude.{ℕ, List, length, Result, Ok, Err}
use Rattle.types.specs.declared.Layout.{Layout}
use Rattle.types.specs.declared.Machine.{Machine}
use Rattle.types.specs.declared.Answer.{Answer}
use Rattle.types.specs.declared.Reject.{Reject}
use Rattle.types.specs.Results.{Installed, rejected}
use Rattle.sandbox_spec.specs.declared.LoadedRoutine.{LoadedRoutine}
use Rattle.types.specs.Names.{taken_number, most_instructions, answer, if_taken, or_else, output_of}
use Rattle.spec.specs.Policies.{Policy}
use Rattle.spec.specs.Bytes.{words_in, read_answer}
use Rattle.spec.specs.Bundles.{commands_of, command_count, rewrite_answer, check_answer}
use Rattle.spec.specs.Machines.{install_answer, install_memory, install_machine}
use Rattle.types.specs.Records.{machine_refused}

-- reading, then rewriting into `room` commands, then checking; on success the place counts the commands
unfoldable pub translate_answer : Layout → List ℕ → ℕ → Answer
translate_answer lay s room =
    or_else (read_answer s most_instructions)
    (or_else (rewrite_answer lay (words_in s) room)
    (or_else (check_answer lay (commands_of lay (words_in s))) (answer 0 (command_count (length (words_in s))))))

-- 'the first reject of reading, rewriting, checking, installing, or 0'; on success the place counts the commands
unfoldable pub load_answer : Layout → Policy → List ℕ → ℕ → List ℕ → Answer
load_answer lay pol s room mem = let a = translate_answer lay s room in or_else a (or_else (install_answer lay pol mem) a)

-- a refusal leaves commands and memory as they were, and yields the record of a refused installation
unfoldable pub load_commands : Layout → Policy → List ℕ → List ℕ → List ℕ → List ℕ
load_commands lay pol s out mem = output_of (load_answer lay pol s (length out) mem) (commands_of lay (words_in s)) out

unfoldable pub load_memory : Layout → Policy → List ℕ → ℕ → List ℕ → List ℕ
load_memory lay pol s room mem = if_taken (load_answer lay pol s room mem) (install_memory lay pol mem) mem

unfoldable pub load_machine : Layout → Policy → List ℕ → ℕ → List ℕ → Machine
load_machine lay pol s room mem = if_taken (load_answer lay pol s room mem) (install_machine lay pol mem) machine_refused

abbrev pub load_of : Layout → Policy → List ℕ → ℕ → List ℕ → Installed
load_of lay pol s room mem = record { machine = load_machine lay pol s room mem; answer = load_answer lay pol s room mem }

-- what the code's result is in these terms; after a refusal the record is that of a refused installation
abbrev pub loaded_of : Result LoadedRoutine Reject → Installed
loaded_of (Ok l) = record { machine = l.machine; answer = answer taken_number l.commands }
loaded_of (Err e) = record { machine = machine_refused; answer = rejected e }
