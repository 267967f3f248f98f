-- What checking, installing, loading, running and previewing answer and leave, as a C host's numbers.
use Rattle.std.specs.Prelude.{ℕ, List, length}
use Rattle.types.specs.Names.{registers}
use Rattle.spec.specs.Policies.{Policy}
use Rattle.spec.specs.Bundles.{check_answer}
use Rattle.spec.specs.Machines.{install_answer, install_machine, install_memory, RunResult, run_of, preview_of}
use Rattle.sandbox_spec.specs.Loading.{load_answer, load_machine, load_commands, load_memory}
use Rattle.capi_spec.specs.Numbers.{layout_from, numbers_after, machine_from, machine_to, answer_to, run_answer_to}

-- what hemdroas_check answers
unfoldable pub check_for : List ℕ → List ℕ → List ℕ
check_for lay ws = answer_to (check_answer (layout_from lay) ws)

-- what hemdroas_install leaves: answer, record, memory
pub record HostInstalled : Type 0 where
  pub answer : List ℕ
  pub machine : List ℕ
  pub memory : List ℕ

abbrev pub host_installed : List ℕ → List ℕ → List ℕ → HostInstalled
host_installed a m mem = record { answer = a; machine = m; memory = mem }

unfoldable pub install_for : List ℕ → Policy → List ℕ → HostInstalled
install_for lay pol mem =
    let l = layout_from lay in
    host_installed (answer_to (install_answer l pol mem)) (machine_to (install_machine l pol mem)) (install_memory l pol mem)

-- what hemdroas_load leaves: answer, record, commands, memory
pub record HostLoaded : Type 0 where
  pub answer : List ℕ
  pub machine : List ℕ
  pub commands : List ℕ
  pub memory : List ℕ

abbrev pub host_loaded : List ℕ → List ℕ → List ℕ → List ℕ → HostLoaded
host_loaded a m ws mem = record { answer = a; machine = m; commands = ws; memory = mem }

unfoldable pub load_for : List ℕ → Policy → List ℕ → List ℕ → List ℕ → HostLoaded
load_for lay pol bytes out mem =
    let l = layout_from lay in
    let room = length out in
    host_loaded (answer_to (load_answer l pol bytes room mem)) (machine_to (load_machine l pol bytes room mem)) (load_commands l pol bytes out mem) (load_memory l pol bytes room mem)

-- what hemdroas_run, hemdroas_engine_run and hemdroas_engine_continue leave: answer, record, memory, log
pub record HostResult : Type 0 where
  pub answer : List ℕ
  pub after : List ℕ
  pub memory : List ℕ
  pub log : List ℕ

abbrev pub host_result : List ℕ → List ℕ → List ℕ → List ℕ → HostResult
host_result a x mem log = record { answer = a; after = x; memory = mem; log = log }

-- what a call leaves of a run's result: a record of n registers whose status number is invalid stays as it was
abbrev pub host_after : ℕ → List ℕ → HostResult → HostResult
host_after n xs r = host_result r.answer (numbers_after n xs r.after) r.memory r.log

-- a run's result as numbers
abbrev pub result_to : RunResult → HostResult
result_to r = host_result (run_answer_to r.outcome.answer) (machine_to r.outcome.machine) r.mem r.log

-- what hemdroas_run leaves
unfoldable pub run_for : List ℕ → List ℕ → List ℕ → List ℕ → ℕ → List ℕ → List ℕ → HostResult
run_for lay ws xs mem budget rd log = host_after registers xs (result_to (run_of (layout_from lay) ws (machine_from xs) mem budget rd log))

-- what hemdroas_preview leaves: answer, record, memory (in `work`) and log of the run; and the caller's record and memory, unchanged
pub record HostPreviewed : Type 0 where
  pub answer : List ℕ
  pub after : List ℕ
  pub work : List ℕ
  pub log : List ℕ
  pub machine : List ℕ
  pub memory : List ℕ

abbrev pub host_previewed : HostResult → List ℕ → List ℕ → HostPreviewed
host_previewed r m mem = record { answer = r.answer; after = r.after; work = r.memory; log = r.log; machine = m; memory = mem }

unfoldable pub preview_for : List ℕ → List ℕ → List ℕ → List ℕ → List ℕ → ℕ → List ℕ → List ℕ → HostPreviewed
preview_for lay ws xs mem work budget rd log =
    host_previewed (host_after registers xs (result_to (preview_of (layout_from lay) ws (machine_from xs) mem work budget rd log))) xs mem
