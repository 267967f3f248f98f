-- The output of `trial`, by computation.
use mathlib.Core.Path.{refl}
use lib.Count.{ones, count_leading_zeros}
use Rattle.types.specs.Names.{most_commands}
use Rattle.spec.specs.Layouts.{right_layout}
use Rattle.spec.specs.Policies.{right_policy}
use Rattle.spec.specs.Landings.{right_landings, landings_of}
use Rattle.spec.specs.Words.{fields_refusal, refusal_at, first_refused, instr_of, routine, bundles_for}
use Rattle.spec.specs.Bytes.{byte_at, quad_at, fields_at, decode_fields, decode_map, decode_one, scan_of, words_of, read_answer}
use Rattle.spec.specs.Commands.{is_command, command_of, word_of, fetch_of, plain_of}
use Rattle.spec.specs.Bundles.{shape_of, base_room_answer, rewrite_answer, valid, decode_bundle, bundle_at, is_bundle, shaped_at, passes_at, check_from, check_answer}
use Rattle.spec.specs.Machines.{install_answer, install_memory, install_machine, effect_of, apply_of, run_of, loop_from}
use Rattle.spec.specs.Runs.{run_on, each_run}
use Rattle.sandbox_spec.specs.Loading.{translate_answer, load_answer, load_commands, load_memory, load_machine}
use Rattle.samples.specs.Sample.{layout}
use Rattle.samples.proofs.Samples.{written_kept}
use Rattle.samples.specs.Trial.{policy, input, memory, TrialHolds}

pub trial_holds : TrialHolds
unfolding ones count_leading_zeros right_layout right_policy right_landings landings_of fields_refusal refusal_at first_refused instr_of routine bundles_for byte_at quad_at
    fields_at decode_fields decode_map decode_one scan_of words_of read_answer is_command command_of word_of fetch_of plain_of shape_of base_room_answer rewrite_answer valid
    decode_bundle bundle_at is_bundle shaped_at passes_at check_from check_answer install_answer install_memory install_machine effect_of apply_of loop_from run_of run_on
    translate_answer load_answer load_commands load_memory load_machine each_run
trial_holds =
    record {
      answers = refl;
      events = λ x. refl;
      ending = λ x. refl;
      steps = λ x. refl;
      state = λ x. refl;
      unwritten = refl;
      preserved = λ x. (λ l. written_kept x (load_memory layout policy input most_commands memory), tt);
    }
