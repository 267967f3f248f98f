-- The sample tray's rows hold, by computation.
use mathlib.Core.Path.{refl}
use lib.Count.{ones, count_leading_zeros}
use Rattle.spec.specs.Layouts.{right_layout}
use Rattle.spec.specs.Policies.{right_policy}
use Rattle.spec.specs.Landings.{right_landings, bits_from, landings_of, marked}
use Rattle.spec.specs.Words.{fields_refusal, refusal_at, first_refused, instr_of, routine, bundles_for}
use Rattle.spec.specs.Bytes.{byte_at, quad_at, fields_at, decode_fields, decode_map, decode_one, scan_of, read_answer, byte_out, quad_out, regs_out, fields_out, bytes_of, routine_of, write_answer, write_output}
use Rattle.spec.specs.Commands.{is_command, command_of, word_of, fetch_of, plain_of}
use Rattle.spec.specs.Bundles.{shape_of, base_room_answer, rewrite_answer, valid, decode_bundle, bundle_at, is_bundle, shaped_at, passes_at, check_from, check_answer}
use Rattle.spec.specs.Machines.{install_answer, install_memory, is_landing, effect_of, apply_of, run_of, loop_from}
use Rattle.samples.specs.Tray.{TrayHolds}

pub tray_holds : TrayHolds
unfolding ones count_leading_zeros right_layout fields_refusal refusal_at first_refused instr_of routine bundles_for byte_at quad_at fields_at decode_fields decode_map decode_one
    scan_of read_answer byte_out quad_out regs_out fields_out bytes_of routine_of write_answer write_output is_command command_of word_of fetch_of plain_of shape_of
    base_room_answer rewrite_answer valid decode_bundle bundle_at is_bundle shaped_at passes_at check_from check_answer right_policy right_landings bits_from landings_of
    marked install_answer install_memory is_landing effect_of apply_of loop_from run_of
tray_holds = refl
