-- The proof of all claims of this crate.
use Rattle.spec.specs.Proved.{Proved}
use Rattle.spec.proofs.Landings.{landing_bits}
use Rattle.spec.proofs.Masks.{masks, sizes}
use Rattle.spec.proofs.Signs.{signs}
use Rattle.spec.proofs.RoundTrip.{words_round_trip, bytes_round_trip}
use Rattle.spec.proofs.Conditions.{installs}
use Rattle.spec.proofs.Passing.{rewrite_leaves, rewritten_passes, passed_rewrites, passed_decodes}
use Rattle.spec.proofs.Shapes.{shapes, checks}
use Rattle.spec.proofs.Endings.{ending_status, previews}
use Rattle.spec.proofs.Ordered.{machine_order, terminal_is_absorbing, ends_only_when}
use Rattle.spec.proofs.Isolation.{guest_rule, recorded, isolation, no_wrap}
use Rattle.spec.proofs.Ceilings.{ceilings}
use Rattle.spec.proofs.Progress.{resumable_no_pause, resumes, progress}
use Rattle.spec.proofs.Pauses.{state_cell, paused_waits, pause_rule}
use Rattle.spec.proofs.Prefixes.{runs_compose, prefix_closed, every_moment}

pub proved : Proved
proved =
    record {
      masks = masks;
      landing_bits = landing_bits;
      installs = installs;
      sizes = sizes;
      signs = signs;
      words_round_trip = words_round_trip;
      bytes_round_trip = bytes_round_trip;
      rewrite_leaves = rewrite_leaves;
      rewritten_passes = rewritten_passes;
      passed_rewrites = passed_rewrites;
      shapes = shapes;
      checks = checks;
      passed_decodes = passed_decodes;
      ending_status = ending_status;
      machine_order = machine_order;
      terminal_is_absorbing = terminal_is_absorbing;
      ends_only_when = ends_only_when;
      previews = previews;
      runs_compose = runs_compose;
      prefix_closed = prefix_closed;
      guest_rule = guest_rule;
      every_moment = every_moment;
      resumable_no_pause = resumable_no_pause;
      resumes = resumes;
      progress = progress;
      recorded = recorded;
      ceilings = ceilings;
      isolation = isolation;
      no_wrap = no_wrap;
      state_cell = state_cell;
      paused_waits = paused_waits;
      pause_rule = pause_rule;
    }
