-- Every claim of this crate is proved.
use Rattle.engine_spec.specs.Proved.{Proved}
use Rattle.engine_spec.proofs.Rule.{engine_rule, engine_machine, engine_paused}
use Rattle.engine_spec.proofs.StepTogether.{engine_next, engine_endings}
use Rattle.engine_spec.proofs.Isolation.{engine_reaches, engine_ample, engine_recorded, engine_ceilings, engine_isolation, engine_cell}
use Rattle.engine_spec.proofs.Continues.{entries_agree, continue_endings, reached_faults, entries_mix}
use Rattle.engine_spec.proofs.Unjudged.{unjudged_words, refused_calls, unjudged_isolation}
use Rattle.engine_spec.proofs.Prefixes.{engine_runs_compose, engine_prefix_closed}
use Rattle.engine_spec.proofs.Paused.{engine_pauses}
use Rattle.engine_spec.proofs.Waits.{engine_waits}
use Rattle.engine_spec.proofs.Ordered.{engine_order, engine_ends_only_when, engine_refuses, engine_rewriter, engine_takes}

pub proved : Proved
proved =
    record {
      engine_order = engine_order;
      engine_ends_only_when = engine_ends_only_when;
      engine_refuses = engine_refuses;
      engine_rewriter = engine_rewriter;
      engine_takes = engine_takes;
      engine_rule = engine_rule;
      engine_machine = engine_machine;
      engine_paused = engine_paused;
      engine_pauses = engine_pauses;
      engine_waits = engine_waits;
      engine_next = engine_next;
      engine_reaches = engine_reaches;
      engine_ample = engine_ample;
      engine_runs_compose = engine_runs_compose;
      engine_prefix_closed = engine_prefix_closed;
      engine_endings = engine_endings;
      engine_recorded = engine_recorded;
      engine_ceilings = engine_ceilings;
      engine_isolation = engine_isolation;
      engine_cell = engine_cell;
      entries_agree = entries_agree;
      continue_endings = continue_endings;
      reached_faults = reached_faults;
      unjudged_words = unjudged_words;
      entries_mix = entries_mix;
      refused_calls = refused_calls;
      unjudged_isolation = unjudged_isolation;
    }
