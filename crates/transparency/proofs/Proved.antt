-- The proof of all claims of this crate.
use Rattle.transparency.specs.Proved.{Proved}
use Rattle.transparency.proofs.Transparent.{transparent, transparent_paused, transparent_next, transparent_step, transparent_resumed}
use Rattle.transparency.proofs.Transparent.{engine_transparent, engine_transparent_next, engine_transparent_step}
use Rattle.transparency.proofs.Samples.{sample_holds}

pub proved : Proved
proved =
    record {
      transparent = transparent;
      engine_transparent = engine_transparent;
      transparent_paused = transparent_paused;
      transparent_next = transparent_next;
      transparent_step = transparent_step;
      transparent_resumed = transparent_resumed;
      engine_transparent_next = engine_transparent_next;
      engine_transparent_step = engine_transparent_step;
      sample_holds = sample_holds;
    }
