-- The proof of all claims of this crate.
use Rattle.forward_spec.specs.Proved.{Proved}
use Rattle.forward_spec.proofs.Bound.{bounded}
use Rattle.forward_spec.proofs.Finish.{takes_step, finishes, finishes_in}
use Rattle.forward_spec.proofs.Once.{finishes_at_once}
use Rattle.forward_spec.proofs.Agree.{checks_agree, forward_written, forward_read, always_finish, finishes_resumed, rewritten_finishes_in}
use Rattle.forward_spec.proofs.Samples.{answers, reaches, stepwise_holds}

pub proved : Proved
proved =
    record {
      checks_agree = checks_agree;
      forward_written = forward_written;
      forward_read = forward_read;
      bounded = bounded;
      takes_step = takes_step;
      finishes = finishes;
      finishes_in = finishes_in;
      finishes_at_once = finishes_at_once;
      always_finish = always_finish;
      finishes_resumed = finishes_resumed;
      rewritten_finishes_in = rewritten_finishes_in;
      answers = answers;
      reaches = reaches;
      stepwise = stepwise_holds;
    }
