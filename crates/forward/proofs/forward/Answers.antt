use Rattle.std.proofs.Common.{arith}
use Rattle.forward.proofs.Scan.{bad_word}
use Rattle.forward.proofs.forward.Goals as goal

pub returns-in_err-first_refusal : goal.returns-in_err-first_refusal
returns-in_err-first_refusal c = bad_word _ (omega arith) _ c.in_err-first_refusal.ensures _ c.from_residual.ensures.1
