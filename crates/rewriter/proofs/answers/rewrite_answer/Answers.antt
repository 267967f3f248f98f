use Rattle.std.proofs.Common.{arith}
use Rattle.rewriter.proofs.answers.RefusalLaws.{bad_word}
use Rattle.rewriter.proofs.answers.rewrite_answer.Goals as goal

pub returns-in_err-first_refusal : goal.returns-in_err-first_refusal
returns-in_err-first_refusal c =
    bad_word _ _ _ _ c.layout_right.ensures c.if-not-layout_right.false (omega arith) _ c.in_err-first_refusal.ensures _ c.from_residual.ensures.1
