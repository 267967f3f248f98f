use Rattle.std.proofs.Common.{◌≡◌, ◌*◌, arith}
use Rattle.types.specs.Names.{events}
use Rattle.policy_spec.specs.precedence.Precedence.{most_named}
use Rattle.policy_spec.proofs.precedence.Laws.{turns_none, turns_more, turned}
use Rattle.policy_precedence.proofs.pairs.Pairs.fixpoint.Goals as goal

pub loop-i-init : goal.loop-i-init
loop-i-init c = turns_none _

pub arrow-requires : goal.arrow-requires
arrow-requires c = (turned _ _ c.args.self.now.valid _ _ c.loop-i.invariant, omega arith)

pub loop-i-preserved : goal.loop-i-preserved
loop-i-preserved c = rw c.unwrap_or-s.ensures (turns_more _ _ _ _ c.loop-i.invariant c.arrow.ensures.arrow)

pub returns : goal.returns
returns c =
    let all : c.loop-i.i ≡ most_named * events = omega arith in
    (rw all at c.loop-i.invariant, turned _ _ c.args.self.now.valid _ _ c.loop-i.invariant)
