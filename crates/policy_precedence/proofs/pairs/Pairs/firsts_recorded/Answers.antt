use Rattle.std.proofs.Common.{sym, rules}
use Rattle.policy_spec.proofs.precedence.Laws.{firsts_none, firsts_more, first_below, bit_below}
use Rattle.policy_precedence.proofs.pairs.Pairs.firsts_recorded.Goals as goal

pub loop-i-init : goal.loop-i-init
loop-i-init c = sym (firsts_none _ _ _)

pub bit_index-requires : goal.bit_index-requires
bit_index-requires c = search (first_below, rules)

pub has_bit-requires : goal.has_bit-requires
has_bit-requires c = search (bit_below, rules)

pub loop-i-preserved : goal.loop-i-preserved
loop-i-preserved c =
    firsts_more c.args.self.now.pairs.now c.args.self.now.names c.args.self.now.valid c.args.s c.args.e c.loop-i.i _ _ _ _ _
    c.loop-i-test.true c.loop-i.invariant c.from-second.ensures c.from-first.ensures c.bit_index.ensures.0 c.has_bit.ensures
