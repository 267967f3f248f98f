use Rattle.std.proofs.Common.{arith}
use Rattle.policy_spec.proofs.tables.Arrows.{some_is}
use Rattle.policy_spec.proofs.precedence.Laws.{states_most, arrow_stays, arrow_goes, arrow_none, arrow_fits}
use Rattle.policy_precedence.proofs.pairs.Pairs.arrow.Goals as goal

pub returns-then-not-has_bit-clause-arrow : goal.returns-then-not-has_bit-clause-arrow
returns-then-not-has_bit-clause-arrow c =
    arrow_stays _ _ c.args.self.now.valid c.args.s c.args.e c.requires.0 c.requires.1 _ c.has_bit.ensures c.if-not-has_bit.true

pub returns-then-not-has_bit-clause-byte : goal.returns-then-not-has_bit-clause-byte
returns-then-not-has_bit-clause-byte c = omega (arith, c.requires.0, states_most _ _ c.args.self.now.valid)

pub returns-then-firsts_recorded-clause-arrow : goal.returns-then-firsts_recorded-clause-arrow
returns-then-firsts_recorded-clause-arrow c =
    arrow_goes _ _ c.args.self.now.valid c.args.s c.args.e c.requires.0 c.requires.1 _ c.has_bit.ensures c.if-not-has_bit.false
    _ c.firsts_recorded.ensures c.if-firsts_recorded.true _ c.bit_index.ensures.0

pub returns-then-firsts_recorded-clause-byte : goal.returns-then-firsts_recorded-clause-byte
returns-then-firsts_recorded-clause-byte c =
    rw (some_is _ _ (arrow_goes _ _ c.args.self.now.valid c.args.s c.args.e c.requires.0 c.requires.1 _ c.has_bit.ensures c.if-not-has_bit.false
    _ c.firsts_recorded.ensures c.if-firsts_recorded.true _ c.bit_index.ensures.0)).0
    (arrow_fits _ _ c.args.self.now.valid c.args.s c.args.e c.requires.0 c.requires.1)

pub returns-else-firsts_recorded-clause-arrow : goal.returns-else-firsts_recorded-clause-arrow
returns-else-firsts_recorded-clause-arrow c =
    arrow_none _ _ c.args.self.now.valid c.args.s c.args.e c.requires.0 c.requires.1 _ c.has_bit.ensures c.if-not-has_bit.false
    _ c.firsts_recorded.ensures c.if-firsts_recorded.false
