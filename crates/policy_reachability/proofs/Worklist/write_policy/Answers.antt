use Rattle.std.proofs.Common.{◌*◌, arith}
use Rattle.std.proofs.Math.Seq.{length-take-le}
use Rattle.types.specs.Names.{events}
use Rattle.policy_reachability.proofs.writing.Laws.{too_many, no_room, writes}
use Rattle.policy_reachability.proofs.Worklist.write_policy.Goals as goal

pub returns-then-n-gt-MOST_STATES : goal.returns-then-n-gt-MOST_STATES
returns-then-n-gt-MOST_STATES c = rw (← c.self.view_is, c.into.ensures) (too_many _ _ c.if-n-gt-MOST_STATES.true)

pub returns-then-table-bytes : goal.returns-then-table-bytes
returns-then-table-bytes c = rw (← c.self.view_is, c.into-then-table-bytes.ensures) (no_room _ _ c.if-n-gt-MOST_STATES.false c.if-table-bytes.true)

pub returns : goal.returns
returns c = rw (← c.self.view_is, c.copy.ensures, length-take-le (events * c.self.inside.count) c.self.inside.arrows (omega (arith, c.if-n-gt-MOST_STATES.false, c.self.told.0)))
    (writes _ _ c.if-n-gt-MOST_STATES.false c.if-table-bytes.false c.self.told.0)
