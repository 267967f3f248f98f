use Rattle.capi.proofs.precedence.Places.{narrow_made}
use Rattle.capi.proofs.precedence.hemdroas_precedence.Goals as goal

pub made_of-requires : goal.made_of-requires
made_of-requires c = rw c.from.ensures (narrow_made _ _ _ c.in-Ok.ensures.made)

pub made_of-requires-in-Err : goal.made_of-requires-in-Err
made_of-requires-in-Err c = rw c.from-in-Err.ensures (narrow_made _ _ _ c.in-Err.ensures.made)
