use Rattle.capi.proofs.determinise.Laws.{narrow, determinised}
use Rattle.capi.proofs.determinise.hemdroas_determinise.Goals as goal

pub made_of-requires : goal.made_of-requires
made_of-requires c = rw c.from.ensures (narrow _ _ _ _ _ c.in-Ok.ensures.made)

pub made_of-requires-in-Err : goal.made_of-requires-in-Err
made_of-requires-in-Err c = rw c.from-in-Err.ensures (narrow _ _ _ _ _ c.in-Err.ensures.made)

pub returns-in-Ok : goal.returns-in-Ok
returns-in-Ok c =
    let both = determinised _ _ _ _ _ c.starts_of.ensures _ _ _ c.in-Ok.ensures.made c.in-Ok.ensures.table (rw c.from.ensures at c.made_of.ensures) in
    record { made = both.0; table = both.1 }

pub returns-in-Err : goal.returns-in-Err
returns-in-Err c =
    let both = determinised _ _ _ _ _ c.starts_of.ensures _ _ _ c.in-Err.ensures.made c.in-Err.ensures.table (rw c.from-in-Err.ensures at c.made_of-in-Err.ensures) in
    record { made = both.0; table = both.1 }
