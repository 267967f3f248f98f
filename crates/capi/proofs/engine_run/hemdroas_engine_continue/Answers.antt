use mathlib.Core.List.{[]}
use Rattle.capi.proofs.engine_run.Laws.{narrow_on, left_on}
use Rattle.capi.proofs.engine_run.hemdroas_engine_continue.Goals as goal

pub store_run-requires : goal.store_run-requires
store_run-requires c = narrow_on [] _ _ _ _ _ _ _ _ _ _ c.resume-went.result c.engine_of-m.ensures c.resume-went.ensures c.ranges.budget.fits

pub returns : goal.returns
returns c = left_on _ _ _ _ _ _ _ _ _ _ _ _ c.engine_of-m.ensures c.resume-went.ensures c.layout_of-lay.ensures _ _ c.store_run.ensures.engine c.store_run.ensures.answer
