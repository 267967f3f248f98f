use mathlib.Core.List.{[]}
use Rattle.capi.proofs.engine_run.Laws.{narrow, left}
use Rattle.capi.proofs.engine_run.hemdroas_engine_run.Goals as goal

pub store_run-requires : goal.store_run-requires
store_run-requires c = narrow [] _ _ _ _ _ _ _ _ _ _ c.run-out.result c.engine_of-m.ensures c.run-out.ensures c.ranges.budget.fits

pub returns : goal.returns
returns c = left _ _ _ _ _ _ _ _ _ _ _ _ c.engine_of-m.ensures c.run-out.ensures c.layout_of-lay.ensures _ _ c.store_run.ensures.engine c.store_run.ensures.answer
