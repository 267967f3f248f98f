use native.Mathlib.Omega.{arith}
use Rattle.words.proofs.routine.RefusalLaws.{goes_on, stops_at, ends}
use Rattle.words.proofs.routine.first_refusal.Goals as goal

pub returns-in-Err : goal.returns-in-Err
returns-in-Err c = stops_at _ _ c.loop-i.invariant c.loop-i-test.true _ c.in-Err.ensures _ c.at.ensures

pub loop-i-preserved : goal.loop-i-preserved
loop-i-preserved c = goes_on _ _ c.loop-i.invariant c.loop-i-test.true c.in_default.ensures

pub returns : goal.returns
returns c = ends _ _ c.loop-i.invariant (omega arith)
