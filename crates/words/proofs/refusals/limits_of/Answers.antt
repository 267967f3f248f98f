use mathlib.Core.Path.{◌∙◌}
use Prim.Native.Nat.{zero-le, ◌+◌, ◌≤◌}
use native.Mathlib.Omega.{arith}
use Rattle.types.specs.Names.{top_kind}
use Rattle.spec.proofs.Tables.{past}
use Rattle.words.proofs.refusals.limits_of.Goals as goal

-- the limits of each kind, from HALT to EVENT
pub returns-in-0 : goal.returns-in-0
returns-in-0 c = c.limits.ensures ∙ rw c.in-0.is

pub returns-in-1 : goal.returns-in-1
returns-in-1 c = c.limits-in-1.ensures ∙ rw c.in-1.is

pub returns-in-2 : goal.returns-in-2
returns-in-2 c = c.limits-in-2.ensures ∙ rw c.in-2.is

pub returns-in-3 : goal.returns-in-3
returns-in-3 c = c.limits-in-3.ensures ∙ rw c.in-3.is

pub returns-in-4 : goal.returns-in-4
returns-in-4 c = c.limits-in-4.ensures ∙ rw c.in-4.is

pub returns-in-5 : goal.returns-in-5
returns-in-5 c = c.limits-in-5.ensures ∙ rw c.in-5.is

pub returns-in-6 : goal.returns-in-6
returns-in-6 c = c.limits-in-6.ensures ∙ rw c.in-6.is

pub returns-in-7 : goal.returns-in-7
returns-in-7 c = c.limits-in-7.ensures ∙ rw c.in-7.is

pub returns-in-8 : goal.returns-in-8
returns-in-8 c = c.limits-in-8.ensures ∙ rw c.in-8.is

pub returns-in-9 : goal.returns-in-9
returns-in-9 c = c.limits-in-9.ensures ∙ rw c.in-9.is

pub returns-in-10 : goal.returns-in-10
returns-in-10 c = c.limits-in-10.ensures ∙ rw c.in-10.is

pub returns-in-11 : goal.returns-in-11
returns-in-11 c = c.limits-in-11.ensures ∙ rw c.in-11.is

pub returns-in-12 : goal.returns-in-12
returns-in-12 c = c.limits-in-12.ensures ∙ rw c.in-12.is

-- no kind is above the top one
pub returns-in_default : goal.returns-in_default
returns-in_default c = let start = c in
    let above : top_kind + 1 ≤ start.args.k = past Unit start.args.k 0 (top_kind + 1) zero-le c.in_default.in_default-own.rest in
    absurd (omega (arith, start.requires))
