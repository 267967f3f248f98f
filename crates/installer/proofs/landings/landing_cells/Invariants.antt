use Rattle.std.proofs.Common.{◌≡◌, take}
use Rattle.spec.specs.Landings.{landings_of}
use Rattle.installer.proofs.landings.landing_cells.Given as goal

-- the cells of the entries so far
abbrev pub invariant-loop-x : goal.invariant-loop-x
invariant-loop-x l = l.cells ≡ landings_of (take l.x-index l.landings)
