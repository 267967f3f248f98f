use Rattle.std.proofs.Common.{◌≡◌, ◌*◌, ◌-◌, ◌≤◌, length, take}
use Rattle.std.proofs.lemmas.List.Edits.{sets}
use Rattle.types.specs.Names.{bundle_length}
use Rattle.spec.specs.Words.{routine}
use Rattle.spec.specs.Bundles.{bundles_from}
use Rattle.rewriter.proofs.expand.Given as goal

-- the bundles from h on are written
abbrev pub invariant-loop-h : goal.invariant-loop-h
invariant-loop-h l = (l.h ≤ l.n) × (l.commands ≡ sets l.initial.commands (bundle_length * l.h) (bundles_from l.layout l.n (routine (take l.k l.initial.commands)) l.h (l.n - l.h))) × (length l.commands ≡ length l.initial.commands)
