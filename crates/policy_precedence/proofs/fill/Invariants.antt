use Rattle.std.proofs.Common.{◌≡◌, ◌++◌, drop}
use Rattle.policy_spec.specs.maps.Maps.{build}
use Rattle.policy_spec.specs.precedence.Precedence.{byte_of}
use Rattle.policy_precedence.proofs.fill.Given as goal

-- invariant: the entries so far are written, the rest is as before
abbrev pub invariant-loop-i : goal.invariant-loop-i
invariant-loop-i l = l.table ≡ build (byte_of l.pairs.pairs.now) l.i ++ drop l.i l.initial.table
