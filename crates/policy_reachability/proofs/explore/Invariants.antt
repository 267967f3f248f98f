use Rattle.std.proofs.Common.{ℕ}
use Rattle.policy_spec.specs.reachability.Claims.{Arrows}
use Rattle.policy_spec.specs.reachability.Worklists.{Follows, WorklistInvariant}
use Rattle.policy_reachability.proofs.explore.Given as goal

-- invariant: the arrows so far were followed
abbrev pub invariant-loop-k : goal.invariant-loop-k
invariant-loop-k g l = (next : ℕ → ℕ → ℕ) → Arrows next l.start → Follows (goal.F-post g l.step) next → WorklistInvariant next l.start l.found l.k
