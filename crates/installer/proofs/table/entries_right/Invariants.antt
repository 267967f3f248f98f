use Rattle.std.proofs.Common.{◌≡◌, ◌*◌, take}
use Rattle.spec.specs.Policies.{entries_right}
use Rattle.installer.specs.table_words.Words.{word_bytes}
use Rattle.installer.proofs.table.entries_right.Given as goal

-- `ok` says whether the words so far are right
abbrev pub invariant-loop-bytes : goal.invariant-loop-bytes
invariant-loop-bytes l = l.ok ≡ entries_right l.states (take (word_bytes * l.bytes-index) l.table)
