-- The outcome of a run on a lent record.
use Rattle.types.specs.declared.Machine.{Machine}
use Rattle.types.specs.declared.RunAnswer.{RunAnswer}
use Rattle.types.specs.declared.Outcome.{Outcome}

-- the record and the answer of a run, as one outcome
abbrev pub as_outcome : Machine → RunAnswer → Outcome
as_outcome m a = record { machine = m; answer = a }
