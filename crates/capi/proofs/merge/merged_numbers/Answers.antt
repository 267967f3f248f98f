use Rattle.std.proofs.Common.{rules}
use Rattle.capi.proofs.merge.Laws.{merged_of}
use Rattle.capi.proofs.merge.merged_numbers.Goals as goal

pub returns : goal.returns
returns c = search (merged_of, rules)
