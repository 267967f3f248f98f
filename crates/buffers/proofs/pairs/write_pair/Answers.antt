use borrow.Author.Rules.{rules}
use Rattle.buffers.proofs.pairs.Pairing.{paired}
use Rattle.buffers.proofs.pairs.write_pair.Goals as goal

pub returns : goal.returns
returns c = search (paired, rules)
