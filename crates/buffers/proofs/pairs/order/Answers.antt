use Rattle.buffers.proofs.pairs.order.Goals as goal

pub returns : goal.returns
returns c = simp (c.write_pair.ensures, c.limited-y.ensures)
