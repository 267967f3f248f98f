use Rattle.std.proofs.Common.{rules}
use Rattle.rewriter.proofs.Expanding.{expand_packable}
use Rattle.rewriter.proofs.expand.Goals as goal

pub bundle-made-requires : goal.bundle-made-requires
bundle-made-requires c = search (expand_packable, rules)
