use Rattle.std.proofs.Common.{arith}
use Rattle.installer.proofs.table.Tables.{word_more}
use Rattle.installer.proofs.table_words.Words.{chunk_word}
use Rattle.installer.proofs.table.entries_right.Goals as goal

pub loop-bytes-preserved : goal.loop-bytes-preserved
loop-bytes-preserved c =
    word_more _ _ _ c.loop-bytes.bytes-index c.loop-bytes.invariant _ _ c.requires.0 c.requires.1
    (chunk_word c.args.table.now _ _ _ c.as_chunks.ensures.front (omega arith) (omega arith) (λ j. (c.type_inv.table j).fits) _ c.from_le_bytes.ensures) c.word_right-ok.ensures
