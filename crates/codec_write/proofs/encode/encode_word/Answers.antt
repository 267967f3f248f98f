use native.Mathlib.Omega.{arith}
use borrow.Author.Rules.{rules}
use lib.ListN.{length-set}
use Rattle.codec_write.proofs.encode.Fields.{word_length}
use Rattle.codec_write.proofs.encode.encode_word.Goals as goal

pub loop-x-init : goal.loop-x-init
loop-x-init c = record { stored = search rules; room = simp length-set (omega (arith, word_length _ _ c.fields-f.ensures)) }
