use Rattle.std.proofs.Common.{◌∙◌, sym, arith}
use Rattle.g_mill.proofs.MachineLaws.{copied_more}
use Rattle.g_mill.proofs.program.copy_words.Goals as goal

pub loop-i-preserved : goal.loop-i-preserved
loop-i-preserved c =
    sym (copied_more c.args.count c.loop-i.i c.args.from c.args.to c.index-words-from.result c.loop-i.words (omega arith) (omega arith) c.index-words-from.is) ∙ c.loop-i.invariant
