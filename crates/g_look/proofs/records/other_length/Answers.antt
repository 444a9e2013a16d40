use Rattle.std.proofs.Common.{arith}
use Rattle.g_look.specs.Recs.{HasSameLengths}
use Rattle.g_look.proofs.LoopLemmas.{all_seen, one_further}
use Rattle.g_look.proofs.records.other_length.Goals as goal

pub loop-file-preserved : goal.loop-file-preserved
loop-file-preserved c = one_further (HasSameLengths c.args.dumped.now) _ _ _ (omega arith) c.file-item.is c.in-None.ensures.none c.loop-file.invariant

pub returns-clause-none : goal.returns-clause-none
returns-clause-none c = all_seen (HasSameLengths c.args.dumped.now) _ _ (omega arith) c.loop-file.invariant
