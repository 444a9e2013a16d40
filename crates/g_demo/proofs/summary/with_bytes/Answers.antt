use Rattle.g_demo.proofs.SummaryLemmas.{byte_folded}
use Rattle.g_demo.proofs.summary.with_bytes.Goals as goal

pub loop-byte-preserved : goal.loop-byte-preserved
loop-byte-preserved c = byte_folded c.args.so_far c.loop-byte.number c.folded-number.result c.args.piece.now c.loop-byte.byte-index c.loop-byte-test.true c.folded-number.ensures c.loop-byte.invariant
