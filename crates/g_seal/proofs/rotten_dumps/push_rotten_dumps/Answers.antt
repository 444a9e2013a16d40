use Rattle.std.proofs.Common.{arith}
use Rattle.g_seal.proofs.LineLemmas.{line_next}
use Rattle.g_seal.specs.Rotten.{rotten_dump_line}
use Rattle.g_seal.proofs.rotten_dumps.push_rotten_dumps.Goals as goal

pub loop-dump-preserved : goal.loop-dump-preserved
loop-dump-preserved c = line_next (rotten_dump_line c.args.rack.now) c.args.dumps.now c.loop-dump.dump-index _ c.args.text.now _ _ (omega arith) c.loop-dump.invariant c.in_ok-push_rotten_dump.ensures
