use Rattle.std.proofs.Common.{arith}
use Rattle.g_look.proofs.ReadLemmas.{ok_not_err, rack_reads_then, same_fault}
use Rattle.g_seal.proofs.RottenLemmas.{all_rotten, none_rotten, rotten_more}
use Rattle.g_seal.proofs.rotten_dumps.rotten_dumps.Goals as goal

pub loop-dump-init : goal.loop-dump-init
loop-dump-init g c = none_rotten c.args.dumps.now _ (g.T.Tapes.rack c.args.tapes.now) c.new-rotten.ensures.items

pub loop-dump-preserved : goal.loop-dump-preserved
loop-dump-preserved g c =
    rotten_more c.args.dumps.now c.loop-dump.dump-index _ _ _ (g.T.Tapes.rack c.args.tapes.now) (g.T.Tapes.rack c.loop-dump.tapes) _ (omega arith) c.loop-dump.invariant (ok_not_err _ _) c.in-Ok.ensures.tapes c.in-Ok.ensures.rotten

pub returns-clause-rotten : goal.returns-clause-rotten
returns-clause-rotten g c = all_rotten c.args.dumps.now c.loop-dump.dump-index _ _ _ (omega arith) c.loop-dump.invariant

pub returns-in-Err-clause-tapes : goal.returns-in-Err-clause-tapes
returns-in-Err-clause-tapes g c =
    rack_reads_then _ _ _ _ _ _ (λ wrong. wrong) (same_fault _ _) (same_fault _ _) c.loop-dump.invariant.reads c.in-Err.ensures.tapes
