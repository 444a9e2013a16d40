use Rattle.std.proofs.Common.{arith}
use Rattle.g_look.proofs.ReadLemmas.{ok_not_err}
use Rattle.g_seal.proofs.LineLemmas.{all_dumps_there, dump_more, no_dumps}
use Rattle.g_seal.proofs.dumps.push_dumps.Goals as goal

pub loop-one-init : goal.loop-one-init
loop-one-init g c = no_dumps c.args.found.now c.args.text.now (g.T.Tapes.rack c.args.tapes.now)

pub loop-one-preserved : goal.loop-one-preserved
loop-one-preserved g c =
    dump_more c.args.found.now c.loop-one.one-index _ c.args.text.now _ _ (g.T.Tapes.rack c.args.tapes.now) (g.T.Tapes.rack c.loop-one.tapes) _ (omega arith) c.one-item.is c.loop-one.invariant (ok_not_err _ _) c.in-Ok.ensures.tapes c.in-Ok.ensures.text

pub returns-clause-text : goal.returns-clause-text
returns-clause-text g c = all_dumps_there c.args.found.now c.loop-one.one-index c.args.text.now _ _ _ (omega arith) c.loop-one.invariant
