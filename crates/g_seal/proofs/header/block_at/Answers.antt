use Rattle.g_seal.proofs.RottenLemmas.{block_is}
use Rattle.g_seal.proofs.header.block_at.Goals as goal

pub returns-in-Ok-clause-block : goal.returns-in-Ok-clause-block
returns-in-Ok-clause-block g c = λ told. block_is (g.T.Tapes.rack c.args.tapes.now) _ c.args.serial c.args.k _ c.in-Ok.ensures.reads c.in-Ok.ensures.found told
