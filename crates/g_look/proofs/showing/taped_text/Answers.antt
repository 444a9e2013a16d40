use Rattle.std.proofs.Common.{refl}
use Rattle.g_look.proofs.CopyLemmas.{nowhere_at}
use Rattle.g_look.proofs.showing.taped_text.Goals as goal

pub returns-in-Some-clause-lost : goal.returns-in-Some-clause-lost
returns-in-Some-clause-lost g c = λ is mounted.
    nowhere_at (g.T.Tapes.rack c.args.tapes.now) c.args.file.now _ _ c.in-Some.is refl (c.copy_text.ensures.lost is mounted)
