use Rattle.g_dumper.proofs.OpeningLemmas.{keeps_opening}
use Rattle.g_dumper.proofs.dump.Dump.begin.Goals as goal

pub returns-clause-keeps : goal.returns-clause-keeps
returns-clause-keeps g c =
    keeps_opening c.args.serial c.args.online.now _ _ _ c.begin_dump.result c.requires.live c.requires.pins c.requires.tied c.begin_dump.ensures.tied c.begin_dump.ensures.reads c.begin_dump.ensures.ok
    c.begin_dump.ensures.refused c.begin_dump.ensures.left c.begin_dump.ensures.stopped
