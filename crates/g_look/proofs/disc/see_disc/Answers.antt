use Rattle.std.proofs.Common.{Err, ap}
use Rattle.g_look.proofs.DiscLemmas.{standing_none, standing_some}
use Rattle.g_look.proofs.disc.see_disc.Goals as goal

pub returns-in-Ok-see_format-clause-standing : goal.returns-in-Ok-see_format-clause-standing
returns-in-Ok-see_format-clause-standing g c =
    standing_some _ _ _ _ _ _ _ _ _ c.in-Ok.ensures.counts.held c.in-Ok-read_dirs.ensures.counts.held c.in-Ok.ensures.counts.size c.side.ensures c.in-Ok.ensures.ok c.in-Ok-read_dirs.ensures.ok
    c.in-Ok-see_format.ensures.format c.in-Ok-read_dirs.ensures.copies c.in-Ok-read_dirs.ensures.records c.in-Ok-read_dirs.ensures.rules

pub returns-in-Err-NoFilestore-clause-standing : goal.returns-in-Err-NoFilestore-clause-standing
returns-in-Err-NoFilestore-clause-standing g c =
    standing_none _ _ _ _ _ c.in-Ok.ensures.counts.held c.side-in-Err-NoFilestore.ensures c.in-Ok.ensures.ok (c.in-Err-NoFilestore.ensures.none (ap Err c.in-Err-NoFilestore.field-0-is))
