use Rattle.std.proofs.Common.{Err, ap, ◌∙◌}
use Rattle.g_look.proofs.disc.see_directory.Goals as goal

pub returns-in-Err-NoFilestore-clause-none : goal.returns-in-Err-NoFilestore-clause-none
returns-in-Err-NoFilestore-clause-none g c = λ is blocks told.
    c.in-Err-NoFilestore.ensures.none (ap Err c.in-Err-NoFilestore.field-0-is) blocks (c.in-Ok.ensures.counts.held ∙ told)
