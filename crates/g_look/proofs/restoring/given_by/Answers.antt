use Rattle.g_plain.specs.declared.faults.StoreFault.TheVariants.{LostCopy, LostDirectory}
use Rattle.g_look.proofs.GivenLemmas.{given_ok, refused_ok}
use Rattle.g_look.proofs.restoring.given_by.Goals as goal

pub returns-in-Ok-missing-clause-text : goal.returns-in-Ok-missing-clause-text
returns-in-Ok-missing-clause-text c = given_ok _ _ c.in-Ok.ensures.ok _ c.in-Ok-missing.ensures _ c.lines_of.ensures.text c.lines_of.ensures.given c.lines_of.ensures.missing

pub returns-in-Err-LostDirectory-clause-text : goal.returns-in-Err-LostDirectory-clause-text
returns-in-Err-LostDirectory-clause-text c =
    refused_ok c.args.found.now (LostDirectory c.in-Err-LostDirectory.user) (λ dumps are apart. rw c.in-Err-LostDirectory.field-0-is at (c.in-Err-LostDirectory.ensures.lost dumps are apart)) _ c.refused-in-Err-LostDirectory.ensures.text c.refused-in-Err-LostDirectory.ensures.given

pub returns-in-Err-LostCopy-clause-text : goal.returns-in-Err-LostCopy-clause-text
returns-in-Err-LostCopy-clause-text c =
    refused_ok c.args.found.now (LostCopy c.in-Err-LostCopy.full c.in-Err-LostCopy.serial) (λ dumps are apart. rw c.in-Err-LostCopy.field-0-is at (c.in-Err-LostCopy.ensures.lost dumps are apart)) _ c.refused-in-Err-LostCopy.ensures.text c.refused-in-Err-LostCopy.ensures.given
