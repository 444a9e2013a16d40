use Rattle.std.proofs.Common.{Err, ap}
use Rattle.g_look.specs.Standing.{directory_in}
use Rattle.g_look.proofs.DiscLemmas.{records_sound}
use Rattle.g_look.proofs.NumberLemmas.{listed_ok}
use Rattle.g_look.proofs.ShowLemmas.{same_fault}
use Rattle.g_look.proofs.listing.list.Goals as goal

pub directory_text-requires : goal.directory_text-requires
directory_text-requires g c = record { records = records_sound _ _ c.in-Ok.ensures.sound }

pub returns-in-Ok-clause-text : goal.returns-in-Ok-clause-text
returns-in-Ok-clause-text g c = λ blocks told.
    listed_ok blocks _ (directory_in c.in-Ok.dirs) (c.in-Ok.ensures.stands blocks told) _ c.directory_text.ensures.text c.directory_text.ensures.user

pub returns-in-Err-clause-no_filestore : goal.returns-in-Err-clause-no_filestore
returns-in-Err-clause-no_filestore g c = λ is. c.in-Err.ensures.none (ap Err (same_fault _ _ is))
