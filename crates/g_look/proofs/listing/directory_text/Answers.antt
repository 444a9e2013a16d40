use Rattle.std.proofs.Common.{◌∙◌}
use Rattle.g_look.proofs.NumberLemmas.{list_text_is}
use Rattle.g_look.proofs.listing.directory_text.Goals as goal

pub returns-in-Ok-list_text-clause-text : goal.returns-in-Ok-list_text-clause-text
returns-in-Ok-list_text-clause-text c =
    list_text_is _ _ _ _ c.args.dirs.head _ _ _ _ _ c.requires.records c.in-Ok.ensures.users c.in-Ok.ensures.files (c.as_slice.ensures.value ∙ c.in-Ok.ensures.online) c.in-Ok-asked_user.ensures.name
    c.in-Ok-list_text.ensures
