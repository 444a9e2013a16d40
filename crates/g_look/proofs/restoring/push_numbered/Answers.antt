use Rattle.g_look.proofs.NumberLemmas.{owner_found}
use Rattle.g_look.proofs.restoring.push_numbered.Goals as goal

pub full_of-full-requires : goal.full_of-full-requires
full_of-full-requires c = owner_found _ _ _ _ _ c.in-Some.ensures.records c.in-Some.ensures.value c.users.ensures.value
