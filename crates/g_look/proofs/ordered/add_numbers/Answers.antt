use Rattle.g_look.proofs.NumberLemmas.{numbers_added}
use Rattle.g_look.proofs.ordered.add_numbers.Goals as goal

pub returns : goal.returns
returns c = numbers_added _ _ _ _ _ _ _ c.in_ok-listed.ensures c.as_slice.ensures c.in_ok-extend_from_slice.ensures.items
