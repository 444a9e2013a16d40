use Rattle.g_laws_complete.proofs.CompleteLemmas.{all_complete}
use Rattle.g_laws_complete.proofs.calls_are_complete.Goals as goal

pub returns : goal.returns
returns c = all_complete c.refusals_are_plain.ensures.complete
