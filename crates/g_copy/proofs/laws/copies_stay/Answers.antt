use Rattle.g_copy.proofs.AreaLemmas.{same_bytes_at}
use Rattle.g_copy.proofs.laws.copies_stay.Goals as goal

pub returns : goal.returns
returns c = same_bytes_at
