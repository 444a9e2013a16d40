use Rattle.g_look.proofs.OutlookLemmas.{known_is_one}
use Rattle.g_look.proofs.known_is_one.Goals as goal

pub returns : goal.returns
returns c = record { one = known_is_one }
