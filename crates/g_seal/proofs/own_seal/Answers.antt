use Rattle.g_seal.proofs.OwnTextLemmas.{own_is_quiet}
use Rattle.g_seal.proofs.own_seal.Goals as goal

pub returns : goal.returns
returns c = record { quiet = own_is_quiet }
