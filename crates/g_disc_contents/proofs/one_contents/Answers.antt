use Rattle.g_disc_contents.proofs.HoldLemmas.{holds_one}
use Rattle.g_disc_contents.proofs.one_contents.Goals as goal

pub returns : goal.returns
returns c = holds_one
