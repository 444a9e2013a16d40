use Rattle.g_restore.proofs.ReelLemmas.{all_of_reels}
use Rattle.g_restore.proofs.dumps_of_reels.Goals as goal

pub returns : goal.returns
returns c = record { all = all_of_reels }
