use Rattle.g_files.proofs.FileReelLemmas.{is_reel}
use Rattle.g_files.proofs.file_reel.FileReel.state.Goals as goal

pub returns-clause-reel : goal.returns-clause-reel
returns-clause-reel g c = is_reel c.args.self.now
