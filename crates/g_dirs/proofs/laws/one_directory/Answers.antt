use Rattle.g_dirs.proofs.Parts.{stands_for_one}
use Rattle.g_dirs.proofs.laws.one_directory.Goals as goal

-- src/laws.rt:13:1
pub returns : goal.returns
returns c = stands_for_one
