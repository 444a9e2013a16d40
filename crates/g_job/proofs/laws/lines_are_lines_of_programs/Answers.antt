use Rattle.g_job.proofs.LineLemmas.{same_lines}
use Rattle.g_job.proofs.laws.lines_are_lines_of_programs.Goals as goal

pub returns : goal.returns
returns c = same_lines
