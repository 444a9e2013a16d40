use Rattle.std.proofs.Common.{length}
use Rattle.g_lang.proofs.parse.+read_command.Given as goal

abbrev pub decreases-read_command : goal.decreases-read_command
decreases-read_command l = length l.text.now
