use Rattle.std.proofs.Common.{length, ◌-◌}
use Rattle.g_lang.specs.LineReader.{params_read}
use Rattle.g_verbs.proofs.values.+modes_from.Given as goal

abbrev pub decreases-modes_from : goal.decreases-modes_from
decreases-modes_from l = length (params_read l.params.now) - l.place
