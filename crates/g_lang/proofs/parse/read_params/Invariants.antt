use Rattle.std.proofs.Common.{◌≡◌, ◌++◌}
use Rattle.g_lang.specs.LineReader.{params_read}
use Rattle.g_lang.specs.Texts.{bytes_left, params_left}
use Rattle.g_lang.proofs.parse.read_params.Given as goal

abbrev pub invariant-loop-left : goal.invariant-loop-left
invariant-loop-left l = l.params ++ params_left l.left ≡ params_read l.text

abbrev pub decreases-loop-left : goal.decreases-loop-left
decreases-loop-left l = bytes_left l.left
