use Rattle.std.proofs.Common.{◌≡◌, ◌+◌, ◌-◌}
use Rattle.g_mill.specs.Machine.{copied}
use Rattle.g_mill.proofs.program.copy_words.Given as goal

abbrev pub invariant-loop-i : goal.invariant-loop-i
invariant-loop-i l = copied (l.count - l.i) l.words (l.from + l.i) (l.to + l.i) ≡ copied l.count l.initial.words l.from l.to
