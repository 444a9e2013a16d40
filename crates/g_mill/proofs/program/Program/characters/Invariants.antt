use Rattle.std.proofs.Common.{◌≡◌}
use Rattle.g_mill.specs.Machine.{characters}
use Rattle.g_mill.proofs.program.Program.characters.Given as goal

abbrev pub invariant-loop-i : goal.invariant-loop-i
invariant-loop-i g l = l.bytes.items ≡ characters l.self.words l.from l.i
