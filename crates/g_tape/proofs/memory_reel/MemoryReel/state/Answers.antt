use Rattle.std.proofs.Common.{ap}
use Rattle.g_tape.specs.Reel.{Reel}
use Rattle.g_tape.proofs.memory_reel.MemoryReel.state.Goals as goal

pub returns : goal.returns
returns c = ap (λ (r : Reel). let one : Reel = record r { blocks = c.self.inside.state.blocks; times_read = c.self.inside.state.times_read } in one) c.self.view_is
