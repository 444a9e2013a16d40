-- The block is on the reel, or any other in its place.
use Rattle.std.proofs.Common.{None, ap}
use Rattle.g_tape.specs.Reel.{Reel, Torn}
use Rattle.g_power.proofs.cut_reel.CutReel.fail.Goals as goal

pub returns-in-Ok-Torn-clause-left : goal.returns-in-Ok-Torn-clause-left
returns-in-Ok-Torn-clause-left c = (Torn c.args.block.now, ap (λ (r : Reel). record r { blocks = None; times_read = None }) c.end_with.ensures)
