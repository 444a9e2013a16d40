use Rattle.std.proofs.Common.{◌∙◌, ap}
use Rattle.g_tape.specs.Memory.{Memory}
use Rattle.g_duplex_tests.proofs.racks.armed.Goals as goal

pub returns : goal.returns
returns c = ap (λ (m : Memory). m.rack.reels) c.arm.ensures ∙ c.in_ok-tapes.ensures
