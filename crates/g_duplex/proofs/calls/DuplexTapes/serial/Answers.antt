use Rattle.std.proofs.Common.{ap, ◌∙◌, arith, slice_get, List, ℕ}
use Rattle.g_duplex.specs.SeenReels.{labels_seen, long_seen}
use Rattle.g_duplex.proofs.calls.DuplexTapes.serial.Goals as goal

pub serial-requires : goal.serial-requires
serial-requires g c = omega (arith, c.requires, long_seen _ _ _ c.args.self.now.paired)

pub returns : goal.returns
returns g c = ap (λ (ns : List ℕ). slice_get ns c.args.i) (labels_seen _ _ _ c.args.self.now.paired) ∙ c.serial.ensures
