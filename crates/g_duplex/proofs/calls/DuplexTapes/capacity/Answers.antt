use Rattle.std.proofs.Common.{sym, ◌∙◌}
use Rattle.g_duplex.proofs.MountLemmas.{room_seen}
use Rattle.g_duplex.proofs.calls.DuplexTapes.capacity.Goals as goal

pub returns : goal.returns
returns g c = c.capacity.ensures ∙ sym (room_seen _ _ _ _ c.args.self.now.paired)
