use Rattle.std.proofs.Common.{sym, ◌∙◌}
use Rattle.g_duplex.specs.SeenReels.{long_seen}
use Rattle.g_duplex.proofs.calls.DuplexTapes.reels.Goals as goal

pub returns : goal.returns
returns g c = c.reels.ensures ∙ sym (long_seen _ _ _ c.args.self.now.paired)
