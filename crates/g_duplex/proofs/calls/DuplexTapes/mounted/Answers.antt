use Rattle.std.proofs.Common.{◌∙◌, Bool, ap, sym}
use Rattle.g_tape.specs.Rack.{is_mounted, reel}
use Rattle.g_duplex.specs.Twins.{are_up}
use Rattle.g_duplex.proofs.MountLemmas.{none_standing_seen, up_seen}
use Rattle.g_duplex.proofs.calls.DuplexTapes.mounted.Goals as goal

pub returns-in-None : goal.returns-in-None
returns-in-None g c =
    sym (ap is_mounted (none_standing_seen c.args.serial c.args.self.now.standings (g.T.Tapes.rack c.args.self.now.first).reels (g.T.Tapes.rack c.args.self.now.second).reels c.args.self.now.paired
    (sym c.standing.ensures ∙ c.in-None.is)))

pub returns-in-Some : goal.returns-in-Some
returns-in-Some g c =
    c.is_up.ensures ∙ ap (λ (m : Bool). are_up c.in-Some.standing m c.mounted-in-Some.result) c.mounted.ensures
    ∙ ap (λ (n : Bool). are_up c.in-Some.standing (is_mounted (reel c.args.serial (g.T.Tapes.rack c.args.self.now.first).reels)) n) c.mounted-in-Some.ensures
    ∙ sym (up_seen c.args.serial c.args.self.now.standings (g.T.Tapes.rack c.args.self.now.first).reels (g.T.Tapes.rack c.args.self.now.second).reels c.args.self.now.paired
    c.in-Some.standing (sym c.standing.ensures ∙ c.in-Some.is))
