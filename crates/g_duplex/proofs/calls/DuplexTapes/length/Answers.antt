use Rattle.std.proofs.Common.{◌∙◌, ap, sym}
use Rattle.g_tape.specs.Reel.{Reel}
use Rattle.g_tape.specs.Rack.{told_of}
use Rattle.g_duplex.proofs.MountLemmas.{leads_first, leads_second, long_first, long_second, none_standing_seen}
use Rattle.g_duplex.proofs.calls.DuplexTapes.length.Goals as goal

pub returns-in-None : goal.returns-in-None
returns-in-None g c =
    sym (ap (told_of (λ (r : Reel). r.len)) (none_standing_seen c.args.serial c.args.self.now.standings (g.T.Tapes.rack c.args.self.now.first).reels
    (g.T.Tapes.rack c.args.self.now.second).reels c.args.self.now.paired (sym c.standing.ensures ∙ c.in-None.is)))

pub returns-in-First : goal.returns-in-First
returns-in-First g c =
    c.length.ensures
    ∙ sym (long_first c.args.serial c.args.self.now.standings (g.T.Tapes.rack c.args.self.now.first).reels (g.T.Tapes.rack c.args.self.now.second).reels c.args.self.now.paired
    c.in-Some.standing (sym c.standing.ensures ∙ c.in-Some.is) (leads_first c.in-Some.standing (sym c.leader.ensures ∙ c.in-First.is)))

pub returns-in-Second : goal.returns-in-Second
returns-in-Second g c =
    c.length-in-Second.ensures
    ∙ sym (long_second c.args.serial c.args.self.now.standings (g.T.Tapes.rack c.args.self.now.first).reels (g.T.Tapes.rack c.args.self.now.second).reels c.args.self.now.paired
    c.in-Some.standing (sym c.standing.ensures ∙ c.in-Some.is) (leads_second c.in-Some.standing (sym c.leader.ensures ∙ c.in-Second.is)))
