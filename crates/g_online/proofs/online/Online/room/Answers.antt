use Rattle.std.proofs.Common.{◌∙◌, ap, subst}
use Rattle.g_disc_contents.specs.Facts.{OnlineFacts, room_of}
use Rattle.g_online.specs.Room.{FitsDisc}
use Rattle.g_online.proofs.RoomLemmas.{room_is, room_fits}
use Rattle.g_online.proofs.online.Online.room.Goals as goal

pub returns : goal.returns
returns g c =
    let live = ap (λ (o : OnlineFacts). o.live) c.self.view_is ∙ c.requires.live in
    record {
      room = c.free.ensures ∙ room_is (g.D.Disc.state c.self.inside.disc) _ c.self.invariant live ∙ ap room_of c.self.view_is;
      fits = subst FitsDisc c.self.view_is (room_fits (g.D.Disc.state c.self.inside.disc) _ c.self.invariant live);
    }
