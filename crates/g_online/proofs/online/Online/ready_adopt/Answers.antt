use Rattle.std.proofs.Common.{ap}
use Rattle.g_disc_contents.specs.Facts.{OnlineFacts}
use Rattle.g_online.proofs.AdoptedLemmas.{ready_rules, readied_is}
use Rattle.g_online.proofs.online.Online.ready_adopt.Goals as goal

pub noted-requires : goal.noted-requires
noted-requires g c =
    ready_rules c.args.copies.now (g.D.Disc.state c.self.inside.disc).held c.self.inside.head c.self.inside.tree.users c.self.inside.tree.files
    c.self.inside.online
    c.args.self.now.contents (ap (λ (o : OnlineFacts). o.contents) c.self.view_is) c.requires.rules

pub returns : goal.returns
returns g c =
    readied_is c.args.copies.now (g.D.Disc.state c.self.inside.disc).held c.self.inside.head c.self.inside.tree.users c.self.inside.tree.files
    c.self.inside.online
    c.args.self.now.contents (ap (λ (o : OnlineFacts). o.contents) c.self.view_is) c.in-Ok.tree.users c.in-Ok.tree.files c.in-Ok.ensures.users
    c.in-Ok.ensures.files
