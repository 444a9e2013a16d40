use Rattle.std.proofs.Common.{◌∙◌, ap, sym}
use Rattle.g_disc_contents.specs.Contents.{recs_in}
use Rattle.g_disc_contents.specs.Facts.{OnlineFacts}
use Rattle.g_online.proofs.RecordLemmas.{recs_here}
use Rattle.g_online.proofs.online.Online.tree.Goals as goal

pub returns-clause-files : goal.returns-clause-files
returns-clause-files g c =
    sym (recs_here (g.D.Disc.state c.self.inside.disc).held c.self.inside.tree.files c.self.inside.online) ∙ ap (λ (o : OnlineFacts). recs_in
    o.contents) c.self.view_is
