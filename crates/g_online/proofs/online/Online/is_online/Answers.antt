use Rattle.std.proofs.Common.{◌∙◌, ap, sym, refl}
use Rattle.std.specs.Prelude.{option_copied}
use Rattle.g_disc_contents.specs.Facts.{OnlineFacts}
use Rattle.g_online.proofs.BytesLemmas.{online_is_there}
use Rattle.g_online.proofs.TieLemmas.{some_made}
use Rattle.g_online.proofs.online.Online.is_online.Goals as goal

pub returns : goal.returns
returns g c = λ f there at.
    c.is_some.ensures ∙ sym (some_made (λ r. r.now) c.get.result)
    ∙ online_is_there (g.D.Disc.state c.self.inside.disc) _ c.args.self.now c.self.view_is c.self.invariant (ap (λ (o : OnlineFacts). o.live) c.self.view_is ∙
    c.requires.live) c.args.number c.self.inside.online refl (option_copied c.get.result) c.get.ensures f there at
