use Rattle.std.proofs.Common.{◌∙◌, subst}
use Rattle.g_disc_contents.specs.Facts.{IsTied}
use Rattle.g_online.proofs.PinLemmas.{pinned_facts, pinned_kept}
use Rattle.g_online.proofs.TieLemmas.{tied}
use Rattle.g_online.proofs.online.Online.pin.Goals as goal

pub invariant_of-self : goal.invariant_of-self
invariant_of-self g c =
    pinned_kept (g.D.Disc.state c.self.inside.disc) _ c.args.self.now c.self.view_is c.self.invariant c.requires.live c.requires.none c.args.serial
    c.args.first c.in-Ok-new.list
    (c.in-Ok-new.ensures ∙ c.in-Ok.ensures)

pub returns-clause-ok : goal.returns-clause-ok
returns-clause-ok g c =
    pinned_facts (g.D.Disc.state c.self.inside.disc) _ c.args.self.now c.self.view_is c.self.invariant c.requires.live c.requires.none c.args.serial
    c.args.first c.in-Ok-new.list
    (c.in-Ok-new.ensures ∙ c.in-Ok.ensures)

pub returns-clause-tied : goal.returns-clause-tied
returns-clause-tied g c =
    tied (g.D.Disc.state c.self.inside.disc) _
    (pinned_kept (g.D.Disc.state c.self.inside.disc) _ c.args.self.now c.self.view_is c.self.invariant c.requires.live c.requires.none c.args.serial
    c.args.first c.in-Ok-new.list
    (c.in-Ok-new.ensures ∙ c.in-Ok.ensures))

pub returns-in-Err-clause-tied : goal.returns-in-Err-clause-tied
returns-in-Err-clause-tied g c = subst IsTied c.self.view_is (tied (g.D.Disc.state c.self.inside.disc) _ c.self.invariant)

pub returns-in-Err-new-clause-tied : goal.returns-in-Err-new-clause-tied
returns-in-Err-new-clause-tied g c = subst IsTied c.self.view_is (tied (g.D.Disc.state c.self.inside.disc) _ c.self.invariant)
