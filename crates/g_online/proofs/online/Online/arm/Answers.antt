use Rattle.std.proofs.Common.{ap}
use Rattle.g_disc.specs.Disc.{DiscState}
use Rattle.g_online.proofs.TieLemmas.{kept_still, tied}
use Rattle.g_online.proofs.online.Online.arm.Goals as goal

pub returns-clause-tied : goal.returns-clause-tied
returns-clause-tied g c =
    tied (g.D.Disc.state c.arm.new.self) _
    (kept_still (g.D.Disc.state c.self.inside.disc) (g.D.Disc.state c.arm.new.self) _ (ap (λ (s : DiscState). s.held) c.arm.ensures) (ap (λ (s : DiscState).
    s.size) c.arm.ensures) (ap (λ (s : DiscState). s.dropped) c.arm.ensures) c.self.invariant)
