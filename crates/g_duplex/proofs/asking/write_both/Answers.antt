-- The leading rack, which may be armed, is written.
use Rattle.std.proofs.Common.{Ok, subst}
use Rattle.g_tape.specs.Durable.{WritesDurably}
use Rattle.g_tape.specs.Rack.{Rack}
use Rattle.g_duplex.proofs.asking.write_both.Goals as goal

pub returns-in-Ok-clause-durable : goal.returns-in-Ok-clause-durable
returns-in-Ok-clause-durable g c =
    subst (λ (r : Rack). WritesDurably c.args.serial c.args.k c.args.from.now r (Ok tt) (g.T.Tapes.rack c.write.new.self)) c.arm_where.ensures c.in-Ok.ensures.durable
