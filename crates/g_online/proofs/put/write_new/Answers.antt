use Rattle.std.proofs.Common.{subst}
use Rattle.g_copy.specs.declared.copy.DiscCopy.{DiscCopy}
use Rattle.g_online.specs.NewBytes.{WritingStopped, WroteBytes}
use Rattle.g_online.proofs.put.write_new.Goals as goal

pub returns-in-Ok-clause-ok : goal.returns-in-Ok-clause-ok
returns-in-Ok-clause-ok g c =
    subst (λ (k : DiscCopy). WroteBytes k.blocks c.args.bytes.now (g.D.Disc.state c.args.disc.now) (g.D.Disc.state c.write_copy.new.disc)) c.get.ensures (record {
      content = c.in-Ok.ensures.ok;
      dirties = record { durable = c.in-Ok.ensures.dirties.durable; syncable = c.in-Ok.ensures.dirties.syncable; here = c.in-Ok.ensures.dirties.here };
    })

pub returns-in-Err-clause-stopped : goal.returns-in-Err-clause-stopped
returns-in-Err-clause-stopped g c =
    subst (λ (k : DiscCopy). WritingStopped k.blocks (g.D.Disc.state c.args.disc.now) (g.D.Disc.state c.write_copy.new.disc)) c.get.ensures (record {
      content = c.in-Err.ensures.stopped;
      durable = c.in-Err.ensures.dirties.durable;
    })
