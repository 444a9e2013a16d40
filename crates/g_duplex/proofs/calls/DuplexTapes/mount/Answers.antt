use Rattle.std.proofs.Common.{◌∙◌, subst, true}
use Rattle.g_tape.specs.Rack.{Mounting, refuses_mount}
use Rattle.g_duplex.specs.Calls.{Answer}
use Rattle.g_duplex.specs.Meaning.{pair_of}
use Rattle.g_duplex.proofs.MountLemmas.{lost_mounted, pair_mounts, pair_refuses_mount}
use Rattle.g_duplex.proofs.calls.DuplexTapes.mount.Goals as goal

pub invariant_of-self : goal.invariant_of-self
invariant_of-self g c =
    let one = subst (λ (x : Answer). Mounting refuses_mount true c.args.serial (g.T.Tapes.rack c.args.self.now.first) x (g.T.Tapes.rack c.mount.new.self)) c.in-Ok.is c.mount.ensures in
    record {
      paired = (pair_mounts c.args.serial (pair_of c.args.self.now) (g.T.Tapes.rack c.mount.new.self) (g.T.Tapes.rack c.mount-in-Ok.new.self) c.in-Ok.field-0 c.mount-in-Ok.result c.args.self.now.paired one
          c.mount-in-Ok.ensures).1;
      told = c.args.self.now.told ∙ lost_mounted refuses_mount true c.args.serial (g.T.Tapes.rack c.args.self.now.first) (g.T.Tapes.rack c.mount.new.self) c.mount.result c.args.self.now.standings c.mount.ensures;
      fused = c.args.self.now.fused;
    }

pub returns-in-Ok : goal.returns-in-Ok
returns-in-Ok g c =
    let one = subst (λ (x : Answer). Mounting refuses_mount true c.args.serial (g.T.Tapes.rack c.args.self.now.first) x (g.T.Tapes.rack c.mount.new.self)) c.in-Ok.is c.mount.ensures in
    (pair_mounts c.args.serial (pair_of c.args.self.now) (g.T.Tapes.rack c.mount.new.self) (g.T.Tapes.rack c.mount-in-Ok.new.self) c.in-Ok.field-0 c.mount-in-Ok.result c.args.self.now.paired one
    c.mount-in-Ok.ensures).0

pub returns-in-Err : goal.returns-in-Err
returns-in-Err g c =
    let one = subst (λ (x : Answer). Mounting refuses_mount true c.args.serial (g.T.Tapes.rack c.args.self.now.first) x (g.T.Tapes.rack c.mount.new.self)) c.in-Err.is c.mount.ensures in
    (pair_refuses_mount c.args.serial (pair_of c.args.self.now) (g.T.Tapes.rack c.mount.new.self) c.in-Err.fault c.args.self.now.paired one).0
