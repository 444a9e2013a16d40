use Rattle.std.proofs.Common.{◌∙◌, false, sym}
use Rattle.g_tape.specs.Rack.{refuses_unmount}
use Rattle.g_duplex.specs.Meaning.{pair_of}
use Rattle.g_duplex.proofs.MountLemmas.{lost_mounted, pair_no_tape, pair_not_up, pair_unmounts}
use Rattle.g_duplex.proofs.calls.DuplexTapes.unmount.Goals as goal

pub returns-in-Err : goal.returns-in-Err
returns-in-Err g c = pair_no_tape c.args.serial (pair_of c.args.self.now) c.in-Err.fault c.args.self.now.paired (sym c.capacity.ensures ∙ c.in-Err.is)

pub returns-then-not-mounted : goal.returns-then-not-mounted
returns-then-not-mounted g c =
    pair_not_up c.args.serial c.in_default.field-0 (pair_of c.args.self.now) c.args.self.now.paired (sym c.capacity.ensures ∙ c.in_default.is) (sym c.mounted.ensures ∙ c.if-not-mounted.true)

pub invariant_of-self : goal.invariant_of-self
invariant_of-self g c = record {
  paired = (pair_unmounts c.args.serial c.in_default.field-0 (pair_of c.args.self.now) (g.T.Tapes.rack c.unmount-first.new.self) (g.T.Tapes.rack c.unmount-second.new.self) c.unmount-first.result
      c.unmount-second.result c.args.self.now.paired (sym c.capacity.ensures ∙ c.in_default.is) (sym c.mounted.ensures ∙ c.if-not-mounted.false) c.unmount-first.ensures c.unmount-second.ensures).1;
  told = c.args.self.now.told
      ∙ lost_mounted refuses_unmount false c.args.serial (g.T.Tapes.rack c.args.self.now.first) (g.T.Tapes.rack c.unmount-first.new.self) c.unmount-first.result c.args.self.now.standings c.unmount-first.ensures;
  fused = c.args.self.now.fused;
}

pub returns : goal.returns
returns g c =
    (pair_unmounts c.args.serial c.in_default.field-0 (pair_of c.args.self.now) (g.T.Tapes.rack c.unmount-first.new.self) (g.T.Tapes.rack c.unmount-second.new.self) c.unmount-first.result
    c.unmount-second.result c.args.self.now.paired (sym c.capacity.ensures ∙ c.in_default.is) (sym c.mounted.ensures ∙ c.if-not-mounted.false) c.unmount-first.ensures c.unmount-second.ensures).0
