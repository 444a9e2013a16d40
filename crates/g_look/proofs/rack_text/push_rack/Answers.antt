use Rattle.g_look.proofs.ShownLemmas.{rack_step}
use Rattle.g_look.proofs.rack_text.push_rack.Goals as goal

pub loop-i-preserved : goal.loop-i-preserved
loop-i-preserved g c = λ shelf seen. rack_step shelf (g.T.Tapes.rack c.args.tapes.now) _ _ _ _ _ c.serial-serial.ensures (c.loop-i.invariant shelf seen) (c.in-Ok.ensures shelf seen)
