use Rattle.g_tape.specs.Reads.{blocks_of}
use Rattle.g_twins.specs.Twins.{alone_lines, serials}
use Rattle.g_twins.proofs.TwinLemmas.{text_more}
use Rattle.g_twins.proofs.comparing.push_alone.Goals as goal

pub loop-i-preserved : goal.loop-i-preserved
loop-i-preserved g c = λ exposed.
    text_more (λ s. alone_lines s (blocks_of s (g.T.Tapes.rack c.args.first.now))) (serials (g.T.Tapes.rack c.args.second.now)) c.loop-i.i c.serial.result c.args.text.now c.loop-i.text c.push_if_alone.new.text
    c.serial.ensures (c.loop-i.invariant exposed) (c.in-Ok.ensures exposed)
