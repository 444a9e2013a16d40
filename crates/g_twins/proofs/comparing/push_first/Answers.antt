use Rattle.std.proofs.Common.{◌≡◌, ◌∙◌, ◌++◌, ap, subst}
use Rattle.g_lines.specs.Lines.{text_of}
use Rattle.g_tape.specs.Reads.{blocks_of}
use Rattle.g_tape.proofs.ReadLemmas.{blocks_after_reads, more_reads}
use Rattle.g_twins.specs.Twins.{serials, twin_lines}
use Rattle.g_twins.proofs.TwinLemmas.{exposed_after, mounted_after, serial_after, text_more}
use Rattle.g_twins.proofs.comparing.push_first.Goals as goal

pub push_twins-requires-clause-mounted : goal.push_twins-requires-clause-mounted
push_twins-requires-clause-mounted g c = mounted_after (g.T.Tapes.rack c.args.first.now) (g.T.Tapes.rack c.loop-i.first) c.loop-i.invariant.0 c.requires.mounted

pub push_twins-requires-clause-mounted_too : goal.push_twins-requires-clause-mounted_too
push_twins-requires-clause-mounted_too g c = mounted_after (g.T.Tapes.rack c.args.second.now) (g.T.Tapes.rack c.loop-i.second) c.loop-i.invariant.1 c.requires.mounted_too

pub loop-i-preserved : goal.loop-i-preserved
loop-i-preserved g c =
    let p = g.T.Tapes.rack c.args.first.now in
    let q = g.T.Tapes.rack c.args.second.now in
    let p' = g.T.Tapes.rack c.loop-i.first in
    let q' = g.T.Tapes.rack c.loop-i.second in
    let s = c.serial-serial.result in (
      more_reads p p' _ c.loop-i.invariant.0 c.in-Ok.ensures.first,
      more_reads q q' _ c.loop-i.invariant.1 c.in-Ok.ensures.second,
      λ exposed exposed'.
          text_more (λ n. twin_lines n (blocks_of n p) (blocks_of n q)) (serials p) c.loop-i.i s c.args.text.now c.loop-i.text c.push_twins.new.text (serial_after p p' c.loop-i.i s c.loop-i.invariant.0 c.serial-serial.ensures)
          (c.loop-i.invariant.2 exposed exposed')
          (c.in-Ok.ensures.text (exposed_after p p' c.loop-i.invariant.0 exposed) (exposed_after q q' c.loop-i.invariant.1 exposed')
          ∙ (λ i. c.loop-i.text ++ text_of (twin_lines s (blocks_after_reads s p p' c.loop-i.invariant.0 i) (blocks_after_reads s q q' c.loop-i.invariant.1 i)))),
    )
