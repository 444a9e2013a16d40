use Rattle.std.proofs.Common.{◌-◌, length, take, drop, arith, length-take, length-drop, ◌∙◌}
use Rattle.std.proofs.lemmas.List.{take_rest}
use Rattle.g_files.proofs.StreamLemmas.{more_step}
use Rattle.g_files.proofs.streams.put_whole.Goals as goal
use Rattle.g_files.proofs.streams.put_whole.Goals.{in-Ok, in-Err}

pub loop-call-preserved : goal.loop-call-preserved
loop-call-preserved g c =
    let done = c.loop-call.done in
    let text = c.args.piece.now in
    let written = g.O.RawOutput.written in
    let inv = c.loop-call.invariant in
    elim c.match-write.branch [
      | in-Ok w ↦ rw w.done-is record {
        within = let few = w.in-Ok.ensures.count in omega (arith, few, length-take (length text - done) (drop done text), length-drop done text);
        put = more_step done w.in-Ok.count text (take (length text - done) (drop done text)) (written c.args.output.now)
            (written c.loop-call.output) (written c.write.new.self) (take_rest text done) inv.put w.in-Ok.ensures.put;
      }
      | in-Err w ↦ rw w.done-is record { within = inv.within; put = w.in-Err.ensures.same ∙ inv.put }
    ]
