use Rattle.std.proofs.lemmas.Result.{on_ok_weaker}
use Rattle.g_demo.proofs.ScriptLemmas.{round_put, three_drawn}
use Rattle.g_demo.proofs.script.push_round.Goals as goal

pub returns-clause-lines : goal.returns-clause-lines
returns-clause-lines c =
    let old = c.args.draws.now.state in
    let first = c.draw-made.new.self.state in
    let second = c.draw-lines.new.self.state in
    let third = c.draw-listed.new.self.state in
    on_ok_weaker c.push_behind_job.result
    (λ put. round_put c.args.text.now c.push_job.new.text c.push_behind_job.new.text c.args.round old first second third c.draw-made.result c.draw-lines.result c.draw-listed.result
    c.draw-made.ensures.state c.draw-lines.ensures.state c.draw-listed.ensures.state c.draw-made.ensures.value c.draw-lines.ensures.value c.draw-listed.ensures.value c.in_ok-push_job.ensures put)
    (c.push_behind_job.ensures.lines old (three_drawn old first second third c.draw-made.ensures.state c.draw-lines.ensures.state c.draw-listed.ensures.state))
