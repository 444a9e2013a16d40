use Rattle.std.proofs.lemmas.Result.{on_ok_weaker}
use Rattle.g_demo.proofs.ScriptLemmas.{job_put}
use Rattle.g_demo.proofs.script.push_job.Goals as goal

pub returns : goal.returns
returns c =
    on_ok_weaker c.extend-2.result
    (λ last. job_put c.args.text.now c.push_turn_line.new.text c.push_line.new.text c.push_filled.new.text c.extend.new.self c.push_line-2.new.text c.extend-2.new.self
    c.args.round c.args.made c.args.lines c.args.listed c.from.result c.from-2.result c.from.ensures c.from-2.ensures c.in_ok-push_turn_line.ensures c.in_ok-push_line.ensures c.in_ok-push_filled.ensures c.in_ok-extend.ensures.ok c.in_ok-push_line-2.ensures last)
    c.extend-2.ensures.ok
