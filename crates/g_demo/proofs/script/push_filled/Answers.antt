use Rattle.g_demo.proofs.ScriptLemmas.{filled_put}
use Rattle.g_demo.proofs.script.push_filled.Goals as goal

pub loop-preserved : goal.loop-preserved
loop-preserved c =
    filled_put c.loop.text c.extend.new.self c.push.new.self c.args.text.now c.args.round c.letter-line.result c.loop.counter
    c.letter-line.ensures c.loop.invariant c.in_ok-extend.ensures.ok c.in_ok-push.ensures.ok
