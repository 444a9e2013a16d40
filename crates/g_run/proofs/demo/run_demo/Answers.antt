use Rattle.g_run.proofs.DemoLemmas.{puts_demo}
use Rattle.g_run.proofs.demo.run_demo.Goals as goal

pub returns-in-Ok-clause-put : goal.returns-in-Ok-clause-put
returns-in-Ok-clause-put g c =
    puts_demo g.F.Fn c.args.rules.now.tariff.now g.U.Fn c.args.rules.now.weigh.now c.args.demo.now c.in-Ok.sink.text c.in-Ok.ensures c.put_summary.result _ _
    c.put_summary.ensures.put
