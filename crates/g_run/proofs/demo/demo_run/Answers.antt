use Rattle.std.proofs.Common.{ap}
use Rattle.g_demo.specs.Sink.{SummarySinkView}
use Rattle.g_tape.specs.Memory.{memory_of}
use Rattle.g_run.proofs.DemoLemmas.{demo_text_is}
use Rattle.g_run.proofs.ReadingLemmas.{parsed_within}
use Rattle.g_run.proofs.demo.demo_run.Goals as goal

pub run_script-failure-requires-clause-within : goal.run_script-failure-requires-clause-within
run_script-failure-requires-clause-within g c = parsed_within _ _ _ c.in_ok-script.ensures.parsed

pub returns-in-None : goal.returns-in-None
returns-in-None g c =
    let ends = rw c.in-None.is at c.run_script-failure.ensures.ends in
    demo_text_is g.F.Fn c.args.rules.now.tariff.now g.U.Fn c.args.rules.now.weigh.now c.args.demo.now c.run_script-failure.new.out.text c.in_ok-script.script.lines c.in_ok-script.script.bad
    c.in_ok-disc.disc.disc.value (memory_of c.in_ok-tapes.tapes.tapes.value) _ c.new-sink.result.text c.in_ok-script.ensures.parsed c.in_ok-disc.ensures c.in_ok-tapes.ensures
    (ap (λ (v : SummarySinkView). v.text) c.new-sink.ensures) ends
