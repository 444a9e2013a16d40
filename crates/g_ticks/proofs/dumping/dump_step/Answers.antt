use Rattle.std.proofs.Common.{sym, true≢false, ◌∙◌}
use Rattle.g_day.proofs.JobLemmas.{none_dump}
use Rattle.g_ticks.proofs.DumpLemmas.{did_nothing}
use Rattle.g_ticks.proofs.LeftLemmas.{seen_up}
use Rattle.g_ticks.proofs.SameLemmas.{same_dump}
use Rattle.g_ticks.proofs.dumping.dump_step.Goals as goal

pub returns-in-None-clause-did : goal.returns-in-None-clause-did
returns-in-None-clause-did g c =
    let up = c.args.up.now in
    same_dump (seen_up up.store.running up.crew up.count c.requires.ready.0)
    (did_nothing up.store.running up.crew up.count c.requires.ready c.requires.open (none_dump up.store.running.dump (sym c.dump_number.ensures ∙ c.in-None.is)) (g.K.Sink.written c.args.out.now) (g.K.Sink.faults c.args.out.now))

pub returns-in-Some-clause-accounts : goal.returns-in-Some-clause-accounts
returns-in-Some-clause-accounts g c = λ all quiet. absurd (true≢false (sym c.step.ensures.asked ∙ quiet))
