use Rattle.std.proofs.Common.{◌++◌, ap, subst}
use Rattle.g_tape.specs.Rack.{Rack}
use Rattle.g_run_model.specs.Texts.{closing, waiting_files}
use Rattle.g_job_table.specs.Crew.{CrewState}
use Rattle.g_day.specs.Parts.{Seen, seen}
use Rattle.g_day.specs.System.{Down}
use Rattle.g_run.specs.ScriptEnd.{ClosesBy, both}
use Rattle.g_ticks.specs.Parts.{DidAll}
use Rattle.g_run.proofs.OverLemmas.{script_over}
use Rattle.g_run.proofs.over.run_script.Goals as goal

pub returns : goal.returns
returns g c =
    let made = subst (λ (r : Rack). DidAll g.F.Fn c.args.rules.now.tariff.now g.U.Fn c.args.rules.now.weigh.now c.args.script.lines (seen (Down (both (g.D.Disc.state c.args.devices.0) r)) c.new-crew.result 0) c.run_lines-day.result.failure
    c.run_lines-day.result.day (g.K.Sink.written c.args.out.now) (g.K.Sink.written c.run_lines-day.new.out) (g.K.Sink.faults c.args.out.now) (g.K.Sink.faults c.run_lines-day.new.out)) (ap g.T.Tapes.rack c.new-tapes.ensures) c.run_lines-day.ensures in
    let did = subst (λ (k : CrewState). DidAll g.F.Fn c.args.rules.now.tariff.now g.U.Fn c.args.rules.now.weigh.now c.args.script.lines (seen (Down (both (g.D.Disc.state c.args.devices.0) (g.T.Tapes.rack c.args.devices.1))) k 0) c.run_lines-day.result.failure
    c.run_lines-day.result.day (g.K.Sink.written c.args.out.now) (g.K.Sink.written c.run_lines-day.new.out) (g.K.Sink.faults c.args.out.now) (g.K.Sink.faults c.run_lines-day.new.out)) c.new-crew.ensures made in
    script_over g.F.Fn c.args.rules.now.tariff.now g.U.Fn c.args.rules.now.weigh.now c.args.script.lines c.args.script.bad (both (g.D.Disc.state c.args.devices.0) (g.T.Tapes.rack c.args.devices.1))
    c.run_lines-day.result.day.system c.run_lines-day.result.day.crew c.run_lines-day.result.day.count _ c.taken_down-disc.ensures
    c.run_lines-day.result.failure c.close-failure.result _ _ _ _ _ _ did
    (subst (λ (s : Seen). ClosesBy c.run_lines-day.result.failure (waiting_files s.crew.jobs ++ closing c.args.script.bad) c.close-failure.result
    (g.K.Sink.written c.run_lines-day.new.out) (g.K.Sink.written c.close-failure.new.out) (g.K.Sink.faults c.run_lines-day.new.out) (g.K.Sink.faults c.close-failure.new.out)) c.day.view_is c.close-failure.ensures)
