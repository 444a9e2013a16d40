use Rattle.g_turn.specs.Lines.{does_fired}
use Rattle.g_turn.specs.Outcomes.{is_over, say}
use Rattle.g_monitor.specs.JobLines.{marked}
use Rattle.g_monitor.specs.declared.job_lines.Mark.TheVariants as mark
use Rattle.g_plain.specs.Programs.{Gives, and_then}
use Rattle.g_turn.proofs.ReadyLemmas.{err_none}
use Rattle.g_turn.proofs.work.Work.fires.Goals as goal

pub returns-in_err-say_marked-clause-err : goal.returns-in_err-say_marked-clause-err
returns-in_err-say_marked-clause-err g c =
    err_none g.S.Filestore.answers c.args.asker.now.who.now
    (and_then is_over (Gives (say c.args.asker.now.room (marked mark.Fired c.args.text) c.args.self.now)) (does_fired c.args.asker.now.room c.args.asker.now.who.now c.args.text)) c.args.store.now
    c.from_residual.result
