use Rattle.std.proofs.Common.{Some, ap, ◌∙◌}
use Rattle.g_turn.specs.Outcomes.{say}
use Rattle.g_turn.specs.State.{AgainLine}
use Rattle.g_turn.specs.contracts.work.Work.{the_view}
use Rattle.g_lang.specs.Words.{trimmed}
use Rattle.g_monitor.specs.JobLines.{marked}
use Rattle.g_monitor.specs.declared.job_lines.Mark.TheVariants as mark
use Rattle.g_turn.proofs.ReadyLemmas.{again_said}
use Rattle.g_turn.proofs.work.Work.say_line.Goals as goal

pub returns-clause-ok : goal.returns-clause-ok
returns-clause-ok c = again_said c.args.room (Some (AgainLine c.args.text)) (marked mark.Taken (trimmed c.args.text)) c.args.self.now (the_view c.self.inside)
    (c.self.view_is ∙ c.in_ok-say_marked.ensures.ok
    ∙ ap (λ text. say c.args.room (marked mark.Taken text) c.args.self.now) (c.trimmed.ensures ∙ ap trimmed c.as_slice.ensures))
