use Rattle.std.proofs.Common.{ap, option_map, sym, ◌∙◌}
use Rattle.g_job.specs.Ending.{turn_by}
use Rattle.g_job.specs.JobValue.{job_of}
use Rattle.g_lines.specs.Lines.{ended}
use Rattle.g_monitor.specs.JobLines.{job_line}
use Rattle.g_turn.specs.Values.{stop_of}
use Rattle.g_job.proofs.EndingLemmas.{is_last, settle_end}
use Rattle.g_job.proofs.parts.Parts.settle.Goals as goal

pub returns-clause-ok : goal.returns-clause-ok
returns-clause-ok c =
    settle_end (job_of c.args.self.now) c.args.self.now.work.text c.args.charge (option_map stop_of c.args.stop) (option_map ended (option_map job_line c.last_line-last.result)) c.requires.clear c.requires.open
    c.at_most_left-units.result c.at_most_left-money.result c.add.new.work.desk c.add.new.monitor c.is_some-self.result c.turn_of.result
    (λ w. ap (option_map ended) (c.last_line-last.ensures.line w)) c.at_most_left-units.ensures c.at_most_left-money.ensures c.in_ok-add.ensures.desk c.in_ok-add.ensures.ok
    (c.is_some-self.ensures ∙ is_last job_line c.last_line-last.result)
    (c.turn_of.ensures ∙ ap (turn_by c.at_most_left-units.result c.at_most_left-money.result) (c.is_some.ensures ∙ sym c.is_some-self.ensures))
