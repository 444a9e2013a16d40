use Rattle.std.proofs.Common.{ap, ◌∙◌}
use Rattle.std.proofs.lemmas.Result.{on_ok_weaker}
use Rattle.g_turn.specs.Turns.{takes_line}
use Rattle.g_macro.specs.Levels.{next_line}
use Rattle.g_turn.proofs.ReadyLemmas.{end_ready, err_none}
use Rattle.g_turn.proofs.work.Work.take.Goals as goal

pub returns-in_err-text-clause-err : goal.returns-in_err-text-clause-err
returns-in_err-text-clause-err g c =
    err_none g.S.Filestore.answers c.args.asker.now.who.now (takes_line c.args.asker.now.room c.args.asker.now.who.now (next_line c.args.self.now.desk.levels) c.args.self.now) c.args.store.now
    c.from_residual.result

pub returns-in-Nothing-clause-ready : goal.returns-in-Nothing-clause-ready
returns-in-Nothing-clause-ready g c =
    on_ok_weaker c.end_job.result (λ did. end_ready g.S.Filestore.answers g.S.Filestore.is_spent g.S.Filestore.can_wait c.args.asker.now.who.now c.args.asker.now.room c.take_line.new.self c.end_job.new.self c.args.store.now c.end_job.new.store
    (ap (λ w. w.again) c.in_ok-text.ensures.ok ∙ c.requires.fresh) did) c.end_job.ensures.ok
