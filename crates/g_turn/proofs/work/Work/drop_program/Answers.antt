use Rattle.std.proofs.Common.{◌∙◌, ap, refl, sym}
use Rattle.std.proofs.lemmas.Result.{on_ok_weaker}
use Rattle.g_turn.proofs.ReadyLemmas.{on_err}
use Rattle.g_turn.specs.Releases.{deleted, dropped}
use Rattle.g_turn.specs.Outcomes.{done}
use Rattle.g_turn.specs.State.{Work}
use Rattle.g_turn.proofs.ReleaseLemmas.{release_first, release_over, release_part, release_then}
use Rattle.g_turn.proofs.work.Work.drop_program.Goals as goal

pub returns-then-is_over-clause-ok : goal.returns-then-is_over-clause-ok
returns-then-is_over-clause-ok g c =
    release_over g.S.Filestore.answers g.S.Filestore.is_spent g.S.Filestore.can_wait c.args.asker.now.who.now c.args.asker.now.room (deleted c.args.asker.now.room) (done (dropped c.args.self.now)) c.done.new.self
    c.release_all.new.self c.args.store.now c.release_all.new.store (c.done.ensures ∙ ap (λ (w : Work). done w) c.forget_program.ensures) c.in-Ok.ensures.ok
    (sym c.is_over.ensures ∙ c.if-is_over.true)

pub returns-else-is_over-clause-ok : goal.returns-else-is_over-clause-ok
returns-else-is_over-clause-ok g c =
    on_ok_weaker c.say_job_line.result (λ did. release_then g.S.Filestore.answers g.S.Filestore.is_spent g.S.Filestore.can_wait c.args.asker.now.who.now c.args.asker.now.room (deleted c.args.asker.now.room) (done (dropped c.args.self.now)) c.done.new.self
    c.release_all.new.self c.say_job_line.new.self c.args.store.now c.release_all.new.store c.release_all.new.store (c.done.ensures ∙ ap (λ (w : Work). done w) c.forget_program.ensures)
    c.in-Ok.ensures.ok (sym c.is_over.ensures ∙ c.if-is_over.false) (did, refl)) c.say_job_line.ensures.ok

pub returns-else-is_over-clause-err : goal.returns-else-is_over-clause-err
returns-else-is_over-clause-err g c =
    on_err c.say_job_line.result (release_part g.S.Filestore.answers g.S.Filestore.is_spent g.S.Filestore.can_wait c.args.asker.now.who.now c.args.asker.now.room (deleted c.args.asker.now.room) (done (dropped c.args.self.now)) c.done.new.self
    c.release_all.new.self c.args.store.now c.release_all.new.store c.release_all.new.store (c.done.ensures ∙ ap (λ (w : Work). done w) c.forget_program.ensures) c.in-Ok.ensures.ok
    (sym c.is_over.ensures ∙ c.if-is_over.false) refl)

pub returns-in-Err-clause-err : goal.returns-in-Err-clause-err
returns-in-Err-clause-err g c =
    release_first g.S.Filestore.answers g.S.Filestore.is_spent g.S.Filestore.can_wait c.args.asker.now.who.now c.args.asker.now.room (deleted c.args.asker.now.room) (done (dropped c.args.self.now)) c.done.new.self
    c.args.store.now c.release_all.new.store (c.done.ensures ∙ ap (λ (w : Work). done w) c.forget_program.ensures) c.in-Err.ensures.err
