use Rattle.std.proofs.Common.{◌∙◌, refl, sym}
use Rattle.g_turn.specs.Releases.{finished}
use Rattle.g_turn.specs.Outcomes.{done}
use Rattle.g_turn.proofs.ReleaseLemmas.{release_first, release_over, release_then}
use Rattle.g_turn.proofs.work.Work.end_job.Goals as goal

pub returns-then-is_over-clause-ok : goal.returns-then-is_over-clause-ok
returns-then-is_over-clause-ok g c =
    release_over g.S.Filestore.answers g.S.Filestore.is_spent g.S.Filestore.can_wait c.args.asker.now.who.now c.args.asker.now.room finished (done c.args.self.now) c.done.new.self c.release_all.new.self
    c.args.store.now c.release_all.new.store c.done.ensures c.in-Ok.ensures.ok (sym c.is_over.ensures ∙ c.if-is_over.true)

pub returns-else-is_over-clause-ok : goal.returns-else-is_over-clause-ok
returns-else-is_over-clause-ok g c =
    release_then g.S.Filestore.answers g.S.Filestore.is_spent g.S.Filestore.can_wait c.args.asker.now.who.now c.args.asker.now.room finished (done c.args.self.now) c.done.new.self c.release_all.new.self
    c.stop_at.new.self c.args.store.now c.release_all.new.store c.release_all.new.store c.done.ensures c.in-Ok.ensures.ok (sym c.is_over.ensures ∙ c.if-is_over.false) (c.stop_at.ensures, refl)

pub returns-in-Err-clause-err : goal.returns-in-Err-clause-err
returns-in-Err-clause-err g c =
    release_first g.S.Filestore.answers g.S.Filestore.is_spent g.S.Filestore.can_wait c.args.asker.now.who.now c.args.asker.now.room finished (done c.args.self.now) c.done.new.self c.args.store.now
    c.release_all.new.store c.done.ensures c.in-Err.ensures.err
