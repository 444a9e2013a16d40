use Rattle.std.proofs.Common.{None, subst, ◌≡◌}
use Rattle.g_turn.specs.LineWork.{FiredAs}
use Rattle.g_turn.specs.Lines.{may_fire}
use Rattle.g_turn.specs.State.{Work}
use Rattle.g_macro.specs.Levels.{fired}
use Rattle.g_turn.proofs.ReadyLemmas.{err_none, fired_level, fired_ready, none_fires}
use Rattle.g_turn.proofs.work.Work.fire_first.Goals as goal

pub returns-in_err-text-clause-err : goal.returns-in_err-text-clause-err
returns-in_err-text-clause-err g c =
    err_none g.S.Filestore.answers c.args.asker.now.who.now (may_fire c.args.asker.now.room c.args.asker.now.who.now c.args.self.now) c.args.store.now c.from_residual.result

pub fires-requires-clause-level : goal.fires-requires-clause-level
fires-requires-clause-level g c = fired_level c.in-Some.text c.args.self.now c.take_fired.new.self
    (subst (λ text. FiredAs text c.args.self.now c.take_fired.new.self) c.in-Some.is c.in_ok-text.ensures.fired)

pub fires-requires-clause-ready : goal.fires-requires-clause-ready
fires-requires-clause-ready g c = fired_ready c.in-Some.text c.args.self.now c.take_fired.new.self
    (subst (λ text. FiredAs text c.args.self.now c.take_fired.new.self) c.in-Some.is c.in_ok-text.ensures.fired) c.requires.ready

-- no command waits
pub returns-then-not-have_entries-clause-ok : goal.returns-then-not-have_entries-clause-ok
returns-then-not-have_entries-clause-ok g c =
    let none : fired c.args.self.now.desk.outcome c.args.self.now.desk.levels.levels ≡ None =
    subst (λ (w : Work). fired w.desk.outcome w.desk.levels.levels ≡ None) c.self.view_is (c.have_entries.ensures c.if-not-have_entries.true c.self.inside.outcome) in
    none_fires g.S.Filestore.answers g.S.Filestore.is_spent g.S.Filestore.can_wait c.args.asker.now.who.now c.args.asker.now.room c.args.self.now c.args.store.now none
