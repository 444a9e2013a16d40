use Rattle.std.proofs.Common.{Some, false, refl, sym, ◌∙◌}
use Rattle.std.proofs.lemmas.Result.{on_err_weaker, on_ok_weaker}
use Rattle.g_lang.specs.Lines.{SaidGoto}
use Rattle.g_macro.specs.Levels.{current, line_of_label}
use Rattle.g_plain.specs.Programs.{Gives, and_then}
use Rattle.g_turn.specs.Commands.{gone}
use Rattle.g_turn.specs.Lines.{may_fire}
use Rattle.g_turn.specs.Outcomes.{is_over}
use Rattle.g_turn.proofs.ReadyLemmas.{err_none, said_ready}
use Rattle.g_turn.proofs.WellThen.{part_then, well_over, well_then}
use Rattle.g_turn.proofs.work.Work.goes.Goals as goal

pub returns-in_err-go_to-clause-err : goal.returns-in_err-go_to-clause-err
returns-in_err-go_to-clause-err g c =
    err_none g.S.Filestore.answers c.args.asker.now.who.now
    (and_then is_over (Gives (gone c.args.asker.now.room (line_of_label c.args.label.now (current c.args.self.now.desk.levels).lines) c.args.self.now)) (may_fire c.args.asker.now.room c.args.asker.now.who.now))
    c.args.store.now c.from_residual.result

pub returns-then-is_over-clause-ok : goal.returns-then-is_over-clause-ok
returns-then-is_over-clause-ok g c =
    well_over g.S.Filestore.answers g.S.Filestore.is_spent g.S.Filestore.can_wait c.args.asker.now.who.now
    (Gives (gone c.args.asker.now.room (line_of_label c.args.label.now (current c.args.self.now.desk.levels).lines) c.args.self.now)) (may_fire c.args.asker.now.room c.args.asker.now.who.now)
    c.args.store.now c.args.store.now c.go_to.new.self (c.in_ok-go_to.ensures.ok, refl) (sym c.is_over.ensures ∙ c.if-is_over.true)

pub returns-then-is_over-clause-ready : goal.returns-then-is_over-clause-ready
returns-then-is_over-clause-ready g c =
    said_ready g.S.Filestore.answers g.S.Filestore.is_spent g.S.Filestore.can_wait c.args.asker.now.who.now c.args.asker.now.room false (Some (SaidGoto c.args.label.now))
    c.args.self.now c.go_to.new.self c.args.store.now c.args.store.now c.requires.ready c.requires.level (c.in_ok-go_to.ensures.ok, refl)

pub may_fire-requires-clause-ready : goal.may_fire-requires-clause-ready
may_fire-requires-clause-ready g c =
    said_ready g.S.Filestore.answers g.S.Filestore.is_spent g.S.Filestore.can_wait c.args.asker.now.who.now c.args.asker.now.room false (Some (SaidGoto c.args.label.now))
    c.args.self.now c.go_to.new.self c.args.store.now c.args.store.now c.requires.ready c.requires.level (c.in_ok-go_to.ensures.ok, refl)

pub returns-clause-ok : goal.returns-clause-ok
returns-clause-ok g c =
    on_ok_weaker c.may_fire.result (λ did. well_then g.S.Filestore.answers g.S.Filestore.is_spent g.S.Filestore.can_wait c.args.asker.now.who.now
    (Gives (gone c.args.asker.now.room (line_of_label c.args.label.now (current c.args.self.now.desk.levels).lines) c.args.self.now)) (may_fire c.args.asker.now.room c.args.asker.now.who.now)
    c.args.store.now c.args.store.now c.may_fire.new.store c.go_to.new.self c.may_fire.new.self (c.in_ok-go_to.ensures.ok, refl) (sym c.is_over.ensures ∙ c.if-is_over.false) did) c.may_fire.ensures.ok

pub returns-clause-err : goal.returns-clause-err
returns-clause-err g c =
    on_err_weaker c.may_fire.result (λ did. part_then g.S.Filestore.answers g.S.Filestore.is_spent g.S.Filestore.can_wait c.args.asker.now.who.now
    (Gives (gone c.args.asker.now.room (line_of_label c.args.label.now (current c.args.self.now.desk.levels).lines) c.args.self.now)) (may_fire c.args.asker.now.room c.args.asker.now.who.now)
    c.args.store.now c.args.store.now c.may_fire.new.store c.go_to.new.self (c.in_ok-go_to.ensures.ok, refl) (sym c.is_over.ensures ∙ c.if-is_over.false) did) c.may_fire.ensures.err
