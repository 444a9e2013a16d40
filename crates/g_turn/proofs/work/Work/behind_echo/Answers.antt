use Rattle.std.proofs.Common.{sym, ◌∙◌}
use Rattle.std.proofs.lemmas.Result.{on_ok_weaker, on_err_weaker}
use Rattle.g_turn.proofs.ReadyLemmas.{on_err}
use Rattle.g_turn.specs.Lines.{does_line, may_fire}
use Rattle.g_turn.specs.LineMeaning.{read_as}
use Rattle.g_turn.proofs.WellThen.{part_first, part_then, well_over, well_then}
use Rattle.g_turn.proofs.work.Work.behind_echo.Goals as goal

pub returns-in_err-run_parsed_line-clause-err : goal.returns-in_err-run_parsed_line-clause-err
returns-in_err-run_parsed_line-clause-err g c =
    on_err c.from_residual.result (part_first g.S.Filestore.answers g.S.Filestore.is_spent g.S.Filestore.can_wait c.args.asker.now.who.now (does_line c.args.asker.now.room c.args.asker.now.who.now (read_as c.args.read) c.args.self.now) (may_fire c.args.asker.now.room c.args.asker.now.who.now)
    c.args.store.now c.run_parsed_line.new.store c.in_err-run_parsed_line.ensures.err)

pub returns-then-is_over-clause-ok : goal.returns-then-is_over-clause-ok
returns-then-is_over-clause-ok g c =
    well_over g.S.Filestore.answers g.S.Filestore.is_spent g.S.Filestore.can_wait c.args.asker.now.who.now (does_line c.args.asker.now.room c.args.asker.now.who.now (read_as c.args.read) c.args.self.now) (may_fire c.args.asker.now.room c.args.asker.now.who.now)
    c.args.store.now c.run_parsed_line.new.store c.run_parsed_line.new.self c.in_ok-run_parsed_line.ensures.ok (sym c.is_over.ensures ∙ c.if-is_over.true)

pub returns-clause-ok : goal.returns-clause-ok
returns-clause-ok g c =
    on_ok_weaker c.may_fire.result (λ did. well_then g.S.Filestore.answers g.S.Filestore.is_spent g.S.Filestore.can_wait c.args.asker.now.who.now (does_line c.args.asker.now.room c.args.asker.now.who.now (read_as c.args.read) c.args.self.now) (may_fire c.args.asker.now.room c.args.asker.now.who.now)
    c.args.store.now c.run_parsed_line.new.store c.may_fire.new.store c.run_parsed_line.new.self c.may_fire.new.self c.in_ok-run_parsed_line.ensures.ok (sym c.is_over.ensures ∙ c.if-is_over.false)
    did) c.may_fire.ensures.ok

pub returns-clause-err : goal.returns-clause-err
returns-clause-err g c =
    on_err_weaker c.may_fire.result (λ did. part_then g.S.Filestore.answers g.S.Filestore.is_spent g.S.Filestore.can_wait c.args.asker.now.who.now (does_line c.args.asker.now.room c.args.asker.now.who.now (read_as c.args.read) c.args.self.now) (may_fire c.args.asker.now.room c.args.asker.now.who.now)
    c.args.store.now c.run_parsed_line.new.store c.may_fire.new.store c.run_parsed_line.new.self c.in_ok-run_parsed_line.ensures.ok (sym c.is_over.ensures ∙ c.if-is_over.false)
    did) c.may_fire.ensures.err
