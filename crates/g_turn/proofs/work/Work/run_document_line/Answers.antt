use Rattle.std.proofs.Common.{ap, sym, ◌∙◌}
use Rattle.std.proofs.lemmas.Result.{on_err_weaker, on_ok_weaker}
use Rattle.g_lang.specs.LineReader.{reading}
use Rattle.g_turn.specs.Lines.{line}
use Rattle.g_plain.proofs.AskLemmas.{RanInPart-none}
use Rattle.g_turn.proofs.GotoLemmas.{goes, goes_part}
use Rattle.g_turn.proofs.ReadyLemmas.{err_none}
use Rattle.g_turn.proofs.work.Work.run_document_line.Goals as goal

pub returns-then-is_wanting-clause-err : goal.returns-then-is_wanting-clause-err
returns-then-is_wanting-clause-err g c =
    RanInPart-none g.S.Filestore.answers c.args.asker.now.who.now (line c.args.asker.now.room c.args.asker.now.who.now c.args.text c.args.self.now) c.args.store.now

pub returns-in_err-say_line-clause-err : goal.returns-in_err-say_line-clause-err
returns-in_err-say_line-clause-err g c =
    err_none g.S.Filestore.answers c.args.asker.now.who.now (line c.args.asker.now.room c.args.asker.now.who.now c.args.text c.args.self.now) c.args.store.now
    c.from_residual.result

-- a GOTO
pub returns-in-Some-clause-ok : goal.returns-in-Some-clause-ok
returns-in-Some-clause-ok g c =
    let same = ap reading (sym c.as_slice.ensures) ∙ c.read_line-read.ensures.reading (sym c.is_wanting.ensures ∙ c.if-is_wanting.false) in
    on_ok_weaker c.goes.result (λ did. goes c.args.asker.now.room c.args.asker.now.who.now g.S.Filestore.answers g.S.Filestore.is_spent g.S.Filestore.can_wait
    c.args.text c.in-Some.label.now c.read_line-read.result c.args.self.now c.say_line.new.self c.goes.new.self c.args.store.now c.goes.new.store
    c.in_ok-say_line.ensures.ok (sym c.is_over.ensures ∙ c.if-is_over.false) same c.in-Some.ensures did) c.goes.ensures.ok

pub returns-in-Some-clause-err : goal.returns-in-Some-clause-err
returns-in-Some-clause-err g c =
    let same = ap reading (sym c.as_slice.ensures) ∙ c.read_line-read.ensures.reading (sym c.is_wanting.ensures ∙ c.if-is_wanting.false) in
    on_err_weaker c.goes.result (λ did. goes_part c.args.asker.now.room c.args.asker.now.who.now g.S.Filestore.answers g.S.Filestore.is_spent g.S.Filestore.can_wait
    c.args.text c.in-Some.label.now c.read_line-read.result c.args.self.now c.say_line.new.self c.args.store.now c.goes.new.store
    c.in_ok-say_line.ensures.ok (sym c.is_over.ensures ∙ c.if-is_over.false) same c.in-Some.ensures did) c.goes.ensures.err
