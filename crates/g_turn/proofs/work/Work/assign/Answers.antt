use Rattle.std.proofs.Common.{◌∙◌, ap, sym}
use Rattle.std.proofs.lemmas.Result.{on_err_weaker}
use Rattle.g_turn.specs.State.{Work}
use Rattle.g_peri.specs.JobUnits.{is_assigned}
use Rattle.g_turn.proofs.UseLemmas.{assign_part}
use Rattle.g_turn.proofs.work.Work.assign.Goals as goal

pub returns-then-is_reader-clause-err : goal.returns-then-is_reader-clause-err
returns-then-is_reader-clause-err g c =
    on_err_weaker c.fetch.result (λ did. assign_part g.S.Filestore.answers c.args.asker.now.who.now c.args.store.now c.fetch.new.store c.args.asker.now.room c.args.unit c.args.file c.copy-path.result c.args.self.now
    (ap (λ (w : Work). is_assigned w.desk.units c.args.unit) (sym c.self.view_is) ∙ sym c.assigned.ensures.value ∙ c.if-assigned.false) (sym c.is_reader.ensures ∙ c.if-is_reader.true) c.copy-path.ensures did) c.fetch.ensures.err
