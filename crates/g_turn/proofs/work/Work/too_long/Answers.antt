use Rattle.g_turn.specs.Lines.{too_long}
use Rattle.g_turn.proofs.ReadyLemmas.{err_none}
use Rattle.g_turn.proofs.work.Work.too_long.Goals as goal

pub returns-in_err-in_error-clause-err : goal.returns-in_err-in_error-clause-err
returns-in_err-in_error-clause-err g c =
    err_none g.S.Filestore.answers c.args.asker.now.who.now (too_long c.args.asker.now.room c.args.asker.now.who.now c.args.self.now) c.args.store.now c.from_residual.result
