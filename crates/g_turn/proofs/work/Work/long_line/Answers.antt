use Rattle.g_turn.specs.Lines.{long_line}
use Rattle.g_turn.proofs.ReadyLemmas.{err_none}
use Rattle.g_turn.proofs.work.Work.long_line.Goals as goal

pub returns-in_err-say_marked-clause-err : goal.returns-in_err-say_marked-clause-err
returns-in_err-say_marked-clause-err g c =
    err_none g.S.Filestore.answers c.args.asker.now.who.now (long_line c.args.asker.now.room c.args.asker.now.who.now c.args.front c.args.self.now) c.args.store.now c.from_residual.result
