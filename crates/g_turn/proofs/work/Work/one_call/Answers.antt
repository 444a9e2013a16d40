use Rattle.g_turn.proofs.UseLemmas.{granted_asked}
use Rattle.g_turn.proofs.work.Work.one_call.Goals as goal

pub returns-in-Ok-clause-err : goal.returns-in-Ok-clause-err
returns-in-Ok-clause-err g c =
    granted_asked g.S.Filestore.answers c.args.asker.now.who.now c.args.store.now c.ask_any.new.store c.args.asker.now.room c.args.call.now c.args.self.now c.in-Ok.reply c.grant.result c.in-Ok.ensures.answers
