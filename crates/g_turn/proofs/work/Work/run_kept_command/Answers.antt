use Rattle.std.proofs.Common.{true}
use Rattle.g_lang.specs.Meaning.{command_said}
use Rattle.std.proofs.lemmas.Result.{on_ok_weaker}
use Rattle.g_turn.proofs.ReadyLemmas.{said_ready}
use Rattle.g_turn.proofs.work.Work.run_kept_command.Goals as goal

pub returns-in-Ok-clause-ready : goal.returns-in-Ok-clause-ready
returns-in-Ok-clause-ready g c =
    on_ok_weaker c.do_command.result (λ did. said_ready g.S.Filestore.answers g.S.Filestore.is_spent g.S.Filestore.can_wait c.args.asker.now.who.now c.args.asker.now.room true (command_said c.in-Ok.line.command)
    c.args.self.now c.do_command.new.self c.args.store.now c.do_command.new.store c.requires.ready c.requires.level did) c.do_command.ensures.ok
