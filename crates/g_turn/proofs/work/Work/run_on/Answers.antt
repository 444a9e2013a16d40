use Rattle.g_turn.specs.Turns.{runs_on}
use Rattle.g_turn.proofs.ReadyLemmas.{err_none, none_ready, run_ready}
use Rattle.g_turn.proofs.work.Work.run_on.Goals as goal

pub returns-in_err-go_on-clause-err : goal.returns-in_err-go_on-clause-err
returns-in_err-go_on-clause-err g c =
    err_none g.S.Filestore.answers c.args.asker.now.who.now (runs_on c.args.asker.now.room c.args.asker.now.who.now c.args.by c.args.self.now) c.args.store.now c.from_residual.result

pub returns-then-is_over-clause-ready : goal.returns-then-is_over-clause-ready
returns-then-is_over-clause-ready g c =
    none_ready c.go_on.new.self (run_ready c.args.asker.now.room c.args.self.now c.go_on.new.self c.requires.fresh c.in_ok-go_on.ensures.ok)

pub returns-then-by-clause-ready : goal.returns-then-by-clause-ready
returns-then-by-clause-ready g c =
    none_ready c.go_on.new.self (run_ready c.args.asker.now.room c.args.self.now c.go_on.new.self c.requires.fresh c.in_ok-go_on.ensures.ok)

pub may_fire-requires-clause-ready : goal.may_fire-requires-clause-ready
may_fire-requires-clause-ready g c =
    none_ready c.go_on.new.self (run_ready c.args.asker.now.room c.args.self.now c.go_on.new.self c.requires.fresh c.in_ok-go_on.ensures.ok)
