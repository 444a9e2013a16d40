use Rattle.std.proofs.Common.{List, subst, ℕ}
use Rattle.g_day.specs.Puts.{Puts}
use Rattle.g_ticks.proofs.WatchedLemmas.{goes_nowhere, still_up}
use Rattle.g_ticks.proofs.ending.put_file.Goals as goal

pub returns-in-Ok-clause-goes : goal.returns-in-Ok-clause-goes
returns-in-Ok-clause-goes g c = record {
  up = still_up c.args.up.now.store.running c.open_accounts.new.self.store.running c.in-Ok.ensures.store c.requires.running;
  opens = λ none. c.in-Ok.ensures.opens;
  put = subst (λ (l : List ℕ). Puts c.put.result l (g.K.Sink.written c.args.out.now) (g.K.Sink.written c.put.new.out) (g.K.Sink.faults c.args.out.now) (g.K.Sink.faults c.put.new.out)) c.monitor.ensures.bytes c.put.ensures;
}

pub returns-in-Err-clause-goes : goal.returns-in-Err-clause-goes
returns-in-Err-clause-goes g c = goes_nowhere c.args.up.now.store.running c.open_accounts.new.self.store.running _ _ _ _ _ c.in-Err.ensures.store c.requires.running
