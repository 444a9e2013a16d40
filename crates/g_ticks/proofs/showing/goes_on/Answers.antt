use Rattle.g_ticks.proofs.WatchedLemmas.{goes_nowhere, still_up}
use Rattle.g_ticks.proofs.showing.goes_on.Goals as goal

pub returns-in-Ok-clause-goes : goal.returns-in-Ok-clause-goes
returns-in-Ok-clause-goes g c = λ text made. record {
  up = still_up c.args.up.now.store.running c.open_accounts.new.self.store.running c.in-Ok.ensures.store c.requires.running;
  opens = λ none. c.in-Ok.ensures.opens;
  put = c.put_made.ensures text made;
}

pub returns-in-Err-clause-goes : goal.returns-in-Err-clause-goes
returns-in-Err-clause-goes g c = λ text made. goes_nowhere c.args.up.now.store.running c.open_accounts.new.self.store.running _ _ _ _ _ c.in-Err.ensures.store c.requires.running
