use Rattle.std.proofs.Common.{◌∙◌, refl, sym}
use Rattle.g_ticks.proofs.WatchedLemmas.{goes_nowhere, nothing_more, opens_none, still_up}
use Rattle.g_ticks.proofs.ending.goes_on.Goals as goal

pub returns-in-Ok-clause-goes : goal.returns-in-Ok-clause-goes
returns-in-Ok-clause-goes g c = λ text faults. record {
  up = still_up c.args.up.now.store.running c.open_each.new.self.store.running c.in-Ok.ensures.store c.requires.running;
  opens = λ none. c.in-Ok.ensures.opens;
  put = record { put = nothing_more text; cause = refl };
}

pub returns-in-Err-clause-goes : goal.returns-in-Err-clause-goes
returns-in-Err-clause-goes g c = λ text faults. goes_nowhere c.args.up.now.store.running c.open_each.new.self.store.running _ _ _ _ _ c.in-Err.ensures.store c.requires.running

pub returns-else-asked-clause-goes : goal.returns-else-asked-clause-goes
returns-else-asked-clause-goes g c = λ text faults.
    let up = c.args.up.now in record {
      up = still_up up.store.running up.store.running refl c.requires.running;
      opens = λ none. opens_none up.store.running.online.contents.users up.crew (c.requires.accounts (sym c.asked.ensures ∙ c.if-asked.false));
      put = record { put = nothing_more text; cause = refl };
    }
