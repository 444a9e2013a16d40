use Rattle.std.proofs.Common.{subst, ℕ, ◌++◌}
use Rattle.std.specs.Prelude.{codes}
use Rattle.std.specs.Fmt.{decimal}
use Rattle.g_day.specs.Puts.{Puts}
use Rattle.g_run_model.specs.Texts.{job_text, operator_line}
use Rattle.g_ticks.proofs.WatchedLemmas.{goes_nowhere, still_up}
use Rattle.g_ticks.proofs.ending.waits.Goals as goal

pub returns-in-Ok-clause-goes : goal.returns-in-Ok-clause-goes
returns-in-Ok-clause-goes g c = record {
  up = still_up c.args.up.now.store.running c.open_accounts.new.self.store.running c.in-Ok.ensures.store c.requires.running;
  opens = λ none. c.in-Ok.ensures.opens;
  put = subst (λ (n : ℕ). Puts c.say_made.result (operator_line n (job_text c.args.number (codes "WANTS TAPE " ++ decimal c.args.serial)))
      (g.K.Sink.written c.args.out.now) (g.K.Sink.written c.say_made.new.out) (g.K.Sink.faults c.args.out.now) (g.K.Sink.faults c.say_made.new.out)) c.in-Ok.ensures.count
      (c.say_made.ensures (job_text c.args.number (codes "WANTS TAPE " ++ decimal c.args.serial)) c.wants-made.ensures);
}

pub returns-in-Err-clause-goes : goal.returns-in-Err-clause-goes
returns-in-Err-clause-goes g c = goes_nowhere c.args.up.now.store.running c.open_accounts.new.self.store.running _ _ _ _ _ c.in-Err.ensures.store c.requires.running
