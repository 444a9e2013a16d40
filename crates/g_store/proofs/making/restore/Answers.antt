use Rattle.std.proofs.Common.{ℕ, Err, ap}
use Rattle.g_disc_contents.specs.Facts.{OnlineFacts}
use Rattle.g_store.proofs.SafeLemmas.{made_at_stop}
use Rattle.g_store.proofs.RestoredLemmas.{none_unmounted, restore_refused, restored_is, same_refusal}
use Rattle.g_store.proofs.making.restore.Goals as goal

pub returns-in-Ok-clause-ok : goal.returns-in-Ok-clause-ok
returns-in-Ok-clause-ok g c =
    let (made, is, has) = c.in-Ok.ensures.ok in
    restored_is (g.D.Disc.state c.args.disc) (g.T.Tapes.rack c.args.tapes) (g.T.Tapes.rack c.rebuild.new.tapes) c.in-Ok.ensures.reads c.in-Ok.number made c.in-Ok.online is has c.in-Ok.ensures.tied
    (c.in-Ok.ensures.kept (λ e. let no : ⊥ = cc in no)) (none_unmounted (c.in-Ok.online, c.in-Ok.number) _ c.in-Ok.ensures.unmounted) c.in-Ok.ensures.lost

pub returns-in-Err-clause-refused : goal.returns-in-Err-clause-refused
returns-in-Err-clause-refused g c =
    restore_refused (g.D.Disc.state c.args.disc) (g.T.Tapes.rack c.args.tapes) (g.T.Tapes.rack c.rebuild.new.tapes) c.in-Err.fault (g.D.Disc.state c.in-Err.disc)
    (record {
      stopped = c.in-Err.ensures.stopped;
      unread = c.in-Err.ensures.unread;
      unmounted = λ serial. let both = c.in-Err.ensures.unmounted serial in (λ is. both.0 (ap Err is), λ is. same_refusal _ _ (both.1 is));
      none = λ is. c.in-Err.ensures.none (ap Err is);
      lost = c.in-Err.ensures.lost;
      reads = c.in-Err.ensures.reads;
      kept = λ never. c.in-Err.ensures.kept (λ is. never (same_refusal _ _ is));
      rose = λ is. c.in-Err.ensures.rose (ap Err is);
      same = c.in-Err.ensures.same;
      causes = c.in-Err.ensures.causes;
      safe = c.in-Err.ensures.safe;
      durable = c.in-Err.ensures.disc_durable;
      only = c.in-Err.ensures.only;
      belongs = c.in-Err.ensures.belongs_refused;
      found = c.in-Err.ensures.found;
    })

pub returns-in-Ok-clause-durable : goal.returns-in-Ok-clause-durable
returns-in-Ok-clause-durable g c = c.in-Ok.ensures.durable

pub returns-in-Err-clause-durable_stopped : goal.returns-in-Err-clause-durable_stopped
returns-in-Err-clause-durable_stopped g c = λ is. made_at_stop (OnlineFacts × ℕ) c.in-Err.fault (g.T.Tapes.rack c.args.tapes) (g.T.Tapes.rack c.rebuild.new.tapes) c.in-Err.ensures.durable is
