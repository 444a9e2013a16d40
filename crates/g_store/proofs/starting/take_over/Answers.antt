-- The dump of the intent is adopted from a rack that is durable.
use Rattle.std.proofs.Common.{Ok}
use Rattle.g_tape.proofs.ReadLemmas.{securing_all_only}
use Rattle.g_store_meaning.proofs.SafeLemmas.{made_safe, safe_then_read}
use Rattle.g_restore.proofs.DurableLemmas.{made_by}
use Rattle.g_store.proofs.TakeLemmas.{takes_secured}
use Rattle.g_store.proofs.starting.take_over.Goals as goal

pub returns-in-Some-intent-clause-takes : goal.returns-in-Some-intent-clause-takes
returns-in-Some-intent-clause-takes g c =
    takes_secured c.args.online.now c.take_named.new.online (g.T.Tapes.rack c.args.tapes.now) (g.T.Tapes.rack c.secure_all.new.tapes) (g.T.Tapes.rack c.take_named.new.tapes)
    c.in-Ok.ensures.secured (securing_all_only _ _ (Ok tt) c.in-Ok.ensures.secured c.in-Ok.ensures.durable.no_more) c.take_named.result c.take_named.ensures

pub returns-in-Some-intent-clause-durable : goal.returns-in-Some-intent-clause-durable
returns-in-Some-intent-clause-durable g c =
    made_by (g.T.Tapes.rack c.args.tapes.now) (g.T.Tapes.rack c.take_named.new.tapes) c.take_named.result
    (safe_then_read (g.T.Tapes.rack c.args.tapes.now) (g.T.Tapes.rack c.secure_all.new.tapes) (g.T.Tapes.rack c.take_named.new.tapes)
    (made_safe (g.T.Tapes.rack c.args.tapes.now) (g.T.Tapes.rack c.secure_all.new.tapes) c.in-Ok.ensures.secured c.in-Ok.ensures.durable) c.take_named.ensures.reads)

pub returns-in-None-clause-durable : goal.returns-in-None-clause-durable
returns-in-None-clause-durable g c = made_safe (g.T.Tapes.rack c.args.tapes.now) (g.T.Tapes.rack c.secure_all.new.tapes) c.in-Ok.ensures.secured c.in-Ok.ensures.durable
