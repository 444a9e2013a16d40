use Rattle.g_store_meaning.proofs.SafeLemmas.{made_safe, safe_then_read}
use Rattle.g_restore.proofs.DurableLemmas.{if_ok}
use Rattle.g_restore.proofs.dumps.read_durable_rack.Goals as goal

pub returns-in-Ok-clause-durable : goal.returns-in-Ok-clause-durable
returns-in-Ok-clause-durable g c =
    if_ok c.read_rack.result
    (safe_then_read (g.T.Tapes.rack c.args.tapes.now) (g.T.Tapes.rack c.secure_all.new.tapes) (g.T.Tapes.rack c.read_rack.new.tapes)
    (made_safe (g.T.Tapes.rack c.args.tapes.now) (g.T.Tapes.rack c.secure_all.new.tapes) c.in-Ok.ensures.secured c.in-Ok.ensures.durable) c.read_rack.ensures.only)
