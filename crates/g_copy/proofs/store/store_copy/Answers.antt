use Rattle.std.proofs.Common.{sym, ◌∙◌}
use Rattle.g_copy.proofs.Storing.{IsCopy-from_free}
use Rattle.g_copy.proofs.store.store_copy.Goals as goal

pub write_copy-requires-clause-copy : goal.write_copy-requires-clause-copy
write_copy-requires-clause-copy g c =
    IsCopy-from_free c.args.pool.now _ _ c.requires.pool (rw (c.list_of.ensures ∙ c.as_slice.ensures.value, sym c.blocks_for.ensures) c.in_ok-taken.ensures.least)

pub returns-clause-copy : goal.returns-clause-copy
returns-clause-copy g c =
    IsCopy-from_free c.args.pool.now _ _ (c.requires.pool ∙ sym c.in_ok-write_copy.ensures.counts.size) (rw (c.list_of.ensures ∙ c.as_slice.ensures.value, sym c.blocks_for.ensures) c.in_ok-taken.ensures.least)
