use Rattle.g_store_calls.proofs.TellLemmas.{all_there, lengths_of}
use Rattle.g_store_calls.proofs.telling.listing.Goals as goal

pub rows_of-requires : goal.rows_of-requires
rows_of-requires c = record { there = rw c.as_slice.ensures (all_there c.args.tree.now.users c.args.tree.now.files c.users-users.ensures.records _ c.in-Ok.numbers c.in-Ok.ensures) }

pub returns : goal.returns
returns c =
    lengths_of c.args.tree.now.users c.args.tree.now.files c.users-users.ensures.records c.rows_of.result c.in-Ok.numbers _ c.args.user.now (rw c.as_slice.ensures at c.rows_of.ensures) c.in-Ok.ensures
    c.number_of_user-owner.ensures.named
