use Rattle.g_store_calls.proofs.TellLemmas.{user_missing}
use Rattle.g_store_calls.proofs.telling.number_of_user.Goals as goal

pub unreachable-requires : goal.unreachable-requires
unreachable-requires c = user_missing c.args.tree.now.users c.args.tree.now.files c.user_number.result c.args.user.now c.user_number.ensures.there c.requires c.in-None.is
