use Rattle.std.proofs.Common.{ap, length, refl}
use Rattle.g_store_calls.proofs.AddLemmas.{maker_there, new_user_made}
use Rattle.g_store_calls.proofs.TellLemmas.{user_missing}
use Rattle.g_store_calls.proofs.changing.made_user.Goals as goal

pub unreachable-requires : goal.unreachable-requires
unreachable-requires c =
    user_missing c.args.tree.now.users c.args.tree.now.files c.user_number.result c.args.who.now c.user_number.ensures.there
    (maker_there c.args.tree.now.users c.args.tree.now.files c.requires.granted.0 c.args.who.now c.args.user.now c.args.space c.args.time c.args.money c.users.ensures.records c.requires.granted.1) c.in_default.is

pub returns : goal.returns
returns c =
    new_user_made c.args.tree.now.users c.args.tree.now.files c.requires.granted.0 c.args.who.now c.args.user.now c.args.space c.args.time c.args.money c.users.ensures.records c.requires.granted.1
    c.requires.limits c.as_slice-word.ensures.word _ (ap length c.users.ensures.value) c.copy.ensures c.in-Some.ensures.named.0 c.in-Some.ensures.named.1 refl refl refl
