use Rattle.g_plain.specs.declared.calls.StoreCall.TheVariants.{TrapStop}
use Rattle.g_store_calls.proofs.GrantedLemmas.{named_of, there_at}
use Rattle.g_store_calls.proofs.TrapLemmas.{stop_user, trapped_of}
use Rattle.g_store_calls.proofs.setting.closed_file.Goals as goal

pub file_of-old-requires : goal.file_of-old-requires
file_of-old-requires c =
    let (who, path, full, it) = c.requires.granted in
    there_at c.args.tree.now.users c.args.tree.now.files who path c.args.number full it.file

pub number_of_user-user-requires : goal.number_of_user-user-requires
number_of_user-user-requires c =
    let (who, path, full, it) = c.requires.granted in
    stop_user c.args.tree.now.users c.args.tree.now.files it.next who path c.args.user.now c.args.modes c.file_of-old.ensures.records it.allowed

pub returns : goal.returns
returns c = λ who path full it.
    trapped_of c.args.tree.now.users c.args.tree.now.files who path c.args.user.now (TrapStop path c.args.user.now c.args.modes) c.file_of-old.result c.with_traps.result
    full c.number_of_user-user.result c.copy-traps.result c.stop.new.self c.file_of-old.ensures.records
    (named_of c.args.tree.now.users c.args.tree.now.files who path c.args.number full c.file_of-old.result it.file c.file_of-old.ensures.value)
    c.number_of_user-user.ensures.within c.number_of_user-user.ensures.named
    c.copy-traps.ensures c.stop.ensures c.with_traps.ensures.others c.with_traps.ensures.owner c.with_traps.ensures.value
