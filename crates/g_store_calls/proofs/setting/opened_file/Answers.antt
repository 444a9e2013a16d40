use Rattle.std.proofs.Common.{◌==◌, ◌∙◌, ap, refl, sym}
use Rattle.std.specs.Prelude.{◌&&◌, not}
use Rattle.g_trap.specs.TrapList.{TrapList, is_ninth}
use Rattle.g_plain.specs.declared.calls.StoreCall.TheVariants.{TrapGo}
use Rattle.g_store_calls.proofs.GrantedLemmas.{named_of, there_at}
use Rattle.g_store_calls.proofs.TrapLemmas.{go_user, not_ninth, trapped_of}
use Rattle.g_store_calls.proofs.setting.opened_file.Goals as goal

pub file_of-old-requires : goal.file_of-old-requires
file_of-old-requires c =
    let (who, path, full, it) = c.requires.granted in
    there_at c.args.tree.now.users c.args.tree.now.files who path c.args.number full it.file

pub number_of_user-user-requires : goal.number_of_user-user-requires
number_of_user-user-requires c =
    let (who, path, full, it) = c.requires.granted in
    go_user c.args.tree.now.users c.args.tree.now.files it.next who path c.args.user.now c.args.modes c.file_of-old.ensures.records it.allowed

pub returns : goal.returns
returns c = λ who path full it.
    trapped_of c.args.tree.now.users c.args.tree.now.files who path c.args.user.now (TrapGo path c.args.user.now c.args.modes) c.file_of-old.result c.with_traps.result
    full c.number_of_user-user.result c.copy-traps.result c.go.new.self c.file_of-old.ensures.records
    (named_of c.args.tree.now.users c.args.tree.now.files who path c.args.number full c.file_of-old.result it.file c.file_of-old.ensures.value)
    c.number_of_user-user.ensures.within c.number_of_user-user.ensures.named
    c.copy-traps.ensures c.in-Ok.ensures.ok c.with_traps.ensures.others c.with_traps.ensures.owner c.with_traps.ensures.value

pub unreachable-requires : goal.unreachable-requires
unreachable-requires c =
    let (who, path, full, it) = c.requires.granted in
    not_ninth c.args.tree.now.users c.args.tree.now.files it.next who path c.args.user.now c.args.modes c.file_of-old.ensures.records it.allowed
    c.file_of-old.result full c.number_of_user-user.result
    (named_of c.args.tree.now.users c.args.tree.now.files who path c.args.number full c.file_of-old.result it.file c.file_of-old.ensures.value) c.number_of_user-user.ensures.named
    (ap (λ (t : TrapList). not (c.number_of_user-user.result == c.file_of-old.result.owner) && is_ninth t.others c.number_of_user-user.result c.args.modes) (sym c.copy-traps.ensures) ∙ c.in-Err.ensures.full.0 refl)
