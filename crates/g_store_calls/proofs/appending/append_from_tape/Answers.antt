use Rattle.std.proofs.Common.{false, refl}
use Rattle.g_store_calls.proofs.AppendCodeLemmas.{away_put, away_unplanned, away_unread, is_filled, not_bare, records_on}
use Rattle.g_store_calls.proofs.RoomyLemmas.{roomy}
use Rattle.g_store_calls.proofs.appending.append_from_tape.Goals as goal

pub unreachable-requires : goal.unreachable-requires
unreachable-requires g c = not_bare c.args.online.now c.requires.live c.requires.tied c.args.file c.requires.away c.in_default.is

pub read_copy-requires-clause-records : goal.read_copy-requires-clause-records
read_copy-requires-clause-records g c = records_on c.args.online.now c.requires.live c.requires.tied c.tree.result.now.users c.tree.result.now.files c.tree.ensures.users c.tree.ensures.files

pub read_copy-requires-clause-filled : goal.read_copy-requires-clause-filled
read_copy-requires-clause-filled g c = is_filled c.args.online.now c.requires.live c.requires.tied c.args.file c.requires.away c.in-Some.copy c.in-Some.is

pub returns-in-Err : goal.returns-in-Err
returns-in-Err g c =
    away_unread c.args.online.now c.requires.live c.requires.tied c.args.file false c.requires.away c.args.bytes.now c.args.bytes.now _ refl refl refl
    c.tree.result.now.users c.tree.result.now.files c.tree.ensures.users c.tree.ensures.files c.in-Some.copy c.in-Some.is _ _ c.in-Err.fault c.in-Err.ensures

pub returns-in-Err-plan_for : goal.returns-in-Err-plan_for
returns-in-Err-plan_for g c =
    away_unplanned c.args.online.now c.requires.live c.requires.tied c.args.file false c.requires.away c.args.bytes.now c.as_slice.result.now c.blocks_for-need.result c.blocks_for-need.ensures c.as_slice.ensures refl
    c.tree.result.now.users c.tree.result.now.files c.tree.ensures.users c.tree.ensures.files c.in-Some.copy c.in-Some.is _ _ c.in-Ok.old c.in-Ok.ensures c.in-Err-plan_for.fault c.in-Err-plan_for.ensures.planned

pub put_behind-requires-clause-roomy : goal.put_behind-requires-clause-roomy
put_behind-requires-clause-roomy g c =
    roomy c.args.online.now c.args.online.now c.in-Ok-plan_for.plan.take c.blocks_for-need.result c.in-Ok-plan_for.plan.room c.args.file.len c.args.bytes.now c.as_slice.result.now c.blocks_for-need.ensures c.as_slice.ensures
    c.in-Ok-plan_for.ensures.without c.in-Ok-plan_for.ensures.planned.1 refl refl

pub returns : goal.returns
returns g c =
    away_put c.args.online.now c.requires.live c.requires.tied c.args.file false c.requires.away c.args.bytes.now c.as_slice.result.now c.blocks_for-need.result c.blocks_for-need.ensures c.as_slice.ensures refl
    c.tree.result.now.users c.tree.result.now.files c.tree.ensures.users c.tree.ensures.files c.in-Some.copy c.in-Some.is _ _ c.in-Ok.old c.in-Ok.ensures
    c.put_behind.new.online c.in-Ok-plan_for.plan c.in-Ok-plan_for.ensures.planned c.put_behind.result c.put_behind.ensures
