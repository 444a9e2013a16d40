use Rattle.std.proofs.Common.{◌≢◌, ◌+◌, List, Bool, Ok, Err, All, AllPairs, length, subst, sym}
use Rattle.g_base.specs.Block.{blocks_for}
use Rattle.g_blocks.specs.Pool.{HasTaken, IsFree, free_count}
use Rattle.g_online.specs.Unloading.{places_off}
use Rattle.g_online.proofs.CopyLemmas.{Copies}
use Rattle.g_online.proofs.NeedLemmas.{full_done, full_here, full_refused, only_here, ready_few, ready_takes}
use Rattle.g_online.proofs.PoolLemmas.{retaken}
use Rattle.g_online.proofs.put.make_ready.Goals as goal

pub take_blocks-requires : goal.take_blocks-requires
take_blocks-requires c = record { few = ready_few c.args.len c.blocks_for.result c.blocks_for.ensures c.requires.len }

pub returns-in-Ok-clause-ok : goal.returns-in-Ok-clause-ok
returns-in-Ok-clause-ok c =
    ready_takes (places_off c.args.numbers.now c.args.online.now) c.args.len c.blocks_for.result c.args.pool.now c.give_all.new.pool c.take_blocks.new.pool c.in-Ok.copy
    c.give_all.ensures
    c.in-Ok.ensures.least c.in-Ok.ensures.taken c.blocks_for.ensures c.in-Ok.ensures.len

pub returns-in-Ok-clause-full : goal.returns-in-Ok-clause-full
returns-in-Ok-clause-full c =
    full_done c.in-Ok.copy c.in-Ok.copy (blocks_for c.args.len) (free_count c.args.pool.now + length (places_off c.args.numbers.now c.args.online.now))
    (full_here (Ok c.in-Ok.copy) c.blocks_for.result (free_count c.give_all.new.pool) (blocks_for c.args.len) (free_count c.args.pool.now + length (places_off c.args.numbers.now c.args.online.now)) c.blocks_for.ensures
    c.give_all.ensures.count c.in-Ok.ensures.full)

pub retake_all-requires-clause-apart : goal.retake_all-requires-clause-apart
retake_all-requires-clause-apart c = subst (λ (on : Copies). AllPairs (λ j k. j ≢ k) (places_off c.args.numbers.now on)) (sym c.take_blocks.ensures.copies) c.requires.apart

pub retake_all-requires-clause-free : goal.retake_all-requires-clause-free
retake_all-requires-clause-free c =
    subst (λ (p : List Bool). All (IsFree p) (places_off c.args.numbers.now c.take_blocks.new.online)) (sym c.in-Err.ensures.same)
    (subst (λ (on : Copies). All (IsFree c.give_all.new.pool) (places_off c.args.numbers.now on)) (sym c.take_blocks.ensures.copies) c.give_all.ensures.free)

pub returns-in-Err-clause-full : goal.returns-in-Err-clause-full
returns-in-Err-clause-full c =
    full_refused c.in-Err.fault (blocks_for c.args.len) (free_count c.args.pool.now + length (places_off c.args.numbers.now c.args.online.now))
    (full_here (Err c.in-Err.fault) c.blocks_for.result (free_count c.give_all.new.pool) (blocks_for c.args.len) (free_count c.args.pool.now + length (places_off c.args.numbers.now c.args.online.now)) c.blocks_for.ensures
    c.give_all.ensures.count c.in-Err.ensures.full)

pub returns-in-Err-clause-same : goal.returns-in-Err-clause-same
returns-in-Err-clause-same c =
    retaken (places_off c.args.numbers.now c.args.online.now) c.args.pool.now c.give_all.new.pool c.retake_all.new.pool c.requires.taken
    c.give_all.ensures
    (subst (λ (p : List Bool). HasTaken (places_off c.args.numbers.now c.args.online.now) p c.retake_all.new.pool) c.in-Err.ensures.same
    (subst (λ (on : Copies). HasTaken (places_off c.args.numbers.now on) c.take_blocks.new.pool c.retake_all.new.pool) c.take_blocks.ensures.copies c.retake_all.ensures))

pub returns-in-Err-clause-only : goal.returns-in-Err-clause-only
returns-in-Err-clause-only c =
    only_here c.in-Err.fault c.blocks_for.result (free_count c.give_all.new.pool) (blocks_for c.args.len) (free_count c.args.pool.now + length (places_off c.args.numbers.now c.args.online.now)) c.blocks_for.ensures
    c.give_all.ensures.count c.in-Err.ensures.only
