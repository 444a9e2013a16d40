use Rattle.g_blocks.specs.Pool.{HasGiven, IsTaken}
use Rattle.std.proofs.Common.{All, subst, sym}
use Rattle.g_online.specs.declared.pinned.Pinned.{Pinned}
use Rattle.g_online.specs.DumpedVersions.{HasItsNumber, lost_of}
use Rattle.g_online.proofs.PoolLemmas.{given_none, given_then, next_apart, next_may, one_more, still_taken}
use Rattle.g_online.proofs.pins.free_orphaned_pins.Goals as goal

pub loop-pin-init : goal.loop-pin-init
loop-pin-init c = given_none c.args.pool.now

pub give_one_lost-requires-clause-apart : goal.give_one_lost-requires-clause-apart
give_one_lost-requires-clause-apart c =
    next_apart (lost_of c.args.files.now) c.args.pins.now c.loop-pin.pin-index c.pin-item.result c.loop-pin-test.true (sym c.pin-item.is) c.requires.apart

pub give_one_lost-requires-clause-taken : goal.give_one_lost-requires-clause-taken
give_one_lost-requires-clause-taken c =
    next_may (lost_of c.args.files.now) c.args.pins.now c.loop-pin.pin-index c.pin-item.result c.loop-pin-test.true (sym c.pin-item.is) HasGiven IsTaken still_taken _ _
    c.requires.apart c.loop-pin.invariant c.requires.taken

pub give_one_lost-requires-clause-numbered : goal.give_one_lost-requires-clause-numbered
give_one_lost-requires-clause-numbered c =
    subst (λ (p : Pinned). All (HasItsNumber p) c.args.files.now) (sym c.pin-item.is) (c.requires.numbered c.loop-pin.pin-index c.pin-item.result c.loop-pin-test.true)

pub loop-pin-preserved : goal.loop-pin-preserved
loop-pin-preserved c =
    one_more (lost_of c.args.files.now) c.args.pins.now c.loop-pin.pin-index c.pin-item.result c.loop-pin-test.true (sym c.pin-item.is) HasGiven given_then _ _ _
    c.requires.apart c.loop-pin.invariant c.give_one_lost.ensures
