use Rattle.std.proofs.Common.{◌<◌, ◌≤◌, arith, length}
use Rattle.g_tape.proofs.ReadLemmas.{more_reads}
use Rattle.g_shelf.proofs.RackLemmas.{many_after_reads, none_refused}
use Rattle.g_forks.proofs.HeldLemmas.{all_reels, none_yet, one_reel}
use Rattle.g_forks.proofs.held.dumps_in.Goals as goal

pub serial-serial-requires : goal.serial-serial-requires
serial-serial-requires g c = let many = many_after_reads _ _ c.loop-i.invariant.only in omega arith

pub loop-i-init : goal.loop-i-init
loop-i-init g c = rw c.new-held.ensures.items (none_yet _)

pub add_reel-requires : goal.add_reel-requires
add_reel-requires g c =
    let within : c.loop-i.i < length (g.T.Tapes.rack c.args.tapes.now).reels = omega arith in
    record { mounted = none_refused _ _ _ _ (g.met.T.Tapes.well_formed _) c.requires.mounted c.loop-i.invariant.only within c.serial-serial.ensures }

pub loop-i-preserved : goal.loop-i-preserved
loop-i-preserved g c =
    let within : c.loop-i.i < length (g.T.Tapes.rack c.args.tapes.now).reels = omega arith in
    one_reel _ _ _ _ _ _ _ (g.met.T.Tapes.well_formed _) c.loop-i.invariant within c.serial-serial.ensures c.in-Ok.ensures.only c.in-Ok.ensures.adds

pub returns-in-Err-clause-only : goal.returns-in-Err-clause-only
returns-in-Err-clause-only g c = more_reads _ _ _ c.loop-i.invariant.only c.in-Err.ensures.only

pub returns-clause-all : goal.returns-clause-all
returns-clause-all g c = all_reels _ _ _ _ (omega arith) c.loop-i.invariant
