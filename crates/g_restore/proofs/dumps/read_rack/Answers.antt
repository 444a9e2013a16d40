use Rattle.std.proofs.Common.{◌<◌, Err, ap, arith, inl, inr, length}
use Rattle.g_tape.proofs.ReadLemmas.{more_reads}
use Rattle.g_shelf.proofs.LastLemmas.{only_these}
use Rattle.g_shelf.proofs.RackLemmas.{many_after_reads, none_refused}
use Rattle.g_restore.proofs.ReelLemmas.{all_reels, none_read, one_reel}
use Rattle.g_restore.proofs.dumps.read_rack.Goals as goal

pub serial-serial-requires : goal.serial-serial-requires
serial-serial-requires g c = let many = many_after_reads _ _ c.loop-i.invariant.only in omega arith

pub loop-i-init : goal.loop-i-init
loop-i-init g c = rw c.new-found.ensures.items (none_read _)

pub loop-i-preserved : goal.loop-i-preserved
loop-i-preserved g c =
    let within : c.loop-i.i < length (g.T.Tapes.rack c.args.tapes.now).reels = omega arith in
    one_reel _ _ _ _ _ _ _ (g.met.T.Tapes.well_formed _) c.loop-i.invariant within c.serial-serial.ensures c.in-Ok.ensures.more c.in-Ok.ensures.reads.only
    (c.in-Ok.ensures.reads.kept (λ wrong. let no : ⊥ = cc in no))

pub returns-in-Err-clause-only : goal.returns-in-Err-clause-only
returns-in-Err-clause-only g c = more_reads _ _ _ c.loop-i.invariant.only c.in-Err.ensures.reads.only

pub returns-in-Err-clause-faults : goal.returns-in-Err-clause-faults
returns-in-Err-clause-faults g c =
    let within : c.loop-i.i < length (g.T.Tapes.rack c.args.tapes.now).reels = omega arith in
    let free = none_refused _ _ _ _ (g.met.T.Tapes.well_formed _) c.requires.mounted c.loop-i.invariant.only within c.serial-serial.ensures in
    elim (only_these _ _ _ _ free c.in-Err.ensures.reads) [ inl is ↦ inl (ap Err is) | inr is ↦ inr (ap Err is) ]

pub returns-clause-found : goal.returns-clause-found
returns-clause-found g c = all_reels _ _ _ _ (omega arith) c.loop-i.invariant
