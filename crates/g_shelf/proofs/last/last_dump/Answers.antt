use Rattle.std.proofs.Common.{◌<◌, Err, ap, arith, inl, inr, length}
use Rattle.g_shelf.proofs.LastLemmas.{last_of_all, none_of, one_more_reel, only_these, some_of}
use Rattle.g_shelf.proofs.RackLemmas.{many_after_reads, none_refused}
use Rattle.g_shelf.proofs.last.last_dump.Goals as goal

pub serial-serial-requires : goal.serial-serial-requires
serial-serial-requires g c = let many = many_after_reads _ _ c.loop-i.invariant.only in omega arith

pub loop-i-preserved : goal.loop-i-preserved
loop-i-preserved g c =
    let (dumps, read, notes_are) = c.in-Ok.ensures.found in
    let within : c.loop-i.i < length (g.T.Tapes.rack c.args.tapes.now).reels = omega arith in
    rw c.later-last.ensures (one_more_reel _ _ _ _ _ _ dumps _ _ _ (g.met.T.Tapes.well_formed _) c.loop-i.invariant within c.serial-serial.ensures read c.in-Ok.ensures.reads.only
    (c.in-Ok.ensures.reads.kept (λ wrong. let no : ⊥ = cc in no)) notes_are c.deref.ensures.value c.last.ensures.value)

pub returns-in-Err-clause-faults : goal.returns-in-Err-clause-faults
returns-in-Err-clause-faults g c =
    let within : c.loop-i.i < length (g.T.Tapes.rack c.args.tapes.now).reels = omega arith in
    let free = none_refused _ _ _ _ (g.met.T.Tapes.well_formed _) c.requires.mounted c.loop-i.invariant.only within c.serial-serial.ensures in
    elim (only_these _ _ _ _ free c.in-Err.ensures.reads) [ inl is ↦ inl (ap Err is) | inr is ↦ inr (ap Err is) ]

pub returns-clause-some : goal.returns-clause-some
returns-clause-some g c = some_of _ _ (last_of_all _ _ _ _ (omega arith) c.loop-i.invariant)

pub returns-clause-none : goal.returns-clause-none
returns-clause-none g c = none_of _ _ (last_of_all _ _ _ _ (omega arith) c.loop-i.invariant)
