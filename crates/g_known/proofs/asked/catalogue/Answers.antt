use Rattle.std.proofs.Common.{◌<◌, ◌∙◌, Err, ap, arith, inl, inr, length, refl}
use Rattle.std.proofs.lemmas.Result.{err_from_is_err_and}
use Rattle.g_tape.proofs.ReadLemmas.{more_reads}
use Rattle.g_shelf.proofs.LastLemmas.{only_these}
use Rattle.g_shelf.proofs.RackLemmas.{many_after_reads, none_refused}
use Rattle.g_known.proofs.KnownLemmas.{all_listed, none_listed, one_listed}
use Rattle.g_known.proofs.asked.catalogue.Goals as goal

pub serial-serial-requires : goal.serial-serial-requires
serial-serial-requires g c = let many = many_after_reads _ _ c.loop-i.invariant.only in omega arith

pub loop-i-init : goal.loop-i-init
loop-i-init g c = rw c.new-lists.ensures.items (none_listed _)

pub loop-i-preserved : goal.loop-i-preserved
loop-i-preserved g c =
    let within : c.loop-i.i < length (g.T.Tapes.rack c.args.tapes.now).reels = omega arith in
    one_listed _ _ _ _ _ _ _ (g.met.T.Tapes.well_formed _) c.loop-i.invariant within c.serial-serial.ensures c.in_ok-notes.ensures.noted c.in_ok-notes.ensures.reads.only
    (c.in_ok-notes.ensures.reads.kept (λ wrong. let no : ⊥ = cc in no)) c.in-Ok.ensures.items

pub returns-in-Err-clause-only : goal.returns-in-Err-clause-only
returns-in-Err-clause-only g c = more_reads _ _ _ c.loop-i.invariant.only c.in_ok-notes.ensures.reads.only

pub returns-in_err-notes-clause-faults : goal.returns-in_err-notes-clause-faults
returns-in_err-notes-clause-faults g c =
    let within : c.loop-i.i < length (g.T.Tapes.rack c.args.tapes.now).reels = omega arith in
    let free = none_refused _ _ _ _ (g.met.T.Tapes.well_formed _) c.requires.mounted c.loop-i.invariant.only within c.serial-serial.ensures in
    let (fault, is, same) = err_from_is_err_and c.from_residual.result c.from_residual.ensures.1 in
    rw is (elim (only_these _ _ _ _ free c.in_err-notes.ensures.reads) [ inl read ↦ inl (cc) | inr memory ↦ inr (cc) ])

pub returns-clause-lists : goal.returns-clause-lists
returns-clause-lists g c = all_listed _ _ _ _ (omega arith) c.loop-i.invariant
