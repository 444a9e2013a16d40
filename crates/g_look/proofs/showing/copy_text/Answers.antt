use Rattle.std.proofs.Common.{Err, ap}
use Rattle.g_retrieve.proofs.TextLemmas.{ok_mounted}
use Rattle.g_look.proofs.CopyLemmas.{held_at, held_nowhere, no_tape, not_mounted}
use Rattle.g_look.proofs.showing.copy_text.Goals as goal

pub returns-in-Ok-Some-clause-bytes : goal.returns-in-Ok-Some-clause-bytes
returns-in-Ok-Some-clause-bytes g c =
    held_at (g.T.Tapes.rack c.args.tapes.now) c.args.copy.now c.args.len c.in-Ok-Some.text (g.met.T.Tapes.well_formed _) (ok_mounted _ _ _ _ c.in-Ok-Some.ensures.reads)
    (rw c.in-Ok-Some.field-0-is at c.in-Ok-Some.ensures.len) (rw c.in-Ok-Some.field-0-is at c.in-Ok-Some.ensures.some)

pub returns-in-Ok-None-clause-lost : goal.returns-in-Ok-None-clause-lost
returns-in-Ok-None-clause-lost g c = λ is mounted.
    held_nowhere (g.T.Tapes.rack c.args.tapes.now) c.args.copy.now c.args.len (g.met.T.Tapes.well_formed _) (rw c.in-Ok-None.field-0-is at c.in-Ok-None.ensures.none)

pub returns-in-Err-NoTape-clause-lost : goal.returns-in-Err-NoTape-clause-lost
returns-in-Err-NoTape-clause-lost g c = λ is mounted.
    no_tape (g.T.Tapes.rack c.args.tapes.now) c.args.copy.now c.args.len (c.in-Err-NoTape.ensures.reads.no_tape.0 (ap Err c.in-Err-NoTape.field-0-is))

pub returns-in-Err-NotMounted-clause-lost : goal.returns-in-Err-NotMounted-clause-lost
returns-in-Err-NotMounted-clause-lost g c = λ is mounted.
    not_mounted (g.T.Tapes.rack c.args.tapes.now) c.args.copy.now c.args.len (c.in-Err-NotMounted.ensures.reads.not_mounted.0 (ap Err c.in-Err-NotMounted.field-0-is)) mounted
