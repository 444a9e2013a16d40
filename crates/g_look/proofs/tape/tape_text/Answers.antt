use Rattle.std.proofs.Common.{Err, ap, arith}
use Rattle.g_look.proofs.CompareLemmas.{not_unmounted, tape_text_is, tape_text_none}
use Rattle.g_look.proofs.ReadLemmas.{blocks_read, far_read}
use Rattle.g_look.proofs.tape.tape_text.Goals as goal

pub returns-in-Ok-text_in-clause-text : goal.returns-in-Ok-text_in-clause-text
returns-in-Ok-text_in-clause-text g c =
    tape_text_is (g.T.Tapes.rack c.args.tapes.now) (g.met.T.Tapes.well_formed _) c.args.copy.now c.args.len _ _ (rw c.blocks_for.ensures at c.in-Ok.ensures.found) (rw c.as_slice.ensures.value at c.in-Ok-text_in.ensures)

pub returns-in-Err-NoTape-clause-text : goal.returns-in-Err-NoTape-clause-text
returns-in-Err-NoTape-clause-text g c =
    tape_text_none (g.T.Tapes.rack c.args.tapes.now) (g.met.T.Tapes.well_formed _) c.args.copy.now c.args.len _ (c.in-Err-NoTape.ensures.reads.no_tape.0 (ap Err c.in-Err-NoTape.field-0-is))

pub returns-clause-text : goal.returns-clause-text
returns-clause-text g c =
    not_unmounted (g.T.Tapes.rack c.args.tapes.now) c.args.copy.now.serial c.requires.mounted (c.in-Err-NotMounted.ensures.reads.not_mounted.0 (ap Err c.in-Err-NotMounted.field-0-is))

pub returns-then-copy-gt65536-clause-read : goal.returns-then-copy-gt65536-clause-read
returns-then-copy-gt65536-clause-read g c = far_read (g.T.Tapes.rack c.args.tapes.now) _ c.args.copy.now c.args.len (g.met.T.Tapes.well_formed _) (omega arith)

pub returns-in-Ok-text_in-clause-read : goal.returns-in-Ok-text_in-clause-read
returns-in-Ok-text_in-clause-read g c =
    blocks_read (g.T.Tapes.rack c.args.tapes.now) _ c.args.copy.now c.args.len _ (g.met.T.Tapes.well_formed _) c.in-Ok.ensures.read (rw c.blocks_for.ensures at c.in-Ok.ensures.fewer)

pub returns-clause-read : goal.returns-clause-read
returns-clause-read g c =
    not_unmounted (g.T.Tapes.rack c.args.tapes.now) c.args.copy.now.serial c.requires.mounted (c.in-Err-NotMounted.ensures.reads.not_mounted.0 (ap Err c.in-Err-NotMounted.field-0-is))
