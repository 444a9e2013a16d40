use Rattle.g_look.proofs.CopyLemmas.{disc_bytes, taped_bytes}
use Rattle.g_look.proofs.showing.file_bytes.Goals as goal

pub returns-in-Ok-Some-clause-bytes : goal.returns-in-Ok-Some-clause-bytes
returns-in-Ok-Some-clause-bytes g c =
    disc_bytes _ (g.T.Tapes.rack c.args.tapes.now) c.args.file.now _ _ (rw c.in-Ok-Some.field-0-is at c.in-Ok-Some.ensures.text) (rw c.in-Ok-Some.field-0-is at c.in-Ok-Some.ensures.long)

pub returns-in-Ok-None-clause-bytes : goal.returns-in-Ok-None-clause-bytes
returns-in-Ok-None-clause-bytes g c =
    taped_bytes (g.D.Disc.state c.args.disc.now).held (g.T.Tapes.rack c.args.tapes.now) c.args.file.now _ _ (rw c.in-Ok-None.field-0-is at c.in-Ok-None.ensures.none) c.taped_text.ensures.bytes

pub returns-in-Ok-None-clause-offline : goal.returns-in-Ok-None-clause-offline
returns-in-Ok-None-clause-offline g c = λ is. rw c.in-Ok-None.field-0-is at c.in-Ok-None.ensures.none
