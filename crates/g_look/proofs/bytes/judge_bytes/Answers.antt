use Rattle.g_look.proofs.ReadLemmas.{all_read}
use Rattle.g_look.proofs.bytes.judge_bytes.Goals as goal

pub returns-in-Ok-clause-read : goal.returns-in-Ok-clause-read
returns-in-Ok-clause-read g c =
    all_read _ _ _ _ _ c.in-Ok-None.ensures.tapes.only c.in-Ok.ensures.tapes.only (rw c.in-Ok-None.field-0-is at c.in-Ok-None.ensures.read) (rw c.as_slice.ensures.value at c.in-Ok.ensures.read)
