use Rattle.g_slots.proofs.OneWrite.{slot-read}
use Rattle.g_slots.proofs.slots.Slots.read.Goals as goal

pub returns-clause-ok : goal.returns-clause-ok
returns-clause-ok g c = λ blocks told. slot-read _ _ _ blocks _ (cc) c.requires.place (c.in_ok-read.ensures.block blocks told)
