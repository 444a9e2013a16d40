use Rattle.g_slots.proofs.OneWrite.{on_err, prepared, kept_current, torn}
use Rattle.g_slots.proofs.slots.Slots.prepare.Goals as goal

pub returns-clause-ok : goal.returns-clause-ok
returns-clause-ok g c = prepared _ _ _ _ _ _ (cc) c.requires.place c.in_ok-write.ensures.block

pub returns-in_err-write-clause-stopped : goal.returns-in_err-write-clause-stopped
returns-in_err-write-clause-stopped g c = on_err _ (kept_current _ _ _ c.in_err-write.ensures.torn.0 _ _ (cc) c.requires.place c.in_err-write.ensures.torn.2)

pub returns-in_err-write-clause-torn : goal.returns-in_err-write-clause-torn
returns-in_err-write-clause-torn g c =
    on_err _ (torn _ _ _ c.in_err-write.ensures.torn.0 _ _ (cc) c.requires.place c.in_err-write.ensures.torn.1 c.in_err-write.ensures.torn.2)
