use Rattle.g_look.proofs.ReadLemmas.{ok_not_err, rack_reads_then}
use Rattle.g_seal.proofs.header.is_overwritten.Goals as goal

pub returns-in-Ok-false-begins_later-clause-tapes : goal.returns-in-Ok-false-begins_later-clause-tapes
returns-in-Ok-false-begins_later-clause-tapes g c =
    rack_reads_then _ _ _ _ _ _ (ok_not_err _ _) (λ e. e) (λ e. e) c.in-Ok-false.ensures.tapes
    (rack_reads_then _ _ _ _ _ _ (ok_not_err _ _) (λ e. e) (λ e. e) c.in-Ok-false-begins_later.ensures.tapes c.begins_later-in-Ok-false-begins_later.ensures.tapes)
