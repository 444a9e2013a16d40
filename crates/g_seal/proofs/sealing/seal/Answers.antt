use Rattle.g_tape.proofs.ReadLemmas.{more_reads}
use Rattle.g_look.proofs.CheckedLemmas.{holds_filestore, mounted_told}
use Rattle.g_look.proofs.ReadLemmas.{ok_not_err, rack_reads_then, same_fault}
use Rattle.g_seal.proofs.SealLemmas.{disc_then, from_sealed, lost_at, sealed_at}
use Rattle.g_seal.proofs.sealing.seal.Goals as goal

pub push_dumps-requires : goal.push_dumps-requires
push_dumps-requires g c = record { mounted = mounted_told (g.T.Tapes.rack c.args.tapes.now) _ c.in-Ok.ensures.tapes.only c.requires.mounted }

pub push_held-requires-clause-mounted : goal.push_held-requires-clause-mounted
push_held-requires-clause-mounted g c =
    mounted_told (g.T.Tapes.rack c.args.tapes.now) _ (more_reads _ _ _ c.in-Ok.ensures.tapes.only c.in-Ok-push_dumps.ensures.tapes.only) c.requires.mounted

pub returns-in-Err-push_held-clause-no_copy : goal.returns-in-Err-push_held-clause-no_copy
returns-in-Err-push_held-clause-no_copy g c = λ is.
    lost_at _ (g.D.Disc.state c.args.disc.now) (g.T.Tapes.rack c.args.tapes.now) (g.T.Tapes.rack c.see_rack.new.tapes) (g.T.Tapes.rack c.push_dumps.new.tapes) _ c.in-Ok-see_disc.ensures.standing c.in-Ok.ensures.tapes.only.reels c.in-Ok-push_dumps.ensures.tapes.only.reels
    (c.in-Err-push_held.ensures.no_copy (from_sealed _ _ is))

pub returns-in-Err-push_held-clause-disc : goal.returns-in-Err-push_held-clause-disc
returns-in-Err-push_held-clause-disc g c = disc_then _ _ _ _ (ok_not_err _ _) c.in-Ok-see_disc.ensures.reads c.in-Err-push_held.ensures.disc

pub returns-in-Ok-push_seal-clause-text : goal.returns-in-Ok-push_seal-clause-text
returns-in-Ok-push_seal-clause-text g c = λ told.
    sealed_at _ (g.D.Disc.state c.args.disc.now) (g.D.Disc.state c.see_disc.new.disc) (g.T.Tapes.rack c.args.tapes.now) (g.T.Tapes.rack c.see_rack.new.tapes) (g.T.Tapes.rack c.push_dumps.new.tapes) _ _ _ _ _ _ _ told c.in-Ok.ensures.seen c.in-Ok.ensures.tapes.only.reels c.in-Ok-see_disc.ensures.reads.held c.in-Ok-see_disc.ensures.standing
    c.as_slice.ensures.value c.in-Ok-text_for.ensures c.in-Ok-push_dumps.ensures.text c.in-Ok-push_dumps.ensures.tapes.only.reels c.in-Ok-push_held.ensures.text c.in-Ok-push_seal.ensures

pub returns-in-Ok-push_seal-clause-filestore : goal.returns-in-Ok-push_seal-clause-filestore
returns-in-Ok-push_seal-clause-filestore g c = λ blocks told. rw c.is_some.ensures (holds_filestore _ _ _ blocks c.in-Ok-see_disc.ensures.standing told)

pub returns-in-Err-push_held-clause-tapes : goal.returns-in-Err-push_held-clause-tapes
returns-in-Err-push_held-clause-tapes g c =
    rack_reads_then _ _ _ _ _ _ (ok_not_err _ _) (same_fault _ _) (same_fault _ _) c.in-Ok.ensures.tapes
    (rack_reads_then _ _ _ _ _ _ (ok_not_err _ _) (λ e. e) (λ e. e) c.in-Ok-push_dumps.ensures.tapes c.in-Err-push_held.ensures.tapes)

pub returns-in-Ok-push_seal-clause-tapes : goal.returns-in-Ok-push_seal-clause-tapes
returns-in-Ok-push_seal-clause-tapes g c =
    rack_reads_then _ _ _ _ _ _ (ok_not_err _ _) (λ e. absurd (ok_not_err _ _ e)) (λ e. absurd (ok_not_err _ _ e)) c.in-Ok.ensures.tapes
    (rack_reads_then _ _ _ _ _ _ (ok_not_err _ _) (λ e. e) (λ e. e) c.in-Ok-push_dumps.ensures.tapes c.in-Ok-push_held.ensures.tapes)

pub returns-clause-tapes : goal.returns-clause-tapes
returns-clause-tapes g c =
    rack_reads_then _ _ _ _ _ _ (ok_not_err _ _) (λ e. let no : ⊥ = cc in absurd no) (λ e. absurd (ok_not_err _ _ e)) c.in-Ok.ensures.tapes
    (rack_reads_then _ _ _ _ _ _ (ok_not_err _ _) (λ e. e) (λ e. e) c.in-Ok-push_dumps.ensures.tapes c.in-Ok-push_held.ensures.tapes)
