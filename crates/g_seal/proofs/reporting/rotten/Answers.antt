use Rattle.g_tape.proofs.ReadLemmas.{nothing_read}
use Rattle.g_look.proofs.CheckedLemmas.{mounted_told}
use Rattle.g_look.proofs.ReadLemmas.{ok_not_err, rack_reads_then, same_fault}
use Rattle.g_seal.proofs.OwnLemmas.{own_report}
use Rattle.g_seal.proofs.OwnTextLemmas.{own_is_quiet}
use Rattle.g_seal.proofs.ReportLemmas.{report_at}
use Rattle.g_seal.proofs.reporting.rotten.Goals as goal

pub rotten_dumps-requires : goal.rotten_dumps-requires
rotten_dumps-requires g c = record { mounted = mounted_told (g.T.Tapes.rack c.args.tapes.now) (g.T.Tapes.rack c.args.tapes.now) (nothing_read (g.T.Tapes.rack c.args.tapes.now)) c.requires.mounted }

pub push_rotten_held-requires-clause-mounted : goal.push_rotten_held-requires-clause-mounted
push_rotten_held-requires-clause-mounted g c = mounted_told (g.T.Tapes.rack c.args.tapes.now) _ c.in-Ok-rotten_dumps.ensures.tapes.only c.requires.mounted

pub returns-in-Ok-push_rotten_held-clause-text : goal.returns-in-Ok-push_rotten_held-clause-text
returns-in-Ok-push_rotten_held-clause-text g c = λ told.
    rw c.fitted.ensures (report_at _ (g.D.Disc.state c.args.disc.now) (g.D.Disc.state c.see_disc.new.disc) (g.T.Tapes.rack c.args.tapes.now) (g.T.Tapes.rack c.rotten_dumps.new.tapes) c.args.twins.now _ c.args.seal.now.dumps.items c.in-Ok-rotten_dumps.rotten.items _ _ _
    c.args.seal.now.files.items _ _ _ _ c.as_slice.ensures.value c.as_slice-2.ensures.value c.as_slice-3.ensures.value c.as_slice-4.ensures.value told c.in-Ok-rotten_dumps.ensures.tapes.only.reels c.in-Ok.ensures.reads.held
    c.in-Ok.ensures.standing c.new-text.ensures c.in-Ok-rotten_dumps.ensures.rotten c.in-Ok-push_rotten_dumps.ensures.text c.in-Ok-push_rotten_held.ensures.text)

pub returns-in-Ok-push_rotten_held-clause-unchanged : goal.returns-in-Ok-push_rotten_held-clause-unchanged
returns-in-Ok-push_rotten_held-clause-unchanged g c = λ told sealing.
    rw c.fitted.ensures (own_report _ _ c.args.twins.now _ _ _ (
    report_at _ (g.D.Disc.state c.args.disc.now) (g.D.Disc.state c.see_disc.new.disc) (g.T.Tapes.rack c.args.tapes.now) (g.T.Tapes.rack c.rotten_dumps.new.tapes) c.args.twins.now _ c.args.seal.now.dumps.items c.in-Ok-rotten_dumps.rotten.items _ _ _
    c.args.seal.now.files.items _ _ _ _ c.as_slice.ensures.value c.as_slice-2.ensures.value c.as_slice-3.ensures.value c.as_slice-4.ensures.value told c.in-Ok-rotten_dumps.ensures.tapes.only.reels c.in-Ok.ensures.reads.held
    c.in-Ok.ensures.standing c.new-text.ensures c.in-Ok-rotten_dumps.ensures.rotten c.in-Ok-push_rotten_dumps.ensures.text c.in-Ok-push_rotten_held.ensures.text) sealing)

pub returns-in-Ok-push_rotten_held-clause-own : goal.returns-in-Ok-push_rotten_held-clause-own
returns-in-Ok-push_rotten_held-clause-own g c = λ told entries sealed.
    rw c.fitted.ensures (own_is_quiet (g.D.Disc.state c.args.disc.now).held (g.T.Tapes.rack c.args.tapes.now) c.args.twins.now c.args.seal.now.dumps.items c.args.seal.now.files.items _ (g.met.T.Tapes.well_formed _) told entries sealed (
    report_at _ (g.D.Disc.state c.args.disc.now) (g.D.Disc.state c.see_disc.new.disc) (g.T.Tapes.rack c.args.tapes.now) (g.T.Tapes.rack c.rotten_dumps.new.tapes) c.args.twins.now _ c.args.seal.now.dumps.items c.in-Ok-rotten_dumps.rotten.items _ _ _
    c.args.seal.now.files.items _ _ _ _ c.as_slice.ensures.value c.as_slice-2.ensures.value c.as_slice-3.ensures.value c.as_slice-4.ensures.value told c.in-Ok-rotten_dumps.ensures.tapes.only.reels c.in-Ok.ensures.reads.held
    c.in-Ok.ensures.standing c.new-text.ensures c.in-Ok-rotten_dumps.ensures.rotten c.in-Ok-push_rotten_dumps.ensures.text c.in-Ok-push_rotten_held.ensures.text))

pub returns-clause-tapes : goal.returns-clause-tapes
returns-clause-tapes g c =
    rack_reads_then _ _ _ _ _ _ (ok_not_err _ _) (same_fault _ _) (same_fault _ _) c.in-Ok-rotten_dumps.ensures.tapes c.in-Err-push_rotten_held.ensures.tapes
