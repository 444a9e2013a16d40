use Rattle.std.proofs.Common.{◌∙◌, ℕ, subst}
use Rattle.g_base.specs.Counts.{Rose}
use Rattle.g_tape.proofs.ReadLemmas.{more_reads}
use Rattle.g_look.proofs.ReadLemmas.{ok_not_err}
use Rattle.g_twins.proofs.TwinLemmas.{all_mounted_after}
use Rattle.g_look_program.proofs.ReportLemmas.{as_err, check_faults, checked_mid, disc_left_then, err_same, looked_fault, report_failed, report_found, report_own, store_mid}
use Rattle.g_look_program.proofs.against.look_against.Goals as goal

pub returns-in-Err-clause-report : goal.returns-in-Err-clause-report
returns-in-Err-clause-report g c = λ told. report_failed _ _ _ _ _ _ c.tell_check.result _ c.in-Err.fault (check_faults _ c.in-Err.ensures.faults) c.tell_check.ensures

pub returns-in-Err-clause-own : goal.returns-in-Err-clause-own
returns-in-Err-clause-own g c = λ told entries sealed.
    report_own _ _ (g.T.Tapes.rack c.args.tapes.now) c.args.against.twins.now _ _ c.tell_check.result _ (g.met.T.Tapes.well_formed _) told entries sealed (
    report_failed _ _ _ c.args.against.twins.now c.args.against.seal.dumps.items c.args.against.seal.files.items c.tell_check.result _ c.in-Err.fault (check_faults _ c.in-Err.ensures.faults) c.tell_check.ensures)

pub check-requires-clause-mounted : goal.check-requires-clause-mounted
check-requires-clause-mounted g c = all_mounted_after _ _ c.in-Ok.ensures.tapes.only c.requires.mounted

pub returns-in-Ok-check-clause-report : goal.returns-in-Ok-check-clause-report
returns-in-Ok-check-clause-report g c = λ told.
    report_found _ _ _ _ _ _ c.tell_report.result _ c.in-Ok-check.checked c.in-Ok.report
    (checked_mid _ _ c.in-Ok.ensures.disc.held _ _ _ _ c.in-Ok-check.checked c.in-Ok.ensures.disc.size c.in-Ok.ensures.tapes.only.reels told c.in-Ok-check.ensures.right)
    (store_mid _ _ c.in-Ok.ensures.disc.held _ c.in-Ok-check.ensures.filestore) (c.in-Ok.ensures.text told) c.tell_report.ensures

pub returns-clause-report : goal.returns-clause-report
returns-clause-report g c = λ told.
    report_failed _ _ _ _ _ _ c.tell_check-in-Err-check.result _ c.in-Err-check.fault c.in-Err-check.ensures.faults c.tell_check-in-Err-check.ensures

pub returns-in-Ok-check-clause-own : goal.returns-in-Ok-check-clause-own
returns-in-Ok-check-clause-own g c = λ told entries sealed.
    report_own _ _ (g.T.Tapes.rack c.args.tapes.now) c.args.against.twins.now _ _ c.tell_report.result _ (g.met.T.Tapes.well_formed _) told entries sealed (
    report_found _ _ _ _ _ _ c.tell_report.result _ c.in-Ok-check.checked c.in-Ok.report
    (checked_mid _ _ c.in-Ok.ensures.disc.held _ _ _ _ c.in-Ok-check.checked c.in-Ok.ensures.disc.size c.in-Ok.ensures.tapes.only.reels told c.in-Ok-check.ensures.right)
    (store_mid _ _ c.in-Ok.ensures.disc.held _ c.in-Ok-check.ensures.filestore) (c.in-Ok.ensures.text told) c.tell_report.ensures)

pub returns-clause-own : goal.returns-clause-own
returns-clause-own g c = λ told entries sealed.
    report_own _ _ (g.T.Tapes.rack c.args.tapes.now) c.args.against.twins.now _ _ c.tell_check-in-Err-check.result _ (g.met.T.Tapes.well_formed _) told entries sealed (
    report_failed _ _ _ c.args.against.twins.now c.args.against.seal.dumps.items c.args.against.seal.files.items c.tell_check-in-Err-check.result _ c.in-Err-check.fault c.in-Err-check.ensures.faults c.tell_check-in-Err-check.ensures)

pub returns-clause-devices : goal.returns-clause-devices
returns-clause-devices g c =
    let one = c.in-Ok.ensures in
    let two = c.in-Err-check.ensures in
    looked_fault (g.D.Disc.state c.args.disc.now) (g.D.Disc.state c.check.new.disc) (g.T.Tapes.rack c.args.tapes.now) (g.T.Tapes.rack c.check.new.tapes)
    (disc_left_then _ _ _ _ _ one.disc two.disc) (more_reads _ _ _ one.tapes.only two.tapes.only)
    c.in-Err-check.fault c.tell_check-in-Err-check.result _ two.faults
    (λ e. subst (λ (n : ℕ). Rose n (g.D.Disc.state c.check.new.disc).read_faults) (one.disc.kept (ok_not_err _ _)) (two.disc.rose (as_err _ _ e)))
    (λ e. subst (λ (n : ℕ). Rose n (g.T.Tapes.rack c.check.new.tapes).read_faults) (one.tapes.kept (ok_not_err _ _)) (two.tapes.rose (as_err _ _ e)))
    (λ other. two.disc.kept (λ e. other (err_same _ _ e)) ∙ one.disc.kept (ok_not_err _ _))
    (λ other. two.tapes.kept (λ e. other (err_same _ _ e)) ∙ one.tapes.kept (ok_not_err _ _))
    c.tell_check-in-Err-check.ensures
