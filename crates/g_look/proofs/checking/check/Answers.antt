use Rattle.std.proofs.Common.{◌∙◌}
use Rattle.g_look.proofs.CheckedLemmas.{checked_at, holds_filestore, mounted_told}
use Rattle.g_look.proofs.NamedLemmas.{checked_read}
use Rattle.g_look.proofs.ReadLemmas.{ok_not_err, rack_reads_then, same_fault}
use Rattle.g_look.proofs.checking.check.Goals as goal

pub judge-requires-clause-mounted : goal.judge-requires-clause-mounted
judge-requires-clause-mounted g c = mounted_told (g.T.Tapes.rack c.args.tapes.now) _ c.in-Ok.ensures.tapes.only c.requires.mounted

pub returns-in-Ok-check_text-clause-right : goal.returns-in-Ok-check_text-clause-right
returns-in-Ok-check_text-clause-right g c =
    checked_at _ _ _ _ _ _ _ _ _ _ _ _ _ _ _ (c.size-size.ensures.size ∙ c.in-Ok-judge.ensures.disc.size ∙ c.in-Ok-see_disc.ensures.reads.size) c.in-Ok-see_disc.ensures.reads.held
    c.in-Ok.ensures.tapes.only.reels c.in-Ok-judge.ensures.tapes.only.reels c.as_slice.ensures.value c.as_slice-2.ensures.value c.as_slice-3.ensures.value c.in-Ok.ensures.seen c.in-Ok-see_disc.ensures.standing
    c.in-Ok-judge.ensures.right c.in-Ok-missing.ensures c.in-Ok-check_text.ensures

pub returns-in-Ok-check_text-clause-filestore : goal.returns-in-Ok-check_text-clause-filestore
returns-in-Ok-check_text-clause-filestore g c = λ blocks told. rw c.is_some.ensures (holds_filestore _ _ _ blocks c.in-Ok-see_disc.ensures.standing told)

pub returns-in-Ok-check_text-clause-read : goal.returns-in-Ok-check_text-clause-read
returns-in-Ok-check_text-clause-read g c =
    checked_read _ _ (g.T.Tapes.rack c.args.tapes.now) _ _ _ _ _ c.in-Ok-see_disc.ensures.reads.held c.in-Ok.ensures.tapes.only c.as_slice.ensures.value c.in-Ok.ensures.seen c.in-Ok-judge.ensures.read

pub returns-in-Err-judge-clause-tapes : goal.returns-in-Err-judge-clause-tapes
returns-in-Err-judge-clause-tapes g c =
    rack_reads_then _ _ _ (g.T.Tapes.rack c.args.tapes.now) _ _ (ok_not_err _ _) (same_fault _ _) (same_fault _ _) c.in-Ok.ensures.tapes c.in-Err-judge.ensures.tapes

pub returns-in-Err-missing-clause-tapes : goal.returns-in-Err-missing-clause-tapes
returns-in-Err-missing-clause-tapes g c =
    rack_reads_then _ _ _ (g.T.Tapes.rack c.args.tapes.now) _ _ (ok_not_err _ _) (λ e. let no : ⊥ = cc in absurd no) (λ e. absurd (ok_not_err _ _ e)) c.in-Ok.ensures.tapes c.in-Ok-judge.ensures.tapes

pub returns-clause-tapes : goal.returns-clause-tapes
returns-clause-tapes g c =
    rack_reads_then _ _ _ (g.T.Tapes.rack c.args.tapes.now) _ _ (ok_not_err _ _) (λ e. let no : ⊥ = cc in absurd no) (λ e. absurd (ok_not_err _ _ e)) c.in-Ok.ensures.tapes c.in-Ok-judge.ensures.tapes
