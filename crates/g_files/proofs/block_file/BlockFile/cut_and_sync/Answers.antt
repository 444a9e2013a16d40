use Rattle.std.proofs.Common.{Err, sym, ◌∙◌}
use Rattle.g_files.proofs.FaultLemmas.{fails_after, fails_so}
use Rattle.g_files.proofs.block_file.BlockFile.cut_and_sync.Goals as goal

pub returns-clause-no_more : goal.returns-clause-no_more
returns-clause-no_more g c = λ left there. c.cut_tail.ensures.no_more left (c.sync_once.ensures.no_more left there)

pub returns-then-is_err-clause-cause : goal.returns-then-is_err-clause-cause
returns-then-is_err-clause-cause g c =
    fails_so c.cut_tail.result (Err _) _ _ (sym c.is_err.ensures.value ∙ c.if-is_err.true) c.cut_tail.ensures.cause

pub returns-clause-cause : goal.returns-clause-cause
returns-clause-cause g c = fails_after c.sync_once.result _ _ _ c.cut_tail.ensures.cause.later c.sync_once.ensures.cause
