use Rattle.std.proofs.Common.{Ok, Err, sym, ◌∙◌}
use Rattle.g_files.proofs.FaultLemmas.{fails_so}
use Rattle.g_files.proofs.image.Image.finish.Goals as goal

pub returns-then-is_err-clause-cause : goal.returns-then-is_err-clause-cause
returns-then-is_err-clause-cause g c = fails_so c.flush.result (Err _) _ _ (sym c.is_err.ensures.value ∙ c.if-is_err.true) c.flush.ensures.cause

pub returns-clause-cause : goal.returns-clause-cause
returns-clause-cause g c = fails_so c.flush.result (Ok tt) _ _ (sym c.is_err.ensures.value ∙ c.if-is_err.false) c.flush.ensures.cause
