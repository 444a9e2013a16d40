use Rattle.g_store_model.proofs.EventLemmas.{granted_is_done, refuses_plainly}
use Rattle.g_store_model.proofs.refusals_are_plain.Goals as goal

-- src/lib.rt:20:1
pub returns-clause-only : goal.returns-clause-only
returns-clause-only c = refuses_plainly

-- src/lib.rt:20:1
pub returns-clause-complete : goal.returns-clause-complete
returns-clause-complete c = granted_is_done
