-- The rules hold initially, and each call preserves them.
use Rattle.g_plain.proofs.StepKept.{formatted_kept, step_kept}
use Rattle.g_plain.proofs.laws.plain_step_keeps_rules.Goals as goal

pub returns : goal.returns
returns c = record { first = formatted_kept; step = step_kept }
