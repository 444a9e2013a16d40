use Rattle.std.proofs.Common.{◌∙◌}
use Rattle.g_run.proofs.demo.zero_disc.Goals as goal

pub returns-in-Ok : goal.returns-in-Ok
returns-in-Ok c = c.in-Ok.ensures.ok ∙ c.in_ok-disc.ensures
