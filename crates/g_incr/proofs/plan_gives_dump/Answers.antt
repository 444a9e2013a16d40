use Rattle.g_incr.proofs.PlanLemmas.{plan_gives_dump}
use Rattle.g_incr.proofs.plan_gives_dump.Goals as goal

-- src/lib.rt:7:1
pub returns : goal.returns
returns c = record { dump = plan_gives_dump }
