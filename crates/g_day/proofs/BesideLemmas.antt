-- What is at hand with a new disc.
-- serves: crates above
use Rattle.g_job_table.specs.Crew.{CrewState}
use Rattle.g_day.specs.BeginningAnew.{beside_new}
use Rattle.g_day.specs.Parts.{IsReady}
use Rattle.g_day.specs.System.{Down, SystemFacts, Up}

-- it is ready
pub ready_beside : (f : SystemFacts) (c : CrewState) → IsReady f c → IsReady (beside_new f) c
ready_beside (Up s) c ready = ready
ready_beside (Down d) c ready = ready
