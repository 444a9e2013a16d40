use Rattle.g_look.proofs.OutlookLemmas.{knows_by_head}
use Rattle.g_look.proofs.outlook.last_known.Goals as goal

pub returns-in-Ok-read-clause-known : goal.returns-in-Ok-read-clause-known
returns-in-Ok-read-clause-known g c = knows_by_head _ _ _ _ _ c.in-Ok.ensures.counts.held c.in-Ok.ensures.ok c.in-Ok-read.ensures.ok c.last_in.ensures.head c.last_in.ensures.none
