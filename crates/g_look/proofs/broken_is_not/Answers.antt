use Rattle.g_look.proofs.BreakLemmas.{broken_is_not}
use Rattle.g_look.proofs.broken_is_not.Goals as goal

pub returns : goal.returns
returns c = record { broken = broken_is_not }
