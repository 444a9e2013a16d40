use Rattle.g_duplex.proofs.FailLemmas.{fails_with_all}
use Rattle.g_duplex.proofs.LoseLemmas.{loses_with_cause}
use Rattle.g_duplex.proofs.laws.who_fails_was_asked.Goals as goal

pub returns-clause-fails : goal.returns-clause-fails
returns-clause-fails c = fails_with_all

pub returns-clause-loses : goal.returns-clause-loses
returns-clause-loses c = loses_with_cause
