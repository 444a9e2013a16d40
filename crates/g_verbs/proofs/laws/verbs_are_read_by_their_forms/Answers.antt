use Rattle.g_verbs.proofs.ReadLemmas.{one-reading, reading-right}
use Rattle.g_verbs.proofs.laws.verbs_are_read_by_their_forms.Goals as goal

pub returns-clause-reads : goal.returns-clause-reads
returns-clause-reads c = reading-right

pub returns-clause-one : goal.returns-clause-one
returns-clause-one c = one-reading
