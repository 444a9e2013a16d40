-- If other versions are left, the name remains without a number.
use Rattle.std.proofs.Common.{ap, ◌∙◌}
use Rattle.g_tree.specs.State.{newest_in, number_in, top_in}
use Rattle.g_tree.proofs.EntryLemmas.{newest_closed, numbers_closed, top_closed}
use Rattle.g_tree.proofs.counts.Counts.take_first.Goals as goal

pub returns-clause-numbers : goal.returns-clause-numbers
returns-clause-numbers c = λ q. ap (λ m. number_in m q) c.close.ensures.entries ∙ numbers_closed c.args.self.now.names.entries c.args.full.now c.requires q

pub returns-clause-newest : goal.returns-clause-newest
returns-clause-newest c = λ q. ap (λ m. newest_in m q) c.close.ensures.entries ∙ newest_closed c.args.self.now.names.entries c.args.full.now c.requires q

pub returns-clause-top : goal.returns-clause-top
returns-clause-top c = λ q. ap (λ m. top_in m q) c.close.ensures.entries ∙ top_closed c.args.self.now.names.entries c.args.full.now c.requires q
