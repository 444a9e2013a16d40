-- The newest version is recorded under the name of generation 1.
use Rattle.std.proofs.Common.{sym, ap, ◌∙◌}
use Rattle.g_tree.specs.State.{newest_at, top_at}
use Rattle.g_tree.proofs.EntryLemmas.{newest_under, top_under}
use Rattle.g_tree.proofs.counts.Counts.newest.Goals as goal

pub returns-in-Some-clause-generation : goal.returns-in-Some-clause-generation
returns-in-Some-clause-generation c = ap (λ o. newest_at o) (sym c.in-Some.is ∙ c.find.ensures) ∙ sym (newest_under c.args.self.now.names.entries c.args.first.now c.requires)

pub returns-in-Some-clause-number : goal.returns-in-Some-clause-number
returns-in-Some-clause-number c = ap (λ o. top_at o) (sym c.in-Some.is ∙ c.find.ensures) ∙ sym (top_under c.args.self.now.names.entries c.args.first.now c.requires)

pub returns-in-None-clause-generation : goal.returns-in-None-clause-generation
returns-in-None-clause-generation c = ap (λ o. newest_at o) (sym c.in-None.is ∙ c.find.ensures) ∙ sym (newest_under c.args.self.now.names.entries c.args.first.now c.requires)

pub returns-in-None-clause-number : goal.returns-in-None-clause-number
returns-in-None-clause-number c = ap (λ o. top_at o) (sym c.in-None.is ∙ c.find.ensures) ∙ sym (top_under c.args.self.now.names.entries c.args.first.now c.requires)
