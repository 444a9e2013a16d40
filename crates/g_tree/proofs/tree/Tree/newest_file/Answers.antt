-- What is known is the newest of the records, and none has a generation above 4,095.
use Rattle.std.proofs.Common.{◌≤◌, sym, ap, subst, ◌∙◌}
use Rattle.g_tree.specs.Answers.{newest_of}
use Rattle.g_tree.specs.Records.{number_of}
use Rattle.g_tree.specs.State.{number_in}
use Rattle.g_tree.proofs.EntryLemmas.{at_generation, indexed_number}
use Rattle.g_tree.proofs.RecordLemmas.{newest_few}
use Rattle.g_tree.proofs.tree.Tree.newest_file.Goals as goal

pub returns-clause-newest : goal.returns-clause-newest
returns-clause-newest c = c.newest.ensures.generation ∙ c.self.invariant.newest c.args.first.now ∙ ap (λ s. newest_of s.users c.args.first.now s.files) c.self.view_is

pub returns-clause-number : goal.returns-clause-number
returns-clause-number c =
    let first = c.args.first.now in
    let entries = c.self.inside.counts.names.entries in
    let full = at_generation first c.newest.result.generation in
    c.newest.ensures.number ∙ c.self.invariant.topped first ∙ ap (λ n. number_in entries (at_generation first n)) (sym c.newest.ensures.generation)
    ∙ indexed_number c.self.inside.users.items c.self.inside.files entries full c.self.invariant.index ∙ ap (λ s. number_of s.users s.files full) c.self.view_is

pub returns-clause-few : goal.returns-clause-few
returns-clause-few c =
    subst (λ n. n ≤ 4095) (sym (c.newest.ensures.generation ∙ c.self.invariant.newest c.args.first.now)) (newest_few c.self.inside.users.items c.self.inside.files c.args.first.now c.self.invariant.records)
