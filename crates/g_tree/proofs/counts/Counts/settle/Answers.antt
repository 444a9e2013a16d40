-- An entry without any data is removed; the numbers of the others are unchanged.
use Rattle.std.proofs.Common.{cond, sym, ap, ◌∙◌}
use Rattle.g_plain.specs.PlainTree.{is_version_of}
use Rattle.g_tree.specs.State.{newest_in, number_in, top_in}
use Rattle.g_tree.proofs.EntryLemmas.{first_gone, newest_settled, numbers_left, numbers_settled, top_removed, top_settled}
use Rattle.g_tree.proofs.counts.Counts.settle.Goals as goal

pub returns-then-newest-eq0-clause-numbers : goal.returns-then-newest-eq0-clause-numbers
returns-then-newest-eq0-clause-numbers c = λ q.
    ap (λ m. number_in m q) c.remove.ensures.entries ∙ numbers_left c.args.self.now.names.entries c.args.first.now (c.requires.none c.if-newest-eq0.true) q

pub returns-then-newest-eq0-clause-newest : goal.returns-then-newest-eq0-clause-newest
returns-then-newest-eq0-clause-newest c = first_gone c.args.self.now.names.entries c.remove.new.self.entries c.args.first.now c.args.newest.generation c.requires.first c.remove.ensures.entries (sym c.if-newest-eq0.true)

pub returns-else-newest-eq0-clause-numbers : goal.returns-else-newest-eq0-clause-numbers
returns-else-newest-eq0-clause-numbers c = λ q. ap (λ m. number_in m q) c.settle.ensures.entries ∙ numbers_settled c.args.self.now.names.entries c.args.first.now c.args.newest.generation c.args.newest.number q

pub returns-else-newest-eq0-clause-newest : goal.returns-else-newest-eq0-clause-newest
returns-else-newest-eq0-clause-newest c = λ q.
    ap (λ m. newest_in m q) c.settle.ensures.entries ∙ newest_settled c.args.self.now.names.entries c.args.first.now c.args.newest.generation c.args.newest.number c.requires.first c.requires.there q

pub returns-then-newest-eq0-clause-top : goal.returns-then-newest-eq0-clause-top
returns-then-newest-eq0-clause-top c = λ q.
    let old = c.args.self.now.names.entries in
    let first = c.args.first.now in
    ap (λ m. top_in m q) c.remove.ensures.entries ∙ top_removed old first c.requires.first q ∙ ap (λ o. cond (is_version_of q first) o (top_in old q)) (sym (c.requires.numbered c.if-newest-eq0.true))

pub returns-else-newest-eq0-clause-top : goal.returns-else-newest-eq0-clause-top
returns-else-newest-eq0-clause-top c = λ q.
    ap (λ m. top_in m q) c.settle.ensures.entries ∙ top_settled c.args.self.now.names.entries c.args.first.now c.args.newest.generation c.args.newest.number c.requires.first c.requires.there q
