-- If the index has the name of generation 1, its newest version is raised; otherwise it is this one.
use Rattle.std.proofs.Common.{sym, ap, ◌∙◌, arith}
use Rattle.std.specs.FinMap.{insert}
use Rattle.g_tree.specs.State.{newest_in, number_in, top_in}
use Rattle.g_tree.proofs.EntryLemmas.{newest_begun, newest_raised, numbers_begun, numbers_raised, top_begun, top_raised, unnumbered}
use Rattle.g_tree.proofs.counts.Counts.rise.Goals as goal

pub returns-then-raise-clause-numbers : goal.returns-then-raise-clause-numbers
returns-then-raise-clause-numbers c = λ q. ap (λ m. number_in m q) c.raise.ensures.entries ∙ numbers_raised c.args.self.now.names.entries c.args.first.now c.args.newest c.args.number q

pub returns-then-raise-clause-newest : goal.returns-then-raise-clause-newest
returns-then-raise-clause-newest c = λ q.
    ap (λ m. newest_in m q) c.raise.ensures.entries
    ∙ newest_raised c.args.self.now.names.entries c.args.first.now c.args.newest c.args.number c.requires.first (sym c.raise.ensures.there ∙ c.if-raise.true) q

pub insert-requires : goal.insert-requires
insert-requires c = omega (arith, c.requires.room, c.raise.ensures.spare)

pub returns-clause-numbers : goal.returns-clause-numbers
returns-clause-numbers c =
    numbers_begun c.args.self.now.names.entries c.args.first.now c.raise.new.self.entries c.insert.new.self.entries c.args.newest c.args.number (sym c.raise.ensures.there ∙ c.if-raise.false) c.raise.ensures.entries
    (c.insert.ensures.entries ∙ ap (λ f. insert c.raise.new.self.entries f (unnumbered c.args.newest c.args.number)) c.copy.ensures)

pub returns-clause-newest : goal.returns-clause-newest
returns-clause-newest c =
    newest_begun c.args.self.now.names.entries c.args.first.now c.raise.new.self.entries c.insert.new.self.entries c.args.newest c.args.number (sym c.raise.ensures.there ∙ c.if-raise.false) c.raise.ensures.entries
    (c.insert.ensures.entries ∙ ap (λ f. insert c.raise.new.self.entries f (unnumbered c.args.newest c.args.number)) c.copy.ensures) c.requires.first

pub returns-then-raise-clause-top : goal.returns-then-raise-clause-top
returns-then-raise-clause-top c = λ q.
    ap (λ m. top_in m q) c.raise.ensures.entries
    ∙ top_raised c.args.self.now.names.entries c.args.first.now c.args.newest c.args.number c.requires.first (sym c.raise.ensures.there ∙ c.if-raise.true) q

pub returns-clause-top : goal.returns-clause-top
returns-clause-top c =
    top_begun c.args.self.now.names.entries c.args.first.now c.raise.new.self.entries c.insert.new.self.entries c.args.newest c.args.number (sym c.raise.ensures.there ∙ c.if-raise.false) c.raise.ensures.entries
    (c.insert.ensures.entries ∙ ap (λ f. insert c.raise.new.self.entries f (unnumbered c.args.newest c.args.number)) c.copy.ensures) c.requires.first
