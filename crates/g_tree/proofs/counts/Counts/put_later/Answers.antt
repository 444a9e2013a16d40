-- The greatest generation is recorded under the name of generation 1, and then the name is inserted.
use Rattle.std.proofs.Common.{None, max, ap, subst, ◌∙◌, arith}
use Rattle.std.specs.FinMap.{insert}
use Rattle.g_tree.specs.Records.{full_of}
use Rattle.g_tree.specs.State.{HasNewest, HasTop, newest_in, risen, top_in}
use Rattle.g_tree.proofs.EntryLemmas.{at_generation, newest_behind, number_behind, numbered, top_behind}
use Rattle.g_tree.proofs.counts.Counts.put_later.Goals as goal

pub insert-requires : goal.insert-requires
insert-requires c = omega (arith, c.requires.room, c.rise.ensures.spare)

pub returns-clause-numbers : goal.returns-clause-numbers
returns-clause-numbers c =
    let full = full_of c.args.users.now c.args.file.now in
    let mid = c.rise.new.self.names.entries in
    let n = c.args.file.now.generation in
    let entry = numbered c.args.file.now.number 0 None in
    number_behind c.args.self.now.names.entries mid c.insert.new.self.entries full entry c.rise.ensures.numbers
    (c.insert.ensures.entries ∙ ap (λ f. insert mid (at_generation f n) entry) c.full_of.ensures)

pub returns-clause-newest : goal.returns-clause-newest
returns-clause-newest c =
    let old = c.args.self.now.names.entries in
    let full = full_of c.args.users.now c.args.file.now in
    let mid = c.rise.new.self.names.entries in
    let n = c.args.file.now.generation in
    let entry = numbered c.args.file.now.number 0 None in
    let risen : HasNewest old mid full (max (newest_in old full) n) =
    subst (λ f. HasNewest old mid f (max (newest_in old f) n)) c.full_of.ensures c.rise.ensures.newest in
    newest_behind old mid c.insert.new.self.entries full entry (max (newest_in old full) n) c.requires.behind risen
    (c.insert.ensures.entries ∙ ap (λ f. insert mid (at_generation f n) entry) c.full_of.ensures)

pub returns-clause-top : goal.returns-clause-top
returns-clause-top c =
    let old = c.args.self.now.names.entries in
    let full = full_of c.args.users.now c.args.file.now in
    let mid = c.rise.new.self.names.entries in
    let n = c.args.file.now.generation in
    let number = c.args.file.now.number in
    let entry = numbered number 0 None in
    let risen_there : HasTop old mid full (risen (newest_in old full) (top_in old full) n number) =
    subst (λ f. HasTop old mid f (risen (newest_in old f) (top_in old f) n number)) c.full_of.ensures c.rise.ensures.top in
    top_behind old mid c.insert.new.self.entries full entry (risen (newest_in old full) (top_in old full) n number) c.requires.behind risen_there
    (c.insert.ensures.entries ∙ ap (λ f. insert mid (at_generation f n) entry) c.full_of.ensures)
