-- The name is inserted with generation 1, or with the newest of those that outlived an earlier generation 1.
use Rattle.std.proofs.Common.{◌≡◌, ◌≤◌, Some, None, max, sym, ap, subst, ◌∙◌, arith}
use Rattle.std.specs.FinMap.{get, insert}
use Rattle.g_tree.specs.Records.{full_of}
use Rattle.g_tree.specs.State.{HasNumber, lifted, newest_at, newest_in, risen, top_at, top_in}
use Rattle.g_tree.specs.declared.index.NameEntry.{NameEntry}
use Rattle.g_tree.proofs.EntryLemmas.{first_put, lifted_newest, lifted_number, lifted_top, newest_under, number_put, numbered, put_twice, risen_none, there_inserted, top_put, top_under}
use Rattle.g_tree.proofs.counts.Counts.put_first.Goals as goal

pub replace-requires : goal.replace-requires
replace-requires c =
    let number = c.args.file.now.number in
    there_inserted c.args.self.now.names.entries c.insert.new.self.entries c.full_of.result c.full_of-full.result (numbered number 1 (Some number)) c.insert.ensures.entries (c.full_of-full.ensures ∙ sym c.full_of.ensures)

pub returns-in-Some-clause-numbers : goal.returns-in-Some-clause-numbers
returns-in-Some-clause-numbers c =
    let old = c.args.self.now.names.entries in
    let mid = c.insert.new.self.entries in
    let new = c.replace.new.self.entries in
    let full = full_of c.args.users.now c.args.file.now in
    let number = c.args.file.now.number in
    let there : NameEntry = record c.in-Some.was { number = Some number } in
    let twice =
    put_twice old mid new c.full_of.result c.full_of-full.result full (numbered number 1 (Some number)) (lifted there 1 number) c.insert.ensures.entries (c.replace.ensures.entries ∙ ap (insert mid c.full_of-full.result) c.lifted.ensures)
    c.full_of.ensures c.full_of-full.ensures in
    subst (λ o. HasNumber old new full o) (lifted_number there 1 number) (number_put old new full (lifted there 1 number) twice)

pub returns-in-Some-clause-newest : goal.returns-in-Some-clause-newest
returns-in-Some-clause-newest c =
    let old = c.args.self.now.names.entries in
    let mid = c.insert.new.self.entries in
    let new = c.replace.new.self.entries in
    let full = full_of c.args.users.now c.args.file.now in
    let number = c.args.file.now.number in
    let there : NameEntry = record c.in-Some.was { number = Some number } in
    let twice =
    put_twice old mid new c.full_of.result c.full_of-full.result full (numbered number 1 (Some number)) (lifted there 1 number) c.insert.ensures.entries (c.replace.ensures.entries ∙ ap (insert mid c.full_of-full.result) c.lifted.ensures)
    c.full_of.ensures c.full_of-full.ensures in
    let found : get old full ≡ Some c.in-Some.was = ap (get old) (sym c.full_of.ensures) ∙ sym c.insert.ensures.was ∙ c.in-Some.is in
    let newest : newest_in old full ≡ c.in-Some.was.newest = newest_under old full c.requires.first ∙ ap (λ o. newest_at o) found in
    first_put old new full (lifted there 1 number) (max (newest_in old full) 1) c.requires.first twice (lifted_newest there 1 number ∙ ap (λ n. max n 1) (sym newest))

pub returns-in-Some-clause-top : goal.returns-in-Some-clause-top
returns-in-Some-clause-top c =
    let old = c.args.self.now.names.entries in
    let mid = c.insert.new.self.entries in
    let new = c.replace.new.self.entries in
    let full = full_of c.args.users.now c.args.file.now in
    let number = c.args.file.now.number in
    let there : NameEntry = record c.in-Some.was { number = Some number } in
    let twice =
    put_twice old mid new c.full_of.result c.full_of-full.result full (numbered number 1 (Some number)) (lifted there 1 number) c.insert.ensures.entries (c.replace.ensures.entries ∙ ap (insert mid c.full_of-full.result) c.lifted.ensures)
    c.full_of.ensures c.full_of-full.ensures in
    let found : get old full ≡ Some c.in-Some.was = ap (get old) (sym c.full_of.ensures) ∙ sym c.insert.ensures.was ∙ c.in-Some.is in
    let newest : c.in-Some.was.newest ≡ newest_in old full = sym (newest_under old full c.requires.first ∙ ap (λ o. newest_at o) found) in
    let top : c.in-Some.was.top ≡ top_in old full = sym (top_under old full c.requires.first ∙ ap (λ o. top_at o) found) in
    top_put old new full (lifted there 1 number) (risen (newest_in old full) (top_in old full) 1 number) c.requires.first twice (lifted_top there 1 number ∙ (λ i. risen (newest i) (top i) 1 number))

pub returns-in-None-clause-numbers : goal.returns-in-None-clause-numbers
returns-in-None-clause-numbers c =
    let old = c.args.self.now.names.entries in
    let full = full_of c.args.users.now c.args.file.now in
    let number = c.args.file.now.number in
    let entry = numbered number 1 (Some number) in
    number_put old c.insert.new.self.entries full entry (c.insert.ensures.entries ∙ ap (λ f. insert old f entry) c.full_of.ensures)

pub returns-in-None-clause-newest : goal.returns-in-None-clause-newest
returns-in-None-clause-newest c =
    let old = c.args.self.now.names.entries in
    let full = full_of c.args.users.now c.args.file.now in
    let number = c.args.file.now.number in
    let entry = numbered number 1 (Some number) in
    let absent : get old full ≡ None = ap (get old) (sym c.full_of.ensures) ∙ sym c.insert.ensures.was ∙ c.in-None.is in
    let nothing : newest_in old full ≡ 0 = newest_under old full c.requires.first ∙ ap (λ o. newest_at o) absent in
    let one : 1 ≡ max (newest_in old full) 1 = omega (arith, nothing) in
    first_put old c.insert.new.self.entries full entry (max (newest_in old full) 1) c.requires.first (c.insert.ensures.entries ∙ ap (λ f. insert old f entry) c.full_of.ensures) one

pub returns-in-None-clause-top : goal.returns-in-None-clause-top
returns-in-None-clause-top c =
    let old = c.args.self.now.names.entries in
    let full = full_of c.args.users.now c.args.file.now in
    let number = c.args.file.now.number in
    let entry = numbered number 1 (Some number) in
    let absent : get old full ≡ None = ap (get old) (sym c.full_of.ensures) ∙ sym c.insert.ensures.was ∙ c.in-None.is in
    let nothing : newest_in old full ≡ 0 = newest_under old full c.requires.first ∙ ap (λ o. newest_at o) absent in
    let few : newest_in old full ≤ 1 = omega (arith, nothing) in
    top_put old c.insert.new.self.entries full entry (risen (newest_in old full) (top_in old full) 1 number) c.requires.first (c.insert.ensures.entries ∙ ap (λ f. insert old f entry) c.full_of.ensures)
    (risen_none (newest_in old full) (top_in old full) 1 number few)
