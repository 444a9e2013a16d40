-- Removing the second of two generations leaves the first; otherwise the greatest remaining one is searched for.
use Rattle.std.proofs.Common.{◌≡◌, ◌+◌, Some, None, true, get_or, is_some, sym, ap, subst, ◌∙◌, arith, true≢false}
use Rattle.std.specs.FinMap.{get}
use Rattle.std.proofs.lemmas.List.{get_or_default}
use Rattle.g_tree.specs.Answers.{newest_of}
use Rattle.g_tree.specs.Records.{number_of}
use Rattle.g_tree.specs.State.{AreIndexed, AreNewest, HasNewest, IsTopped, fallen, newest_at, newest_in, number_at, number_in, top_in, without_file}
use Rattle.g_tree.proofs.PlaceLemmas.{no_file}
use Rattle.g_tree.proofs.ChangeLemmas.{placed}
use Rattle.g_tree.proofs.CountLemmas.{newest_before, newest_some, newest_with, none_first, zeroth_none}
use Rattle.g_tree.proofs.EntryLemmas.{at_generation, fallen_same, first_itself, indexed_number, newest_fallen_two, newest_under, numbers_fallen, some_under, top_fallen_two, topped_by, two_newest, two_number}
use Rattle.g_tree.proofs.counts.Counts.lower.Goals as goal

pub unreachable-requires : goal.unreachable-requires
unreachable-requires c =
    let (place, at) = placed c.args.at.users.now c.args.at.files.now c.requires.records c.args.at.number (at_generation c.args.first.now c.args.generation) c.requires.named in
    let files = c.args.at.files.now in
    let full = at_generation c.args.first.now c.args.generation in
    let entries = c.args.self.now.names.entries in
    let r = get_or files place no_file in
    let known =
    newest_some c.args.at.users.now files c.requires.records place r at.within (get_or_default files place no_file r at.within) full (at.named no_file) entries c.requires.newest in
    let there : is_some (get entries c.args.first.now) ≡ true = some_under entries c.args.first.now c.requires.first known in
    true≢false (sym there ∙ ap is_some (sym c.fall.ensures.was ∙ c.in_default.is))

pub returns-then-is_first_of_two-clause-numbers : goal.returns-then-is_first_of_two-clause-numbers
returns-then-is_first_of_two-clause-numbers c = λ q. ap (λ m. number_in m q) c.fall.ensures.entries ∙ numbers_fallen c.args.self.now.names.entries c.args.first.now q

pub returns-then-is_first_of_two-clause-newest : goal.returns-then-is_first_of_two-clause-newest
returns-then-is_first_of_two-clause-newest c =
    let (place, at) = placed c.args.at.users.now c.args.at.files.now c.requires.records c.args.at.number (at_generation c.args.first.now c.args.generation) c.requires.named in
    let users = c.args.at.users.now in
    let files = c.args.at.files.now in
    let first = c.args.first.now in
    let n = c.args.generation in
    let full = at_generation first n in
    let entries = c.args.self.now.names.entries in
    let entry = c.in-Some.entry in
    let r = get_or files place no_file in
    let here = get_or_default files place no_file r at.within in
    let two = sym c.is_first_of_two.ensures ∙ c.if-is_first_of_two.true in
    let found : get entries first ≡ Some entry = sym c.fall.ensures.was ∙ c.in-Some.is in
    let newest : newest_of users full files ≡ 2 =
    sym (c.requires.newest full) ∙ newest_under entries first c.requires.first ∙ ap (λ o. newest_at o) found ∙ two_newest entry two in
    let with_it = newest_with users files place r at.within here full (at.named no_file) in
    let same : n ≡ r.generation = ap (λ f. f.generation) (at.named no_file) in
    let greatest : newest_of users full files ≡ n = omega (arith, newest, with_it, same, c.requires.some, c.requires.behind) in
    let next : 1 + 1 ≡ n = omega (arith, newest, greatest) in
    let number : entry.number ≡ number_of users files (at_generation full 1) =
    sym (ap (λ o. number_at o) found) ∙ ap (λ f. number_in entries f) (sym (first_itself first c.requires.first)) ∙ indexed_number users files entries (at_generation full 1) c.requires.index in
    let left : 1 ≡ newest_of users full (without_file c.args.at.number files) =
    newest_before users files c.requires.records place r at.within here full (at.named no_file) 1 entry.number greatest next number (two_number entry two) ∙ ap (newest_of users full) at.rest in
    λ q. ap (λ m. newest_in m q) c.fall.ensures.entries ∙ subst (λ k. HasNewest entries (fallen entries first) first k) left (newest_fallen_two entries first entry c.requires.first found two) q

pub newest_but-newest-requires-clause-index : goal.newest_but-newest-requires-clause-index
newest_but-newest-requires-clause-index c =
    let entries = c.args.self.now.names.entries in
    let found = sym c.fall.ensures.was ∙ c.in-Some.is in
    let same = c.fall.ensures.entries ∙ fallen_same entries c.args.first.now c.in-Some.entry found (sym c.is_first_of_two.ensures ∙ c.if-is_first_of_two.false) in
    subst (λ m. AreIndexed c.args.at.users.now c.args.at.files.now m) (sym same) c.requires.index

pub newest_but-newest-requires-clause-newest : goal.newest_but-newest-requires-clause-newest
newest_but-newest-requires-clause-newest c =
    let entries = c.args.self.now.names.entries in
    let found = sym c.fall.ensures.was ∙ c.in-Some.is in
    let same = c.fall.ensures.entries ∙ fallen_same entries c.args.first.now c.in-Some.entry found (sym c.is_first_of_two.ensures ∙ c.if-is_first_of_two.false) in
    subst (λ m. AreNewest c.args.at.users.now c.args.at.files.now m) (sym same) c.requires.newest

pub newest_but-newest-requires-clause-entry : goal.newest_but-newest-requires-clause-entry
newest_but-newest-requires-clause-entry c =
    let entries = c.args.self.now.names.entries in
    let found = sym c.fall.ensures.was ∙ c.in-Some.is in
    let same = c.fall.ensures.entries ∙ fallen_same entries c.args.first.now c.in-Some.entry found (sym c.is_first_of_two.ensures ∙ c.if-is_first_of_two.false) in
    subst (λ m. get m c.args.first.now ≡ Some c.in-Some.entry) (sym same) found

pub settle-requires-clause-there : goal.settle-requires-clause-there
settle-requires-clause-there c =
    let entries = c.args.self.now.names.entries in
    let found = sym c.fall.ensures.was ∙ c.in-Some.is in
    let same = c.fall.ensures.entries ∙ fallen_same entries c.args.first.now c.in-Some.entry found (sym c.is_first_of_two.ensures ∙ c.if-is_first_of_two.false) in
    subst (λ m. is_some (get m c.args.first.now) ≡ true) (sym same) (ap is_some found)

pub settle-requires-clause-none : goal.settle-requires-clause-none
settle-requires-clause-none c = λ none.
    let (place, at) = placed c.args.at.users.now c.args.at.files.now c.requires.records c.args.at.number (at_generation c.args.first.now c.args.generation) c.requires.named in
    let files = c.args.at.files.now in
    let first = c.args.first.now in
    let entries = c.args.self.now.names.entries in
    let r = get_or files place no_file in
    let found = sym c.fall.ensures.was ∙ c.in-Some.is in
    let same = c.fall.ensures.entries ∙ fallen_same entries first c.in-Some.entry found (sym c.is_first_of_two.ensures ∙ c.if-is_first_of_two.false) in
    let absent =
    none_first c.args.at.users.now files c.requires.records place r at.within (get_or_default files place no_file r at.within) (at_generation first c.args.generation) (at.named no_file) entries
    c.requires.index c.requires.behind (sym none ∙ c.newest_but-newest.ensures.generation ∙ ap (newest_of c.args.at.users.now first) (sym at.rest)) in
    subst (λ m. number_in m first ≡ None) (sym same) (ap (λ f. number_in entries f) (sym (first_itself first c.requires.first)) ∙ absent)

pub returns-clause-numbers : goal.returns-clause-numbers
returns-clause-numbers c = λ q.
    let entries = c.args.self.now.names.entries in
    let found = sym c.fall.ensures.was ∙ c.in-Some.is in
    let same = c.fall.ensures.entries ∙ fallen_same entries c.args.first.now c.in-Some.entry found (sym c.is_first_of_two.ensures ∙ c.if-is_first_of_two.false) in
    c.settle.ensures.numbers q ∙ ap (λ m. number_in m q) same

pub returns-clause-newest : goal.returns-clause-newest
returns-clause-newest c =
    let first = c.args.first.now in
    let entries = c.args.self.now.names.entries in
    let mid = c.fall.new.self.entries in
    let new = c.settle.new.self.names.entries in
    let left = newest_of c.args.at.users.now first (without_file c.args.at.number c.args.at.files.now) in
    let found = sym c.fall.ensures.was ∙ c.in-Some.is in
    let same = c.fall.ensures.entries ∙ fallen_same entries first c.in-Some.entry found (sym c.is_first_of_two.ensures ∙ c.if-is_first_of_two.false) in
    subst (λ m. HasNewest m new first left) same (subst (λ n. HasNewest mid new first n) c.newest_but-newest.ensures.generation c.settle.ensures.newest)

pub returns-then-is_first_of_two-clause-topped : goal.returns-then-is_first_of_two-clause-topped
returns-then-is_first_of_two-clause-topped c =
    let first = c.args.first.now in
    let entries = c.args.self.now.names.entries in
    let new = c.fall.new.self.entries in
    let entry = c.in-Some.entry in
    let two = sym c.is_first_of_two.ensures ∙ c.if-is_first_of_two.true in
    let found : get entries first ≡ Some entry = sym c.fall.ensures.was ∙ c.in-Some.is in
    let number : entry.number ≡ number_in entries (at_generation first 1) = sym (ap (λ o. number_at o) found) ∙ ap (λ f. number_in entries f) (sym (first_itself first c.requires.first)) in
    topped_by entries new first c.requires.topped 1 entry.number
    (λ q. ap (λ m. number_in m q) c.fall.ensures.entries ∙ numbers_fallen entries first q)
    (λ q. ap (λ m. newest_in m q) c.fall.ensures.entries ∙ newest_fallen_two entries first entry c.requires.first found two q)
    (λ q. ap (λ m. top_in m q) c.fall.ensures.entries ∙ top_fallen_two entries first entry c.requires.first found two q) number

pub newest_but-newest-requires-clause-topped : goal.newest_but-newest-requires-clause-topped
newest_but-newest-requires-clause-topped c =
    let entries = c.args.self.now.names.entries in
    let found = sym c.fall.ensures.was ∙ c.in-Some.is in
    let same = c.fall.ensures.entries ∙ fallen_same entries c.args.first.now c.in-Some.entry found (sym c.is_first_of_two.ensures ∙ c.if-is_first_of_two.false) in
    subst (λ m. IsTopped m) (sym same) c.requires.topped

pub settle-requires-clause-numbered : goal.settle-requires-clause-numbered
settle-requires-clause-numbered c = λ none.
    let first = c.args.first.now in
    let entries = c.args.self.now.names.entries in
    let found = sym c.fall.ensures.was ∙ c.in-Some.is in
    let same = c.fall.ensures.entries ∙ fallen_same entries first c.in-Some.entry found (sym c.is_first_of_two.ensures ∙ c.if-is_first_of_two.false) in
    c.newest_but-newest.ensures.number ∙ (λ i. number_in (same i) (at_generation first (none i))) ∙ zeroth_none c.args.at.users.now c.args.at.files.now entries first c.requires.records c.requires.index

pub returns-clause-topped : goal.returns-clause-topped
returns-clause-topped c =
    let first = c.args.first.now in
    let entries = c.args.self.now.names.entries in
    let mid = c.fall.new.self.entries in
    let newest = c.newest_but-newest.result in
    let found = sym c.fall.ensures.was ∙ c.in-Some.is in
    let same = c.fall.ensures.entries ∙ fallen_same entries first c.in-Some.entry found (sym c.is_first_of_two.ensures ∙ c.if-is_first_of_two.false) in
    topped_by mid c.settle.new.self.names.entries first (subst (λ m. IsTopped m) (sym same) c.requires.topped) newest.generation newest.number c.settle.ensures.numbers c.settle.ensures.newest c.settle.ensures.top
    c.newest_but-newest.ensures.number
