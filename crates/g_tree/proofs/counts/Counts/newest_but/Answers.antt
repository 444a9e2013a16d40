-- The newest is unchanged if the file isn't it; otherwise it is the version before, if that exists.
use Rattle.std.proofs.Common.{◌≡◌, ◌+◌, ◌-◌, get_or, sym, ap, ◌∙◌, arith}
use Rattle.std.proofs.lemmas.List.{get_or_default}
use Rattle.g_tree.specs.Answers.{newest_of}
use Rattle.g_tree.specs.State.{newest_at, number_in, top_at}
use Rattle.g_tree.proofs.PlaceLemmas.{no_file}
use Rattle.g_tree.proofs.ChangeLemmas.{placed}
use Rattle.g_tree.proofs.CountLemmas.{newest_before, newest_kept}
use Rattle.g_tree.proofs.EntryLemmas.{at_generation, indexed_number, newest_under, top_under}
use Rattle.g_tree.proofs.counts.Counts.newest_but.Goals as goal

pub returns-then-entry-generation-clause-generation : goal.returns-then-entry-generation-clause-generation
returns-then-entry-generation-clause-generation c =
    let (place, at) = placed c.args.at.users.now c.args.at.files.now c.requires.records c.args.at.number (at_generation c.args.first.now c.args.generation) c.requires.named in
    let users = c.args.at.users.now in
    let files = c.args.at.files.now in
    let full = at_generation c.args.first.now c.args.generation in
    let entries = c.args.self.now.names.entries in
    let r = get_or files place no_file in
    let newest : c.args.entry.newest ≡ newest_of users full files =
    sym (newest_under entries c.args.first.now c.requires.first ∙ ap (λ o. newest_at o) c.requires.entry) ∙ c.requires.newest full in
    newest_kept users files c.requires.records place r at.within (get_or_default files place no_file r at.within) full (at.named no_file) c.args.entry.newest newest c.if-entry-generation.true
    ∙ ap (newest_of users full) at.rest

pub returns-then-is_some-clause-generation : goal.returns-then-is_some-clause-generation
returns-then-is_some-clause-generation c =
    let (place, at) = placed c.args.at.users.now c.args.at.files.now c.requires.records c.args.at.number (at_generation c.args.first.now c.args.generation) c.requires.named in
    let users = c.args.at.users.now in
    let files = c.args.at.files.now in
    let full = at_generation c.args.first.now c.args.generation in
    let entries = c.args.self.now.names.entries in
    let r = get_or files place no_file in
    let n = c.args.generation - 1 in
    let newest : newest_of users full files ≡ c.args.generation =
    sym (c.requires.newest full) ∙ newest_under entries c.args.first.now c.requires.first ∙ ap (λ o. newest_at o) c.requires.entry ∙ c.if-entry-generation.false in
    let next : n + 1 ≡ c.args.generation = omega (arith, c.requires.some) in
    newest_before users files c.requires.records place r at.within (get_or_default files place no_file r at.within) full (at.named no_file) n c.number_before-number.result newest next
    (c.number_before-number.ensures ∙ indexed_number users files entries (at_generation full n) c.requires.index) (sym c.is_some.ensures ∙ c.if-is_some.true)
    ∙ ap (newest_of users full) at.rest

pub returns-then-entry-generation-clause-number : goal.returns-then-entry-generation-clause-number
returns-then-entry-generation-clause-number c =
    let first = c.args.first.now in
    let entries = c.args.self.now.names.entries in
    sym (top_under entries first c.requires.first ∙ ap (λ o. top_at o) c.requires.entry) ∙ c.requires.topped first
    ∙ ap (λ n. number_in entries (at_generation first n)) (newest_under entries first c.requires.first ∙ ap (λ o. newest_at o) c.requires.entry)

pub returns-clause-number : goal.returns-clause-number
returns-clause-number c = c.find.ensures ∙ ap (λ f. number_in c.args.self.now.names.entries (at_generation f c.newest_besides-left.result)) c.copy.ensures
