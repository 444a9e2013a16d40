-- Under the name of the first the greatest that is left is known, and then the name goes.
use Rattle.std.proofs.Common.{◌≢◌, cond, get_or, sym, ap, ◌∙◌}
use Rattle.std.proofs.lemmas.List.{get_or_default}
use Rattle.g_tree.specs.Answers.{newest_of}
use Rattle.g_tree.specs.State.{newest_in, without_file}
use Rattle.g_tree.proofs.PlaceLemmas.{no_file}
use Rattle.g_tree.proofs.ChangeLemmas.{placed}
use Rattle.g_tree.proofs.CountLemmas.{least_here, newest_apart}
use Rattle.g_tree.proofs.EntryLemmas.{newest_out, number_out, topped_out, version_itself}
use Rattle.g_tree.proofs.counts.Counts.take_later.Goals as goal

pub lower-requires-clause-named : goal.lower-requires-clause-named
lower-requires-clause-named c = c.requires.named

pub lower-requires-clause-some : goal.lower-requires-clause-some
lower-requires-clause-some c =
    let (place, at) = placed c.args.at.users.now c.args.at.files.now c.requires.records c.args.at.number c.args.full c.requires.named in
    let files = c.args.at.files.now in
    let r = get_or files place no_file in
    least_here c.args.at.users.now files c.requires.records place r at.within (get_or_default files place no_file r at.within) c.args.full (at.named no_file)

pub returns-clause-numbers : goal.returns-clause-numbers
returns-clause-numbers c = number_out c.args.self.now.names.entries c.lower.new.self.names.entries c.remove.new.self.entries c.args.full c.lower.ensures.numbers c.remove.ensures.entries

pub returns-clause-newest : goal.returns-clause-newest
returns-clause-newest c =
    let full = c.args.full in
    let left = newest_of c.args.at.users.now full (without_file c.args.at.number c.args.at.files.now) in
    newest_out c.args.self.now.names.entries c.lower.new.self.names.entries c.remove.new.self.entries full left c.requires.behind c.lower.ensures.newest c.remove.ensures.entries

pub returns-clause-topped : goal.returns-clause-topped
returns-clause-topped c =
    let (place, at) = placed c.args.at.users.now c.args.at.files.now c.requires.records c.args.at.number c.args.full c.requires.named in
    let users = c.args.at.users.now in
    let files = c.args.at.files.now in
    let full = c.args.full in
    let old = c.args.self.now.names.entries in
    let mid = c.lower.new.self.names.entries in
    let r = get_or files place no_file in
    let left = newest_of users full (without_file c.args.at.number files) in
    let apart : newest_in mid full ≢ full.generation = λ same.
    newest_apart users files c.requires.records place r at.within (get_or_default files place no_file r at.within) full (at.named no_file)
    (ap (newest_of users full) at.rest ∙ sym (c.lower.ensures.newest full ∙ ap (λ b. cond b left (newest_in old full)) (version_itself full)) ∙ same) in
    topped_out mid c.remove.new.self.entries full c.lower.ensures.topped c.remove.ensures.entries c.requires.behind apart
