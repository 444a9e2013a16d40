-- The name goes, and of the versions that are left the greatest is known.
use Rattle.std.proofs.Common.{get_or, ap, subst, sym, ◌∙◌, None}
use Rattle.std.proofs.lemmas.List.{get_or_default}
use Rattle.g_tree.specs.Answers.{newest_of}
use Rattle.g_tree.specs.State.{AreIndexed, AreNewest, HasNumber, later, newest_in, without_file}
use Rattle.g_tree.proofs.PlaceLemmas.{no_file}
use Rattle.g_tree.proofs.ChangeLemmas.{placed}
use Rattle.g_tree.proofs.CountLemmas.{erased_newest, first_left, zeroth_none}
use Rattle.g_tree.proofs.EntryLemmas.{indexed_out, topped_first}
use Rattle.g_tree.proofs.counts.Counts.take_out.Goals as goal

pub returns-then-full-eq1-clause-index : goal.returns-then-full-eq1-clause-index
returns-then-full-eq1-clause-index c =
    let users = c.args.at.users.now in
    let files = c.args.at.files.now in
    let full = c.args.full in
    let old = c.args.self.now.names.entries in
    let new = c.take_first.new.self.names.entries in
    let (place, at) = placed users files c.requires.records c.args.at.number c.args.full c.requires.named in
    subst (λ fs. AreIndexed users fs new) at.rest
    (indexed_out users files place no_file old new c.requires.records at.within c.requires.index (subst (λ f. HasNumber old new f None) (at.named no_file) c.take_first.ensures.numbers))

pub returns-then-full-eq1-clause-newest : goal.returns-then-full-eq1-clause-newest
returns-then-full-eq1-clause-newest c =
    let users = c.args.at.users.now in
    let files = c.args.at.files.now in
    let full = c.args.full in
    let old = c.args.self.now.names.entries in
    let new = c.take_first.new.self.names.entries in
    let (place, at) = placed users files c.requires.records c.args.at.number c.args.full c.requires.named in
    let r = get_or files place no_file in
    let here = get_or_default files place no_file r at.within in
    subst (λ fs. AreNewest users fs new) at.rest
    (erased_newest users files place r at.within here (later (newest_in old full)) full old new c.requires.newest (at.named no_file)
    (ap (λ n. later n) (c.requires.newest full) ∙ first_left users files c.requires.records place r at.within here full (at.named no_file) c.if-full-eq1.true) c.take_first.ensures.newest)

pub returns-else-full-eq1-clause-index : goal.returns-else-full-eq1-clause-index
returns-else-full-eq1-clause-index c =
    let users = c.args.at.users.now in
    let files = c.args.at.files.now in
    let full = c.args.full in
    let old = c.args.self.now.names.entries in
    let new = c.take_later.new.self.names.entries in
    let (place, at) = placed users files c.requires.records c.args.at.number c.args.full c.requires.named in
    subst (λ fs. AreIndexed users fs new) at.rest
    (indexed_out users files place no_file old new c.requires.records at.within c.requires.index (subst (λ f. HasNumber old new f None) (at.named no_file) c.take_later.ensures.numbers))

pub returns-else-full-eq1-clause-newest : goal.returns-else-full-eq1-clause-newest
returns-else-full-eq1-clause-newest c =
    let users = c.args.at.users.now in
    let files = c.args.at.files.now in
    let full = c.args.full in
    let old = c.args.self.now.names.entries in
    let new = c.take_later.new.self.names.entries in
    let (place, at) = placed users files c.requires.records c.args.at.number c.args.full c.requires.named in
    let r = get_or files place no_file in
    subst (λ fs. AreNewest users fs new) at.rest
    (erased_newest users files place r at.within (get_or_default files place no_file r at.within) (newest_of users full (without_file c.args.at.number files)) full old new c.requires.newest (at.named no_file)
    (ap (newest_of users full) (sym at.rest)) c.take_later.ensures.newest)

pub returns-then-full-eq1-clause-topped : goal.returns-then-full-eq1-clause-topped
returns-then-full-eq1-clause-topped c =
    let old = c.args.self.now.names.entries in
    topped_first old c.take_first.new.self.names.entries c.args.full c.requires.topped c.if-full-eq1.true (zeroth_none c.args.at.users.now c.args.at.files.now old c.args.full c.requires.records c.requires.index)
    c.take_first.ensures.numbers c.take_first.ensures.newest c.take_first.ensures.top
