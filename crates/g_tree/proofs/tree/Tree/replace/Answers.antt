-- Another name than the one before has room, and the same name needs none.
use Rattle.std.proofs.Common.{◌≡◌, Some, is_some, true≢false, sym, ap, subst, ◌∙◌}
use Rattle.std.specs.Option.{option_copied}
use Rattle.g_table.specs.Files.{rec_at}
use Rattle.g_tree.specs.Records.{full_of, name_of_file, number_of}
use Rattle.g_tree.proofs.PlaceLemmas.{named_here, rec_found, stands_at}
use Rattle.g_tree.proofs.PutLemmas.{named_apart, stands_named, still_room}
use Rattle.g_tree.proofs.RightLemmas.{owner_within}
use Rattle.g_tree.proofs.tree.Tree.replace.Goals as goal

pub unreachable-requires : goal.unreachable-requires
unreachable-requires c =
    true≢false (sym c.requires.there ∙ ap (λ s. is_some (rec_at s.files c.args.file.number)) (sym c.self.view_is) ∙ ap is_some (sym c.get.ensures ∙ ap (λ o. option_copied o) c.in_default.is))

pub full_of-was-requires : goal.full_of-was-requires
full_of-was-requires c =
    let files = c.self.inside.files in
    let n = c.args.file.number in
    owner_within c.self.inside.users.items files c.self.invariant.records c.as_slice.result.now n c.in-Some.old.now c.as_slice.ensures.value (rec_found files n ∙ sym c.in-Some.ensures)

pub renew-requires-clause-name : goal.renew-requires-clause-name
renew-requires-clause-name c =
    let users = c.self.inside.users.items in
    let files = c.self.inside.files in
    let n = c.args.file.number in
    let r = c.in-Some.old.now in
    let found = sym c.in-Some.ensures in
    let (place, it) = stands_at files c.self.invariant.records.numbers n r found in
    subst (λ s. name_of_file s.users s.files n ≡ Some (full_of s.users c.args.file)) c.self.view_is
    (named_here users files n r found
    ∙ ap Some (ap (full_of users) it.here ∙ stands_named users files place r c.args.file c.has_same_name.result c.self.invariant.records it.at it.here c.has_same_name.ensures c.if-has_same_name.true r))

pub rename-requires-clause-was : goal.rename-requires-clause-was
rename-requires-clause-was c =
    let users = c.self.inside.users.items in
    let files = c.self.inside.files in
    let n = c.args.file.number in
    let r = c.in-Some.old.now in
    ap (λ s. name_of_file s.users s.files n) (sym c.self.view_is) ∙ named_here users files n r (sym c.in-Some.ensures)
    ∙ ap Some (ap (λ us. full_of us r) (sym c.as_slice.ensures.value) ∙ sym c.full_of-was.ensures)

pub rename-requires-clause-room : goal.rename-requires-clause-room
rename-requires-clause-room c =
    let files = c.self.inside.files in
    let r = c.in-Some.old.now in
    let (place, it) = stands_at files c.self.invariant.records.numbers c.args.file.number r (sym c.in-Some.ensures) in
    still_room c.args.self.now.users c.args.self.now.files (full_of c.args.self.now.users c.args.file) c.args.file.number c.args.self.now.spare c.requires.room
    (λ e. named_apart c.self.inside.users.items files place r c.args.file c.has_same_name.result c.self.invariant.records it.at it.here c.has_same_name.ensures c.if-has_same_name.false
    (ap (λ s. number_of s.users s.files (full_of s.users c.args.file)) c.self.view_is ∙ e))

pub returns-else-has_same_name-clause-same_name : goal.returns-else-has_same_name-clause-same_name
returns-else-has_same_name-clause-same_name c = λ e.
    let files = c.self.inside.files in
    let r = c.in-Some.old.now in
    let (place, it) = stands_at files c.self.invariant.records.numbers c.args.file.number r (sym c.in-Some.ensures) in
    absurd (named_apart c.self.inside.users.items files place r c.args.file c.has_same_name.result c.self.invariant.records it.at it.here c.has_same_name.ensures c.if-has_same_name.false
    (ap (λ s. number_of s.users s.files (full_of s.users c.args.file)) c.self.view_is ∙ e))
