-- The old file is removed with its name, its version and its blocks, and the new one is added with its own.
use Rattle.std.proofs.Common.{◌≡◌, ◌≤◌, ◌<◌, ◌-◌, Some, is_some, max, get_or, length, refl, sym, ap, subst, ◌∙◌, arith, true≢false}
use Rattle.std.proofs.Math.ListN.{set}
use Rattle.std.proofs.lemmas.List.{length-set}
use Rattle.std.specs.Option.{option_copied}
use Rattle.std.specs.List.{remove as remove_at}
use Rattle.g_base.specs.Block.{blocks_for}
use Rattle.g_table.specs.Files.{rec_at}
use Rattle.g_tree.specs.Records.{IsRecords, full_of, name_of_file}
use Rattle.g_tree.specs.State.{AreIndexed, AreNewest, AreUsed, HasNewest, HasNumber, HasTop, IsKept, IsTopped, newest_in, risen, top_in, with_file, without_file}
use Rattle.g_tree.proofs.PlaceLemmas.{named_there}
use Rattle.g_tree.proofs.ChangeLemmas.{removed_list}
use Rattle.g_tree.proofs.PutLemmas.{owner_there, set_at}
use Rattle.g_tree.proofs.EntryLemmas.{indexed_set, topped_more}
use Rattle.g_tree.proofs.CountLemmas.{owner_at, rest_used, put_owner, put_len, give_some, give_there, replaced_newest, replaced_used}
use Rattle.g_tree.proofs.tree.Tree.rename.Goals as goal

pub take_out-requires-clause-records : goal.take_out-requires-clause-records
take_out-requires-clause-records c = subst (λ us. IsRecords us c.self.inside.files) (sym c.as_slice.ensures.value) c.self.invariant.records

pub take_out-requires-clause-index : goal.take_out-requires-clause-index
take_out-requires-clause-index c = subst (λ us. AreIndexed us c.self.inside.files c.self.inside.counts.names.entries) (sym c.as_slice.ensures.value) c.self.invariant.index

pub take_out-requires-clause-newest : goal.take_out-requires-clause-newest
take_out-requires-clause-newest c = subst (λ us. AreNewest us c.self.inside.files c.self.inside.counts.names.entries) (sym c.as_slice.ensures.value) c.self.invariant.newest

pub take_out-requires-clause-named : goal.take_out-requires-clause-named
take_out-requires-clause-named c =
    subst (λ us. name_of_file us c.self.inside.files c.args.file.number ≡ Some c.args.old) (sym c.as_slice.ensures.value)
    (subst (λ s. name_of_file s.users s.files c.args.file.number ≡ Some c.args.old) (sym c.self.view_is) c.requires.was)

pub unreachable-requires : goal.unreachable-requires
unreachable-requires c =
    let (r, it) = named_there c.args.self.now.users c.args.self.now.files c.args.file.number c.args.old c.requires.was in
    true≢false (ap is_some (sym it.found ∙ ap (λ s. rec_at s.files c.args.file.number) (sym c.self.view_is) ∙ sym c.get.ensures ∙ ap (λ o. option_copied o) c.in_default.is))

pub put-requires-clause-owner : goal.put-requires-clause-owner
put-requires-clause-owner c =
    subst (λ us. c.args.file.owner < length us) (ap (λ s. s.users) (sym c.self.view_is) ∙ sym c.as_slice-2.ensures.value) (owner_there c.args.self.now.users c.args.self.now.files c.args.file c.requires.rules)

pub put-requires-clause-room : goal.put-requires-clause-room
put-requires-clause-room c =
    let room = subst (λ s. 1 ≤ s.spare) (sym c.self.view_is) c.requires.room in
    omega (arith, room, c.take_out.ensures.spare)

pub give-requires-clause-there : goal.give-requires-clause-there
give-requires-clause-there c =
    let users = c.self.inside.users.items in
    let files = c.self.inside.files in
    let is = c.self.invariant.records in
    let r = c.in-Some.was.now in
    let rules : IsRecords users (with_file c.args.file files) = subst (λ s. IsRecords s.users (with_file c.args.file s.files)) (sym c.self.view_is) c.requires.rules in
    let (place, at) = set_at users files is c.args.file r (sym c.in-Some.ensures) rules in
    subst (λ bs. r.owner < length bs) (sym (c.put.ensures.blocks ∙ c.take_out.ensures.blocks))
    (give_there users files is place r at.at.within at.here c.self.inside.counts.blocks.items c.self.invariant.used)

pub give-requires-clause-used : goal.give-requires-clause-used
give-requires-clause-used c =
    let users = c.self.inside.users.items in
    let files = c.self.inside.files in
    let is = c.self.invariant.records in
    let r = c.in-Some.was.now in
    let rules : IsRecords users (with_file c.args.file files) = subst (λ s. IsRecords s.users (with_file c.args.file s.files)) (sym c.self.view_is) c.requires.rules in
    let (place, at) = set_at users files is c.args.file r (sym c.in-Some.ensures) rules in
    subst (λ bs. blocks_for r.len ≤ get_or bs r.owner 0) (sym (c.put.ensures.blocks ∙ c.take_out.ensures.blocks)) (give_some users files is place r at.at.within at.here c.self.inside.counts.blocks.items c.self.invariant.used)

pub take-requires-clause-there : goal.take-requires-clause-there
take-requires-clause-there c =
    let users = c.self.inside.users.items in
    let files = c.self.inside.files in
    let is = c.self.invariant.records in
    let r = c.in-Some.was.now in
    let rules : IsRecords users (with_file c.args.file files) = subst (λ s. IsRecords s.users (with_file c.args.file s.files)) (sym c.self.view_is) c.requires.rules in
    let (place, at) = set_at users files is c.args.file r (sym c.in-Some.ensures) rules in
    let owner = put_owner users files is place r at.at.within at.here c.args.file at.rules in
    let len = ap length c.give.ensures.blocks ∙ length-set c.put.new.self.blocks.items r.owner _ ∙ ap length (c.put.ensures.blocks ∙ c.take_out.ensures.blocks) ∙ c.self.invariant.used.places in
    omega (arith, owner, len)

pub take-requires-clause-used : goal.take-requires-clause-used
take-requires-clause-used c =
    let users = c.self.inside.users.items in
    let files = c.self.inside.files in
    let is = c.self.invariant.records in
    let r = c.in-Some.was.now in
    let rules : IsRecords users (with_file c.args.file files) = subst (λ s. IsRecords s.users (with_file c.args.file s.files)) (sym c.self.view_is) c.requires.rules in
    let (place, at) = set_at users files is c.args.file r (sym c.in-Some.ensures) rules in
    rest_used users files is place r at.at.within at.here c.self.inside.counts.blocks.items c.give.new.self.blocks.items
    c.args.file.owner c.self.invariant.used (c.give.ensures.blocks ∙ ap (λ bs. set bs r.owner (get_or bs r.owner 0 - blocks_for r.len)) (c.put.ensures.blocks ∙ c.take_out.ensures.blocks))

pub take-requires-clause-len : goal.take-requires-clause-len
take-requires-clause-len c =
    let users = c.self.inside.users.items in
    let files = c.self.inside.files in
    let is = c.self.invariant.records in
    let r = c.in-Some.was.now in
    let rules : IsRecords users (with_file c.args.file files) = subst (λ s. IsRecords s.users (with_file c.args.file s.files)) (sym c.self.view_is) c.requires.rules in
    let (place, at) = set_at users files is c.args.file r (sym c.in-Some.ensures) rules in
    put_len users files is place r at.at.within at.here c.args.file at.rules

pub invariant_of-self : goal.invariant_of-self
invariant_of-self c =
    let users = c.self.inside.users.items in
    let files = c.self.inside.files in
    let file = c.args.file in
    let is = c.self.invariant.records in
    let counts = c.self.inside.counts in
    let r = c.in-Some.was.now in
    let rules : IsRecords users (with_file file files) = subst (λ s. IsRecords s.users (with_file file s.files)) (sym c.self.view_is) c.requires.rules in
    let (place, at) = set_at users files is file r (sym c.in-Some.ensures) rules in
    let within = at.at.within in
    let middle = c.take_out.new.self.names.entries in
    let known = c.put.new.self.names.entries in
    let rest : without_file file.number files ≡ remove_at files place = sym (removed_list users files is file.number place at.at r) in
    let index_left : AreIndexed users (remove_at files place) middle =
    subst (λ fs. AreIndexed users fs middle) rest (subst (λ us. AreIndexed us (without_file file.number files) middle) c.as_slice.ensures.value c.take_out.ensures.index) in
    let newest_left : AreNewest users (remove_at files place) middle =
    subst (λ fs. AreNewest users fs middle) rest (subst (λ us. AreNewest us (without_file file.number files) middle) c.as_slice.ensures.value c.take_out.ensures.newest) in
    let numbers : HasNumber middle known (full_of users file) (Some file.number) = subst (λ us. HasNumber middle known (full_of us file) (Some file.number)) c.as_slice-2.ensures.value c.put.ensures.numbers in
    let greatest : HasNewest middle known (full_of users file) (max (newest_in middle (full_of users file)) file.generation) =
    subst (λ us. HasNewest middle known (full_of us file) (max (newest_in middle (full_of us file)) file.generation)) c.as_slice-2.ensures.value c.put.ensures.newest in
    let index : AreIndexed users (set files place file) known = indexed_set users files place file middle known at.rules within index_left numbers in
    let newest : AreNewest users (set files place file) known = replaced_newest users files place r within at.here file middle known newest_left greatest in
    let topped : IsTopped known =
    topped_more middle known (full_of users file) c.take_out.ensures.topped file.generation file.number refl numbers greatest
    (subst (λ us. HasTop middle known (full_of us file) (risen (newest_in middle (full_of us file)) (top_in middle (full_of us file)) file.generation file.number)) c.as_slice-2.ensures.value c.put.ensures.top) in
    let used : AreUsed (set files place file) c.take.new.self.blocks.items =
    subst (AreUsed (set files place file)) (sym c.take.ensures.blocks)
    (replaced_used files place r file counts.blocks.items c.give.new.self.blocks.items c.self.invariant.used (owner_at users files is place r within at.here)
    (put_owner users files is place r within at.here file at.rules) within at.here
    (c.give.ensures.blocks ∙ ap (λ bs. set bs r.owner (get_or bs r.owner 0 - blocks_for r.len)) (c.put.ensures.blocks ∙ c.take_out.ensures.blocks))) in
    subst (λ fs. IsKept users fs c.take.new.self.names.entries c.take.new.self.blocks.items) (sym (c.set.ensures ∙ at.put))
    (subst (λ m. IsKept users (set files place file) m c.take.new.self.blocks.items) (sym (ap (λ g. g.entries) (c.take.ensures.names ∙ c.give.ensures.names)))
    (record { records = at.rules; index = index; newest = newest; topped = topped; used = used }))
