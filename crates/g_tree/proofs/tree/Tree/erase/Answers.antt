-- The file of the number goes, and with it its name, its version and its blocks.
use Rattle.std.proofs.Common.{◌≡◌, ◌≤◌, ◌-◌, Some, get_or, sym, ap, subst, ◌∙◌, is_some, true≢false}
use Rattle.std.proofs.Math.ListN.{set}
use Rattle.std.specs.Option.{option_copied}
use Rattle.std.specs.FinMap.{get}
use Rattle.g_base.specs.Block.{blocks_for}
use Rattle.g_tree.specs.Records.{IsRecords, by_number, full_of, tree_of, name_of_file}
use Rattle.g_tree.specs.State.{AreIndexed, AreNewest, AreUsed, IsKept, without_file}
use Rattle.g_tree.proofs.PlaceLemmas.{named_here, number_below, rec_found, stands_at}
use Rattle.g_tree.proofs.RightLemmas.{owner_within}
use Rattle.g_tree.proofs.ChangeLemmas.{removed_list, removed_rules}
use Rattle.g_tree.proofs.CountLemmas.{erased_used, owner_at, give_some}
use Rattle.g_tree.proofs.LawLemmas.{tree_erased}
use Rattle.g_tree.proofs.tree.Tree.erase.Goals as goal

pub unreachable-requires : goal.unreachable-requires
unreachable-requires c =
    let files = c.self.inside.files in
    true≢false (sym c.requires ∙ ap (λ s. is_some (get (by_number s.files) c.args.number)) (sym c.self.view_is) ∙ ap is_some (rec_found files c.args.number ∙ sym c.get.ensures ∙ ap (λ o. option_copied o) c.in_default.is))

pub full_of-full-requires : goal.full_of-full-requires
full_of-full-requires c =
    let files = c.self.inside.files in
    owner_within c.self.inside.users.items files c.self.invariant.records c.as_slice.result.now c.args.number c.in-Some.file.now c.as_slice.ensures.value (rec_found files c.args.number ∙ sym c.in-Some.ensures)

pub take_out-requires-clause-records : goal.take_out-requires-clause-records
take_out-requires-clause-records c = subst (λ us. IsRecords us c.self.inside.files) (sym c.as_slice-2.ensures.value) c.self.invariant.records

pub take_out-requires-clause-index : goal.take_out-requires-clause-index
take_out-requires-clause-index c = subst (λ us. AreIndexed us c.self.inside.files c.self.inside.counts.names.entries) (sym c.as_slice-2.ensures.value) c.self.invariant.index

pub take_out-requires-clause-newest : goal.take_out-requires-clause-newest
take_out-requires-clause-newest c = subst (λ us. AreNewest us c.self.inside.files c.self.inside.counts.names.entries) (sym c.as_slice-2.ensures.value) c.self.invariant.newest

pub take_out-requires-clause-named : goal.take_out-requires-clause-named
take_out-requires-clause-named c =
    let files = c.self.inside.files in
    let r = c.in-Some.file.now in
    subst (λ us. name_of_file us files c.args.number ≡ Some c.full_of-full.result) (sym c.as_slice-2.ensures.value)
    (named_here c.self.inside.users.items files c.args.number r (sym c.in-Some.ensures) ∙ ap Some (ap (λ us. full_of us r) (sym c.as_slice.ensures.value) ∙ sym c.full_of-full.ensures))

pub take-requires : goal.take-requires
take-requires c = number_below c.self.inside.files c.self.invariant.records.numbers c.args.number c.in-Some.file.now (sym c.in-Some.ensures)

pub give-requires-clause-used : goal.give-requires-clause-used
give-requires-clause-used c =
    let users = c.self.inside.users.items in
    let files = c.self.inside.files in
    let is = c.self.invariant.records in
    let r = c.get-file.result.now in
    let found = sym c.take.ensures.was ∙ c.in-Some-take.is ∙ ap Some (sym c.get-file.ensures) in
    let (place, it) = stands_at files is.numbers c.args.number r found in
    subst (λ bs. blocks_for r.len ≤ get_or bs r.owner 0) (sym c.take_out.ensures.blocks) (give_some users files is place r it.at.within it.here c.self.inside.counts.blocks.items c.self.invariant.used)

pub invariant_of-self : goal.invariant_of-self
invariant_of-self c =
    let users = c.self.inside.users.items in
    let files = c.self.inside.files in
    let is = c.self.invariant.records in
    let number = c.args.number in
    let r = c.get-file.result.now in
    let found = sym c.take.ensures.was ∙ c.in-Some-take.is ∙ ap Some (sym c.get-file.ensures) in
    let (place, it) = stands_at files is.numbers number r found in
    let known = c.take_out.new.self.names.entries in
    let fewer = without_file number files in
    let gone = removed_list users files is number place it.at r in
    let index : AreIndexed users fewer known = subst (λ us. AreIndexed us fewer known) c.as_slice-2.ensures.value c.take_out.ensures.index in
    let newest : AreNewest users fewer known = subst (λ us. AreNewest us fewer known) c.as_slice-2.ensures.value c.take_out.ensures.newest in
    let used : AreUsed fewer c.give.new.self.blocks.items =
    subst (AreUsed fewer) (sym (c.give.ensures.blocks ∙ ap (λ bs. set bs r.owner (get_or bs r.owner 0 - blocks_for r.len)) c.take_out.ensures.blocks))
    (subst (λ fs. AreUsed fs (set c.self.inside.counts.blocks.items r.owner (get_or c.self.inside.counts.blocks.items r.owner 0 - blocks_for r.len))) gone
    (erased_used files place r c.self.inside.counts.blocks.items c.self.invariant.used (owner_at users files is place r it.at.within it.here) it.at.within it.here)) in
    subst (λ fs. IsKept users fs c.give.new.self.names.entries c.give.new.self.blocks.items) (sym c.take.ensures.files)
    (subst (λ m. IsKept users fewer m c.give.new.self.blocks.items) (sym (ap (λ g. g.entries) c.give.ensures.names))
    (record { records = subst (IsRecords users) gone (removed_rules users files is place it.at.within); index = index; newest = newest; topped = c.take_out.ensures.topped; used = used }))

pub returns-clause-files : goal.returns-clause-files
returns-clause-files c = c.take.ensures.files ∙ ap (λ s. without_file c.args.number s.files) c.self.view_is

pub returns-clause-tree : goal.returns-clause-tree
returns-clause-tree c = λ bytes next.
    let is = subst (λ s. IsRecords s.users s.files) c.self.view_is c.self.invariant.records in
    (λ i. tree_of ((c.self.view_is i).users) (returns-clause-files c i) bytes next) ∙ tree_erased c.args.self.now.users c.args.self.now.files bytes next is c.args.number

pub returns-clause-records : goal.returns-clause-records
returns-clause-records c =
    let users = c.self.inside.users.items in
    let files = c.self.inside.files in
    let is = c.self.invariant.records in
    let (place, it) = stands_at files is.numbers c.args.number c.in-Some.file.now (sym c.in-Some.ensures) in
    subst (IsRecords users) (removed_list users files is c.args.number place it.at c.in-Some.file.now ∙ sym c.take.ensures.files) (removed_rules users files is place it.at.within)
