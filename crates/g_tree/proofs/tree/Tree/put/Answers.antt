-- A file in the place of another, or at its own.
use Rattle.std.proofs.Common.{◌≡◌, ◌≤◌, ◌<◌, ◌⊎◌, ℕ, ◌+◌, List, false, is_some, max, get_or, refl, sym, ap, subst, ◌∙◌, arith, Some, length}
use Rattle.std.proofs.Math.ListN.{set}
use Rattle.std.specs.List as list
use Rattle.g_base.specs.Block.{blocks_for}
use Rattle.g_entry.specs.declared.user_rec.UserRec.{UserRec}
use Rattle.g_entry.specs.declared.file_rec.FileRec.{FileRec}
use Rattle.g_table.specs.Files.{rec_at}
use Rattle.g_tree.specs.Records.{IsRecords, full_of, tree_of, number_of}
use Rattle.g_tree.specs.State.{IsKept, AreIndexed, AreNewest, AreUsed, HasNumber, HasNewest, HasTop, IsTopped, newest_in, risen, top_in, with_file}
use Rattle.g_tree.proofs.PlaceLemmas.{fits_at}
use Rattle.g_tree.proofs.PutLemmas.{owner_there, file_ruled, number_few, with_new, named_fits, still_room}
use Rattle.g_tree.proofs.EntryLemmas.{indexed_in, topped_more}
use Rattle.g_tree.proofs.LawLemmas.{tree_put}
use Rattle.g_tree.proofs.CountLemmas.{new_newest, new_used, used_few, owner_few}
use Rattle.g_tree.proofs.tree.Tree.put.Goals as goal

-- A name whose number is new belongs to no file.
unnamed : (users : List UserRec) (files : List FileRec) (file : FileRec) → IsRecords users files → is_some (rec_at files file.number) ≡ false → number_of users files (full_of users file) ≡ Some file.number → ⊥
unnamed users files file is none e = let (place, fits) = fits_at files is.numbers file.number none in named_fits users files is file.number (full_of users file) place e fits

-- If no file has the number, memory is reserved.
room_there : (users : List UserRec) (files : List FileRec) (file : FileRec) (spare : ℕ) → IsRecords users files → is_some (rec_at files file.number) ≡ false
    → (1 ≤ spare) ⊎ (number_of users files (full_of users file) ≡ Some file.number) → 1 ≤ spare
room_there users files file spare is none room = still_room users files (full_of users file) file.number spare room (unnamed users files file is none)

pub replace-requires-clause-there : goal.replace-requires-clause-there
replace-requires-clause-there c = ap is_some (ap (λ s. rec_at s.files c.args.file.number) (sym c.self.view_is) ∙ sym c.in-Some.ensures)

pub returns-in-Some-clause-tree : goal.returns-in-Some-clause-tree
returns-in-Some-clause-tree c = λ bytes next.
    let is = subst (λ s. IsRecords s.users s.files) c.self.view_is c.self.invariant.records in
    (λ i. tree_of (c.replace.ensures.users i) (c.replace.ensures.files i) bytes next) ∙ tree_put c.args.self.now.users c.args.self.now.files bytes next is c.args.file c.requires.rules

pub put-requires-clause-owner : goal.put-requires-clause-owner
put-requires-clause-owner c =
    subst (λ us. c.args.file.owner < length us) (ap (λ s. s.users) (sym c.self.view_is) ∙ sym c.as_slice.ensures.value) (owner_there c.args.self.now.users c.args.self.now.files c.args.file c.requires.rules)

pub put-requires-clause-room : goal.put-requires-clause-room
put-requires-clause-room c =
    let room = subst (λ s. (1 ≤ s.spare) ⊎ (number_of s.users s.files (full_of s.users c.args.file) ≡ Some c.args.file.number)) (sym c.self.view_is) c.requires.room in
    let spare = room_there c.self.inside.users.items c.self.inside.files c.args.file _ c.self.invariant.records (ap is_some (sym c.in-None.ensures)) room in
    omega (arith, spare)

pub put_new-requires-clause-room : goal.put_new-requires-clause-room
put_new-requires-clause-room c =
    let room = subst (λ s. (1 ≤ s.spare) ⊎ (number_of s.users s.files (full_of s.users c.args.file) ≡ Some c.args.file.number)) (sym c.self.view_is) c.requires.room in
    let spare = room_there c.self.inside.users.items c.self.inside.files c.args.file _ c.self.invariant.records (ap is_some (sym c.in-None.ensures)) room in
    omega (arith, spare)

pub put_new-requires-clause-number : goal.put_new-requires-clause-number
put_new-requires-clause-number c = number_few c.args.self.now.users c.args.self.now.files c.args.file c.requires.rules

pub take-requires-clause-there : goal.take-requires-clause-there
take-requires-clause-there c =
    let owner = owner_few c.self.inside.users.items c.self.inside.files c.self.invariant.records c.args.file.owner
    (owner_there c.self.inside.users.items c.self.inside.files c.args.file (subst (λ s. IsRecords s.users (with_file c.args.file s.files)) (sym c.self.view_is) c.requires.rules)) in
    let places = ap length c.put.ensures.blocks ∙ c.self.invariant.used.places in
    omega (arith, owner, places)

pub take-requires-clause-used : goal.take-requires-clause-used
take-requires-clause-used c =
    subst (λ bs. get_or bs c.args.file.owner 0 ≤ 131072) (sym c.put.ensures.blocks)
    (used_few c.self.inside.users.items c.self.inside.files c.self.invariant.records c.self.inside.counts.blocks.items c.args.file.owner c.self.invariant.used)

pub take-requires-clause-len : goal.take-requires-clause-len
take-requires-clause-len c = (file_ruled c.args.self.now.users c.args.self.now.files c.args.file c.requires.rules).len

pub invariant_of-self : goal.invariant_of-self
invariant_of-self c =
    let users = c.self.inside.users.items in
    let files = c.self.inside.files in
    let file = c.args.file in
    let old = c.self.inside.counts.names.entries in
    let (place, fits) = fits_at files c.self.invariant.records.numbers file.number (ap is_some (sym c.in-None.ensures)) in
    let rules : IsRecords users (with_file file files) = subst (λ s. IsRecords s.users (with_file file s.files)) (sym c.self.view_is) c.requires.rules in
    let between : IsRecords users (list.insert files place file) = subst (IsRecords users) (with_new file files place fits) rules in
    let items : c.put_new.new.files ≡ list.insert files place file = c.put_new.ensures ∙ with_new file files place fits in
    let owner = owner_few users files c.self.invariant.records file.owner (owner_there users files file rules) in
    let index : AreIndexed users (list.insert files place file) c.put.new.self.names.entries =
    indexed_in users files place file old c.put.new.self.names.entries between c.self.invariant.index
    (subst (λ us. HasNumber old c.put.new.self.names.entries (full_of us file) (Some file.number)) c.as_slice.ensures.value c.put.ensures.numbers) in
    let newest : AreNewest users (list.insert files place file) c.put.new.self.names.entries =
    new_newest users files place file old c.put.new.self.names.entries c.self.invariant.newest
    (subst (λ us. HasNewest old c.put.new.self.names.entries (full_of us file) (max (newest_in old (full_of us file)) file.generation)) c.as_slice.ensures.value c.put.ensures.newest) in
    let topped : IsTopped c.put.new.self.names.entries =
    topped_more old c.put.new.self.names.entries (full_of users file) c.self.invariant.topped file.generation file.number refl
    (subst (λ us. HasNumber old c.put.new.self.names.entries (full_of us file) (Some file.number)) c.as_slice.ensures.value c.put.ensures.numbers)
    (subst (λ us. HasNewest old c.put.new.self.names.entries (full_of us file) (max (newest_in old (full_of us file)) file.generation)) c.as_slice.ensures.value c.put.ensures.newest)
    (subst (λ us. HasTop old c.put.new.self.names.entries (full_of us file) (risen (newest_in old (full_of us file)) (top_in old (full_of us file)) file.generation file.number)) c.as_slice.ensures.value c.put.ensures.top) in
    let used : AreUsed (list.insert files place file) c.take.new.self.blocks.items =
    subst (AreUsed (list.insert files place file)) (sym (c.take.ensures.blocks ∙ ap (λ bs. set bs file.owner (get_or bs file.owner 0 + blocks_for file.len)) c.put.ensures.blocks))
    (new_used files place file c.self.inside.counts.blocks.items c.self.invariant.used owner) in
    subst (λ fs. IsKept users fs c.take.new.self.names.entries c.take.new.self.blocks.items) (sym items)
    (subst (λ m. IsKept users (list.insert files place file) m c.take.new.self.blocks.items) (sym (ap (λ g. g.entries) c.take.ensures.names))
    (record { records = between; index = index; newest = newest; topped = topped; used = used }))

pub returns-in-None-clause-files : goal.returns-in-None-clause-files
returns-in-None-clause-files c = c.put_new.ensures ∙ ap (λ s. with_file c.args.file s.files) c.self.view_is

pub returns-in-None-clause-same_name : goal.returns-in-None-clause-same_name
returns-in-None-clause-same_name c = λ e.
    let none = ap is_some (ap (λ s. rec_at s.files c.args.file.number) (sym c.self.view_is) ∙ sym c.in-None.ensures) in
    absurd (unnamed c.args.self.now.users c.args.self.now.files c.args.file (subst (λ s. IsRecords s.users s.files) c.self.view_is c.self.invariant.records) none e)

pub returns-in-None-clause-tree : goal.returns-in-None-clause-tree
returns-in-None-clause-tree c = λ bytes next.
    let is = subst (λ s. IsRecords s.users s.files) c.self.view_is c.self.invariant.records in
    (λ i. tree_of ((c.self.view_is i).users) (returns-in-None-clause-files c i) bytes next)
    ∙ tree_put c.args.self.now.users c.args.self.now.files bytes next is c.args.file c.requires.rules
