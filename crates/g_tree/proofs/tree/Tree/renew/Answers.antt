-- The blocks of the old file are subtracted, and those of the new one added.
use Rattle.std.proofs.Common.{◌≡◌, Some, is_some, length, sym, ap, subst, ◌∙◌, arith, true≢false}
use Rattle.std.proofs.Math.ListN.{set}
use Rattle.std.proofs.lemmas.List.{length-set}
use Rattle.std.specs.Option.{option_copied}
use Rattle.g_plain.proofs.Found.{same_some}
use Rattle.g_table.specs.Files.{rec_at}
use Rattle.g_tree.specs.Records.{IsRecords, full_of, name_of_file}
use Rattle.g_tree.specs.State.{AreIndexed, AreNewest, AreUsed, IsKept, with_file}
use Rattle.g_tree.proofs.PlaceLemmas.{named_here, named_there}
use Rattle.g_tree.proofs.PutLemmas.{set_at}
use Rattle.g_tree.proofs.EntryLemmas.{indexed_kept}
use Rattle.g_tree.proofs.CountLemmas.{owner_at, rest_used, give_some, give_there, put_owner, put_len, kept_newest, replaced_used}
use Rattle.g_tree.proofs.tree.Tree.renew.Goals as goal

pub unreachable-requires : goal.unreachable-requires
unreachable-requires c =
    let (r, it) = named_there c.args.self.now.users c.args.self.now.files c.args.file.number (full_of c.args.self.now.users c.args.file) c.requires.name in
    true≢false (ap is_some (sym it.found ∙ ap (λ s. rec_at s.files c.args.file.number) (sym c.self.view_is) ∙ sym c.get.ensures ∙ ap (λ o. option_copied o) c.in_default.is))

pub give-requires-clause-there : goal.give-requires-clause-there
give-requires-clause-there c =
    let users = c.self.inside.users.items in
    let files = c.self.inside.files in
    let is = c.self.invariant.records in
    let r = c.in-Some.old.now in
    let rules : IsRecords users (with_file c.args.file files) = subst (λ s. IsRecords s.users (with_file c.args.file s.files)) (sym c.self.view_is) c.requires.rules in
    let (place, at) = set_at users files is c.args.file r (sym c.in-Some.ensures) rules in
    give_there users files is place r at.at.within at.here c.self.inside.counts.blocks.items c.self.invariant.used

pub give-requires-clause-used : goal.give-requires-clause-used
give-requires-clause-used c =
    let users = c.self.inside.users.items in
    let files = c.self.inside.files in
    let is = c.self.invariant.records in
    let rules : IsRecords users (with_file c.args.file files) = subst (λ s. IsRecords s.users (with_file c.args.file s.files)) (sym c.self.view_is) c.requires.rules in
    let (place, at) = set_at users files is c.args.file c.in-Some.old.now (sym c.in-Some.ensures) rules in
    give_some users files is place c.in-Some.old.now at.at.within at.here c.self.inside.counts.blocks.items c.self.invariant.used

pub take-requires-clause-there : goal.take-requires-clause-there
take-requires-clause-there c =
    let users = c.self.inside.users.items in
    let files = c.self.inside.files in
    let is = c.self.invariant.records in
    let r = c.in-Some.old.now in
    let rules : IsRecords users (with_file c.args.file files) = subst (λ s. IsRecords s.users (with_file c.args.file s.files)) (sym c.self.view_is) c.requires.rules in
    let (place, at) = set_at users files is c.args.file r (sym c.in-Some.ensures) rules in
    let owner = put_owner users files is place r at.at.within at.here c.args.file at.rules in
    let len = ap length c.give.ensures.blocks ∙ length-set c.self.inside.counts.blocks.items r.owner _ ∙ c.self.invariant.used.places in
    omega (arith, owner, len)

pub take-requires-clause-used : goal.take-requires-clause-used
take-requires-clause-used c =
    let users = c.self.inside.users.items in
    let files = c.self.inside.files in
    let is = c.self.invariant.records in
    let r = c.in-Some.old.now in
    let rules : IsRecords users (with_file c.args.file files) = subst (λ s. IsRecords s.users (with_file c.args.file s.files)) (sym c.self.view_is) c.requires.rules in
    let (place, at) = set_at users files is c.args.file r (sym c.in-Some.ensures) rules in
    rest_used users files is place r at.at.within at.here c.self.inside.counts.blocks.items c.give.new.self.blocks.items c.args.file.owner c.self.invariant.used c.give.ensures.blocks

pub take-requires-clause-len : goal.take-requires-clause-len
take-requires-clause-len c =
    let users = c.self.inside.users.items in
    let files = c.self.inside.files in
    let is = c.self.invariant.records in
    let r = c.in-Some.old.now in
    let rules : IsRecords users (with_file c.args.file files) = subst (λ s. IsRecords s.users (with_file c.args.file s.files)) (sym c.self.view_is) c.requires.rules in
    let (place, at) = set_at users files is c.args.file r (sym c.in-Some.ensures) rules in
    put_len users files is place r at.at.within at.here c.args.file at.rules

pub invariant_of-self : goal.invariant_of-self
invariant_of-self c =
    let users = c.self.inside.users.items in
    let files = c.self.inside.files in
    let file = c.args.file in
    let is = c.self.invariant.records in
    let counts = c.self.inside.counts in
    let r = c.in-Some.old.now in
    let rules : IsRecords users (with_file file files) = subst (λ s. IsRecords s.users (with_file file s.files)) (sym c.self.view_is) c.requires.rules in
    let (place, at) = set_at users files is file r (sym c.in-Some.ensures) rules in
    let within = at.at.within in
    let named : full_of users r ≡ full_of users file =
    same_some (full_of users r) (full_of users file)
    (sym (named_here users files file.number r (sym c.in-Some.ensures)) ∙ subst (λ s. name_of_file s.users s.files file.number ≡ Some (full_of s.users file)) (sym c.self.view_is) c.requires.name) in
    let number : r.number ≡ file.number = ap (λ s. s.number) at.here ∙ at.at.has r in
    let index : AreIndexed users (set files place file) counts.names.entries = indexed_kept users files place r file counts.names.entries within at.here named number c.self.invariant.index in
    let newest : AreNewest users (set files place file) counts.names.entries = kept_newest users files place r within at.here file counts.names.entries c.self.invariant.newest named in
    let used : AreUsed (set files place file) c.take.new.self.blocks.items =
    subst (AreUsed (set files place file)) (sym c.take.ensures.blocks)
    (replaced_used files place r file counts.blocks.items c.give.new.self.blocks.items c.self.invariant.used (owner_at users files is place r within at.here) (put_owner users files is place r within at.here file at.rules) within at.here c.give.ensures.blocks) in
    subst (λ fs. IsKept users fs c.take.new.self.names.entries c.take.new.self.blocks.items) (sym (c.set.ensures ∙ at.put))
    (subst (λ m. IsKept users (set files place file) m c.take.new.self.blocks.items) (sym (ap (λ g. g.entries) (c.take.ensures.names ∙ c.give.ensures.names)))
    (record { records = at.rules; index = index; newest = newest; topped = c.self.invariant.topped; used = used }))
