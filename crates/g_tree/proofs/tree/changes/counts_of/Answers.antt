-- One file more is remembered.
use Rattle.std.proofs.Common.{◌<◌, ◌≤◌, ◌+◌, length, get_or, refl, sym, ap, subst, take, ◌∙◌, arith}
use Rattle.std.proofs.Math.ListN.{set}
use Rattle.g_base.specs.Block.{blocks_for}
use Rattle.g_tree.specs.Records.{full_of}
use Rattle.g_tree.specs.State.{AreIndexed, AreNewest, AreUsed, IsTopped}
use Rattle.g_tree.proofs.CountLemmas.{no_newest, first_used, newest_push, used_push, take_some}
use Rattle.g_tree.proofs.EntryLemmas.{indexed_more, no_index, no_top, topped_more}
use Rattle.g_tree.proofs.tree.changes.counts_of.Goals as goal

pub reserve-requires : goal.reserve-requires
reserve-requires c = c.requires.among_files.few

pub loop-file-init : goal.loop-file-init
loop-file-init c = (
  no_index c.args.users.now c.reserve.new.self.names.entries (c.reserve.ensures.entries ∙ c.in_ok-counts.ensures.names),
  no_newest c.args.users.now c.reserve.new.self.names.entries (c.reserve.ensures.entries ∙ c.in_ok-counts.ensures.names),
  no_top c.reserve.new.self.names.entries (c.reserve.ensures.entries ∙ c.in_ok-counts.ensures.names),
  first_used c.reserve.new.self.blocks.items (c.reserve.ensures.blocks ∙ c.in_ok-counts.ensures.blocks),
  omega (arith, c.in_ok-reserve.ensures.ok),
)

pub put-requires-clause-owner : goal.put-requires-clause-owner
put-requires-clause-owner c =
    subst (λ s. s.owner < length c.args.users.now) (sym c.file-item.is) (c.requires.among_files.owners c.loop-file.file-index c.file-item.result c.loop-file-test.true)

pub put-requires-clause-room : goal.put-requires-clause-room
put-requires-clause-room c = omega (arith, c.loop-file.invariant.4, c.loop-file-test.true)

pub take-requires-clause-there : goal.take-requires-clause-there
take-requires-clause-there c =
    let some = take_some c.args.users.now c.args.files.now c.loop-file.file-index c.file-item.result c.loop-file-test.true c.file-item.is c.loop-file.counts.blocks.items c.requires c.loop-file.invariant.3 in
    subst (λ bs. c.file-item.result.owner < length bs) (sym c.put.ensures.blocks) some.0

pub take-requires-clause-used : goal.take-requires-clause-used
take-requires-clause-used c =
    let some = take_some c.args.users.now c.args.files.now c.loop-file.file-index c.file-item.result c.loop-file-test.true c.file-item.is c.loop-file.counts.blocks.items c.requires c.loop-file.invariant.3 in
    subst (λ bs. get_or bs c.file-item.result.owner 0 ≤ 131072) (sym c.put.ensures.blocks) some.1

pub take-requires-clause-len : goal.take-requires-clause-len
take-requires-clause-len c =
    let some = take_some c.args.users.now c.args.files.now c.loop-file.file-index c.file-item.result c.loop-file-test.true c.file-item.is c.loop-file.counts.blocks.items c.requires c.loop-file.invariant.3 in
    some.2

pub loop-file-preserved : goal.loop-file-preserved
loop-file-preserved c =
    let users = c.args.users.now in
    let files = c.args.files.now in
    let i = c.loop-file.file-index in
    let r = c.file-item.result in
    let counts = c.loop-file.counts in
    let known = c.put.new.self.names.entries in
    let same = sym (ap (λ g. g.entries) c.take.ensures.names) in
    let index : AreIndexed users (take (i + 1) files) c.take.new.self.names.entries =
    subst (AreIndexed users (take (i + 1) files)) same
    (indexed_more users files i r counts.names.entries known c.requires c.loop-file-test.true c.file-item.is c.loop-file.invariant.0 c.put.ensures.numbers) in
    let newest : AreNewest users (take (i + 1) files) c.take.new.self.names.entries =
    subst (AreNewest users (take (i + 1) files)) same
    (newest_push users files i r c.loop-file-test.true c.file-item.is counts.names.entries known c.loop-file.invariant.1 c.put.ensures.newest) in
    let topped : IsTopped c.take.new.self.names.entries =
    subst (λ m. IsTopped m) same (topped_more counts.names.entries known (full_of users r) c.loop-file.invariant.2 r.generation r.number refl c.put.ensures.numbers c.put.ensures.newest c.put.ensures.top) in
    let used : AreUsed (take (i + 1) files) c.take.new.self.blocks.items =
    subst (AreUsed (take (i + 1) files)) (sym (c.take.ensures.blocks ∙ ap (λ bs. set bs r.owner (get_or bs r.owner 0 + blocks_for r.len)) c.put.ensures.blocks))
    (used_push users files i r c.loop-file-test.true c.file-item.is counts.blocks.items c.requires c.loop-file.invariant.3) in
    let spare = ap (λ g. g.spare) c.take.ensures.names in
    (index, newest, topped, used, omega (arith, c.loop-file.invariant.4, c.put.ensures.spare, spare))
