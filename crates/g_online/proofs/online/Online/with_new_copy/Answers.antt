use Rattle.std.proofs.Common.{ℕ, ◌≡◌, ◌+◌, ◌∙◌, Bool, List, [], length, Err, ap, arith, refl, subst}
use Rattle.std.specs.Prelude.{OnOk}
use Rattle.g_base.specs.Block.{blocks_for}
use Rattle.g_blocks.specs.Pool.{HasTaken, free_count}
use Rattle.g_copy.specs.declared.copy.DiscCopy.{DiscCopy}
use Rattle.g_online.specs.Invariant.{Memory, head_after}
use Rattle.g_online.specs.Unloading.{places_off}
use Rattle.g_online.specs.NewBytes.{TakesBeside, with_bytes}
use Rattle.g_online.proofs.MemoryLemmas.{memory}
use Rattle.g_online.proofs.NeedLemmas.{IsAsked, asked_below, asked_blocks, asked_copies, asked_marked, asked_moved, asked_refused, asked_rules, asked_stopped}
use Rattle.g_online.proofs.NeedLemmas.{full_moved, only_moved, taken_moved, unjammed_copy}
use Rattle.g_online.proofs.NewBytesLemmas.{IsPrepared, IsPutIn, block_below, bytes_answer, bytes_asked, bytes_ready, bytes_short, commit_answers}
use Rattle.g_online.proofs.NewBytesLemmas.{has_written, may_give_back, owner_fits, prepare, put_in, record_fits, writes_stopped}
use Rattle.g_online.proofs.ReadyLemmas.{CoversBut}
use Rattle.g_online.proofs.RecordLemmas.{keeps_marked, keeps_then}
use Rattle.g_online.proofs.StepLemmas.{copies_for, kept_behind, marked_for}
use Rattle.g_online.proofs.online.Online.with_new_copy.Goals as goal
use Rattle.g_online.proofs.online.Online.with_new_copy.Goals.{After-put_record, In-Ok, In-Ok-unjam_first}

-- what is in memory when the blocks are taken
abbrev start : (g : _) (c : In-Ok g) → Memory
start g c =
    memory c.self.inside.slots c.self.inside.pages c.self.inside.pool c.make_ready.new.tree.users c.make_ready.new.tree.files c.self.inside.head
    c.make_ready.new.online c.self.inside.pins c.self.inside.changed c.self.inside.touched c.self.inside.live

asked : (g : _) (c : In-Ok g)
    → IsAsked (length c.as_slice-content.result.now) c.as_slice-numbers.result.now (with_bytes c.args.rec c.args.number c.as_slice-content.result.now [])
    (with_bytes c.args.rec c.args.number c.as_slice-content.result.now c.as_slice-numbers.result.now) c.args.self.now (g.D.Disc.state c.self.inside.disc)
    (start g c)
asked g c =
    asked_moved _ _ _ _ _ _ _ _ _ _ c.make_ready.ensures.users c.make_ready.ensures.files c.make_ready.ensures.copies
    (bytes_asked c.args.rec c.args.number c.args.bytes.now _ c.args.unjam.now _ c.args.self.now _ _ c.as_slice-content.ensures c.as_slice-numbers.ensures
    c.self.view_is c.self.invariant c.requires.allowed)

takes : (g : _) (c : In-Ok g)
    → TakesBeside (places_off c.as_slice-numbers.result.now c.make_ready.new.online) (length c.as_slice-content.result.now) c.self.inside.pool
    c.make_ready.new.pool c.in-Ok.copy
takes g c = taken_moved _ _ _ _ _ _ _ c.make_ready.ensures.copies c.in-Ok.ensures.ok

-- and when the files are taken off
abbrev ready_for : (g : _) (c : In-Ok-unjam_first g) → Memory
ready_for g c =
    memory c.self.inside.slots c.self.inside.pages c.self.inside.pool c.make_ready.new.tree.users c.make_ready.new.tree.files c.self.inside.head
    c.make_ready.new.online c.self.inside.pins c.self.inside.changed c.self.inside.touched c.self.inside.live

prepared : (g : _) (c : In-Ok-unjam_first g)
    → IsPrepared c.args.rec c.args.number c.as_slice-content.result.now c.as_slice-numbers.result.now c.args.self.now (g.D.Disc.state c.self.inside.disc)
    (g.D.Disc.state c.unjam_first.new.disc) (ready_for g c) c.make_ready.new.pool c.in-Ok.copy (record {
      side = c.unjam_first.new.slots;
      pages = c.unjam_first.new.pages;
      head = c.unjam_first.new.head;
      online = c.unjam_first.new.online;
      live = c.unjam_first.new.live;
    })
prepared g c =
    prepare _ _ _ _ _ _ _ _ _ _ _ _ c.is_some-pinned.result c.requires.number
    (asked_moved _ _ _ _ _ _ _ _ _ _ c.make_ready.ensures.users c.make_ready.ensures.files c.make_ready.ensures.copies
    (bytes_asked c.args.rec c.args.number c.args.bytes.now _ c.args.unjam.now _ c.args.self.now _ _ c.as_slice-content.ensures c.as_slice-numbers.ensures
    c.self.view_is c.self.invariant c.requires.allowed))
    (taken_moved _ _ _ _ _ _ _ c.make_ready.ensures.copies c.in-Ok.ensures.ok) c.is_some-pinned.ensures
    c.in-Ok-unjam_first.ensures.none c.in-Ok-unjam_first.ensures.off

pub overflow_cast-content : goal.overflow_cast-content
overflow_cast-content g c =
    let short =
    (bytes_short c.args.rec c.args.number c.args.bytes.now c.as_slice-content.result.now c.args.unjam.now c.args.self.now (g.D.Disc.state c.self.inside.disc)
    _
    c.requires.number c.as_slice-content.ensures c.self.view_is c.self.invariant c.requires.allowed).0 in
    omega (arith, short)

pub make_ready-requires-clause-apart : goal.make_ready-requires-clause-apart
make_ready-requires-clause-apart g c =
    (asked_blocks _ _ _ _ _ _ _
    (bytes_asked c.args.rec c.args.number c.args.bytes.now c.as_slice-content.result.now c.args.unjam.now c.as_slice-numbers.result.now c.args.self.now _ _
    c.as_slice-content.ensures c.as_slice-numbers.ensures c.self.view_is c.self.invariant c.requires.allowed)).0

pub make_ready-requires-clause-taken : goal.make_ready-requires-clause-taken
make_ready-requires-clause-taken g c =
    (asked_blocks _ _ _ _ _ _ _
    (bytes_asked c.args.rec c.args.number c.args.bytes.now c.as_slice-content.result.now c.args.unjam.now c.as_slice-numbers.result.now c.args.self.now _ _
    c.as_slice-content.ensures c.as_slice-numbers.ensures c.self.view_is c.self.invariant c.requires.allowed)).1

pub make_ready-requires-clause-len : goal.make_ready-requires-clause-len
make_ready-requires-clause-len g c =
    (bytes_short c.args.rec c.args.number c.args.bytes.now c.as_slice-content.result.now c.args.unjam.now c.args.self.now (g.D.Disc.state c.self.inside.disc)
    _
    c.requires.number c.as_slice-content.ensures c.self.view_is c.self.invariant c.requires.allowed).0

pub invariant_of-self : goal.invariant_of-self
invariant_of-self g c =
    (asked_refused _ _ _ _ _ _ _
    (asked_moved _ _ _ _ _ _ _ _ _ _ c.make_ready.ensures.users c.make_ready.ensures.files c.make_ready.ensures.copies
    (bytes_asked c.args.rec c.args.number c.args.bytes.now c.as_slice-content.result.now c.args.unjam.now c.as_slice-numbers.result.now c.args.self.now _ _
    c.as_slice-content.ensures c.as_slice-numbers.ensures c.self.view_is c.self.invariant c.requires.allowed))
    c.in-Err.fault c.make_ready.new.pool c.in-Err.ensures.same
    (full_moved {T = DiscCopy} (Err c.in-Err.fault) c.as_slice-numbers.result.now c.self.inside.online c.make_ready.new.online (free_count
    c.self.inside.pool)
    (blocks_for (length c.as_slice-content.result.now)) c.make_ready.ensures.copies c.in-Err.ensures.full)
    (only_moved c.in-Err.fault c.as_slice-numbers.result.now c.self.inside.online c.make_ready.new.online (free_count c.self.inside.pool)
    (blocks_for (length c.as_slice-content.result.now)) c.make_ready.ensures.copies c.in-Err.ensures.only)).0

pub returns-in-Err : goal.returns-in-Err
returns-in-Err g c =
    bytes_answer c.args.rec c.args.number c.args.bytes.now _ c.args.unjam.now _ c.args.self.now _ _ c.as_slice-content.ensures c.as_slice-numbers.ensures
    (asked_refused _ _ _ _ _ _ _
    (asked_moved _ _ _ _ _ _ _ _ _ _ c.make_ready.ensures.users c.make_ready.ensures.files c.make_ready.ensures.copies
    (bytes_asked c.args.rec c.args.number c.args.bytes.now c.as_slice-content.result.now c.args.unjam.now c.as_slice-numbers.result.now c.args.self.now _ _
    c.as_slice-content.ensures c.as_slice-numbers.ensures c.self.view_is c.self.invariant c.requires.allowed))
    c.in-Err.fault c.make_ready.new.pool c.in-Err.ensures.same
    (full_moved {T = DiscCopy} (Err c.in-Err.fault) c.as_slice-numbers.result.now c.self.inside.online c.make_ready.new.online (free_count
    c.self.inside.pool)
    (blocks_for (length c.as_slice-content.result.now)) c.make_ready.ensures.copies c.in-Err.ensures.full)
    (only_moved c.in-Err.fault c.as_slice-numbers.result.now c.self.inside.online c.make_ready.new.online (free_count c.self.inside.pool)
    (blocks_for (length c.as_slice-content.result.now)) c.make_ready.ensures.copies c.in-Err.ensures.only)).1

pub unjam_first-requires-clause-below : goal.unjam_first-requires-clause-below
unjam_first-requires-clause-below g c = asked_below _ _ _ _ _ _ _ (asked g (goal.at.unjam_first-requires-clause-below g c).In-Ok)

pub unjam_first-requires-clause-copies : goal.unjam_first-requires-clause-copies
unjam_first-requires-clause-copies g c = asked_copies _ _ _ _ _ _ _ (asked g (goal.at.unjam_first-requires-clause-copies g c).In-Ok)

pub unjam_first-requires-clause-marked : goal.unjam_first-requires-clause-marked
unjam_first-requires-clause-marked g c = asked_marked _ _ _ _ _ _ _ (asked g (goal.at.unjam_first-requires-clause-marked g c).In-Ok)

pub unjam_first-requires-clause-records : goal.unjam_first-requires-clause-records
unjam_first-requires-clause-records g c =
    let at = (goal.at.unjam_first-requires-clause-records g c).In-Ok in
    (asked_rules _ _ _ _ _ _ _ (asked g at) _ _ (takes g at) c.is_some-pinned.result c.is_some-pinned.ensures).0

pub unjam_first-requires-clause-rules : goal.unjam_first-requires-clause-rules
unjam_first-requires-clause-rules g c =
    let at = (goal.at.unjam_first-requires-clause-rules g c).In-Ok in
    (asked_rules _ _ _ _ _ _ _ (asked g at) _ _ (takes g at) c.is_some-pinned.result c.is_some-pinned.ensures).1

pub invariant_of-self-in-Err-unjam_first : goal.invariant_of-self-in-Err-unjam_first
invariant_of-self-in-Err-unjam_first g c =
    let at = (goal.at.invariant_of-self-in-Err-unjam_first g c).In-Ok in
    (asked_stopped _ _ _ _ _ _ _ (asked g at) _ _ (takes g at) (g.D.Disc.state c.unjam_first.new.disc) _ c.in-Err-unjam_first.fault c.is_some-pinned.result
    c.is_some-pinned.ensures c.in-Err-unjam_first.ensures.none c.in-Err-unjam_first.ensures.off).0

pub returns-in-Err-unjam_first : goal.returns-in-Err-unjam_first
returns-in-Err-unjam_first g c =
    let at = (goal.at.returns-in-Err-unjam_first g c).In-Ok in
    bytes_answer c.args.rec c.args.number c.args.bytes.now _ c.args.unjam.now _ c.args.self.now _ _ c.as_slice-content.ensures c.as_slice-numbers.ensures
    (asked_stopped _ _ _ _ _ _ _ (asked g at) _ _ (takes g at) (g.D.Disc.state c.unjam_first.new.disc) _ c.in-Err-unjam_first.fault c.is_some-pinned.result
    c.is_some-pinned.ensures c.in-Err-unjam_first.ensures.none c.in-Err-unjam_first.ensures.off).1

pub write_new-requires-clause-size : goal.write_new-requires-clause-size
write_new-requires-clause-size g c = (prepared g (goal.at.write_new-requires-clause-size g c).In-Ok-unjam_first).un.kept.size

pub write_new-requires-clause-copy : goal.write_new-requires-clause-copy
write_new-requires-clause-copy g c =
    let it = prepared g (goal.at.write_new-requires-clause-copy g c).In-Ok-unjam_first in
    unjammed_copy _ _ _ _ _ _ _ _ _ _ it.takes it.un refl

pub write_new-requires-clause-len : goal.write_new-requires-clause-len
write_new-requires-clause-len g c = (prepared g (goal.at.write_new-requires-clause-len g c).In-Ok-unjam_first).takes.len

pub invariant_of-self-in-Err-write_new : goal.invariant_of-self-in-Err-write_new
invariant_of-self-in-Err-write_new g c =
    (writes_stopped _ _ _ _ _ _ _ _ _ _ _ (prepared g (goal.at.invariant_of-self-in-Err-write_new g c).In-Ok-unjam_first) (g.D.Disc.state
    c.write_new.new.disc) c.write_new.new.live c.in-Err-write_new.fault
    c.in-Err-write_new.ensures.counts c.in-Err-write_new.ensures.stopped c.write_new.ensures.whole c.in-Err-write_new.ensures.dies
    c.in-Err-write_new.ensures.only).0

pub returns-in-Err-write_new : goal.returns-in-Err-write_new
returns-in-Err-write_new g c =
    bytes_answer c.args.rec c.args.number c.args.bytes.now _ c.args.unjam.now _ c.args.self.now _ _ c.as_slice-content.ensures c.as_slice-numbers.ensures
    (writes_stopped _ _ _ _ _ _ _ _ _ _ _ (prepared g (goal.at.returns-in-Err-write_new g c).In-Ok-unjam_first) (g.D.Disc.state c.write_new.new.disc)
    c.write_new.new.live c.in-Err-write_new.fault
    c.in-Err-write_new.ensures.counts c.in-Err-write_new.ensures.stopped c.write_new.ensures.whole c.in-Err-write_new.ensures.dies
    c.in-Err-write_new.ensures.only).1

-- when the bytes are written, and when all is inserted
abbrev written_in : (g : _) (c : After-put_record g) → List Bool → Memory
written_in g c pool =
    memory c.unjam_first.new.slots c.unjam_first.new.pages pool c.make_ready.new.tree.users c.make_ready.new.tree.files c.unjam_first.new.head
    c.unjam_first.new.online c.self.inside.pins c.self.inside.changed c.self.inside.touched c.unjam_first.new.live

put : (g : _) (c : After-put_record g) (between : List Bool) → HasTaken c.in-Ok.copy.blocks between c.make_ready.new.pool
    → IsPutIn c.args.number c.in-Ok.copy (written_in g c between) c.args.rec c.make_ready.new.pool c.is_kept_at-keeps.result c.is_some-pinned.result
    c.changed.new.self
    (put_in (written_in g c between) c.replace_copy.new.pool c.changed-2.new.self c.kept_head-self-inside.result c.put_record.new.tree.users
    c.put_record.new.tree.files
    c.replace_copy.new.online c.put_record.new.changed c.put_record.new.touched)
put g c between taken = record {
  taken = taken;
  keeps_is = c.is_kept_at-keeps.ensures;
  gives = c.replace_copy.ensures.blocks;
  pages = keeps_then _ c.changed.new.self c.changed-2.new.self (keeps_marked 0 _ c.changed.new.self c.changed.ensures.marks)
      (keeps_marked (64 + c.from.result) c.changed.new.self c.changed-2.new.self c.changed-2.ensures.marks);
  remembers = λ blocks was. c.changed-2.ensures.remembers blocks (c.changed.ensures.remembers blocks was);
  first_covers = c.changed.ensures.covers;
  covers = subst (λ (k : ℕ). CoversBut (64 + k) c.changed.new.self c.changed-2.new.self) c.from.ensures c.changed-2.ensures.covers;
  pinned_is = c.is_some-pinned.ensures;
  head = c.kept_head-self-inside.ensures ∙ ap (head_after c.is_some-pinned.result) c.stamped.ensures;
  users = c.put_record.ensures.users;
  files = c.put_record.ensures.files;
  online = c.replace_copy.ensures.copies;
  changed = c.put_record.ensures.changed;
  touched = c.put_record.ensures.touched;
}

pub replace_copy-requires-clause-below : goal.replace_copy-requires-clause-below
replace_copy-requires-clause-below g c =
    (bytes_short c.args.rec c.args.number c.args.bytes.now c.as_slice-content.result.now c.args.unjam.now c.args.self.now (g.D.Disc.state c.self.inside.disc)
    _
    c.requires.number c.as_slice-content.ensures c.self.view_is c.self.invariant c.requires.allowed).1

pub replace_copy-requires-clause-apart : goal.replace_copy-requires-clause-apart
replace_copy-requires-clause-apart g c = λ free.
    let it = prepared g (goal.at.replace_copy-requires-clause-apart g c).In-Ok-unjam_first in
    (may_give_back _ _ _ _ _ _ _ _ _ (has_written _ _ _ _ _ _ _ _ _ _ _ it (g.D.Disc.state c.write_new.new.disc) c.write_new.ensures.whole
    c.in-Ok-write_new.ensures.counts c.in-Ok-write_new.ensures.ok)
    c.make_ready.new.pool c.is_kept_at-keeps.result it.takes.takes c.is_kept_at-keeps.ensures free).0

pub replace_copy-requires-clause-taken : goal.replace_copy-requires-clause-taken
replace_copy-requires-clause-taken g c = λ free.
    let it = prepared g (goal.at.replace_copy-requires-clause-taken g c).In-Ok-unjam_first in
    (may_give_back _ _ _ _ _ _ _ _ _ (has_written _ _ _ _ _ _ _ _ _ _ _ it (g.D.Disc.state c.write_new.new.disc) c.write_new.ensures.whole
    c.in-Ok-write_new.ensures.counts c.in-Ok-write_new.ensures.ok)
    c.make_ready.new.pool c.is_kept_at-keeps.result it.takes.takes c.is_kept_at-keeps.ensures free).1

pub changed-requires-2 : goal.changed-requires-2
changed-requires-2 g c =
    block_below c.args.number c.from.result c.from.ensures
    (bytes_short c.args.rec c.args.number c.args.bytes.now c.as_slice-content.result.now c.args.unjam.now c.args.self.now (g.D.Disc.state c.self.inside.disc)
    _
    c.requires.number c.as_slice-content.ensures c.self.view_is c.self.invariant c.requires.allowed).1

pub put_record-requires-clause-room : goal.put_record-requires-clause-room
put_record-requires-clause-room g c = c.in-Ok.ensures.spare

pub put_record-requires-clause-rules : goal.put_record-requires-clause-rules
put_record-requires-clause-rules g c =
    record_fits _ _ _ _ _ _ _ _ _
    (has_written _ _ _ _ _ _ _ _ _ _ _ (prepared g (goal.at.put_record-requires-clause-rules g c).In-Ok-unjam_first) (g.D.Disc.state c.write_new.new.disc)
    c.write_new.ensures.whole
    c.in-Ok-write_new.ensures.counts c.in-Ok-write_new.ensures.ok)

pub put_record-requires-clause-owner : goal.put_record-requires-clause-owner
put_record-requires-clause-owner g c =
    owner_fits _ _ _ _ _ _ _ _ _
    (has_written _ _ _ _ _ _ _ _ _ _ _ (prepared g (goal.at.put_record-requires-clause-owner g c).In-Ok-unjam_first) (g.D.Disc.state c.write_new.new.disc)
    c.write_new.ensures.whole
    c.in-Ok-write_new.ensures.counts c.in-Ok-write_new.ensures.ok)

pub commit-requires-clause-copies : goal.commit-requires-clause-copies
commit-requires-clause-copies g c =
    let at = goal.at.commit-requires-clause-copies g c in
    let it = prepared g at.In-Ok-unjam_first in
    copies_for (with_bytes c.args.rec c.args.number c.as_slice-content.result.now []) (g.D.Disc.state c.write_new.new.disc) _ _
    (bytes_ready _ _ _ _ _ _ _ _ _
    (has_written _ _ _ _ _ _ _ _ _ _ _ it (g.D.Disc.state c.write_new.new.disc) c.write_new.ensures.whole c.in-Ok-write_new.ensures.counts
    c.in-Ok-write_new.ensures.ok)
    _ _ _ _ _ _ _ _ _ _ _ _ (put g at.After-put_record it.takes.between it.takes.takes))
    c.replace_copy.new.online refl

pub commit-requires-clause-marked : goal.commit-requires-clause-marked
commit-requires-clause-marked g c =
    let at = goal.at.commit-requires-clause-marked g c in
    let it = prepared g at.In-Ok-unjam_first in
    marked_for (with_bytes c.args.rec c.args.number c.as_slice-content.result.now []) (g.D.Disc.state c.write_new.new.disc) _ _
    (bytes_ready _ _ _ _ _ _ _ _ _
    (has_written _ _ _ _ _ _ _ _ _ _ _ it (g.D.Disc.state c.write_new.new.disc) c.write_new.ensures.whole c.in-Ok-write_new.ensures.counts
    c.in-Ok-write_new.ensures.ok)
    _ _ _ _ _ _ _ _ _ _ _ _ (put g at.After-put_record it.takes.between it.takes.takes))
    c.replace_copy.new.online refl

pub invariant_of-self-2 : goal.invariant_of-self-2
invariant_of-self-2 g c =
    let at = goal.at.invariant_of-self-2 g c in
    let it = prepared g at.In-Ok-unjam_first in
    kept_behind (with_bytes c.args.rec c.args.number c.as_slice-content.result.now []) (g.D.Disc.state c.write_new.new.disc) (g.D.Disc.state
    c.commit.new.disc) _ _
    c.commit.new.slots c.commit.new.pages
    (bytes_ready _ _ _ _ _ _ _ _ _
    (has_written _ _ _ _ _ _ _ _ _ _ _ it (g.D.Disc.state c.write_new.new.disc) c.write_new.ensures.whole c.in-Ok-write_new.ensures.counts
    c.in-Ok-write_new.ensures.ok)
    _ _ _ _ _ _ _ _ _ _ _ _ (put g at.After-put_record it.takes.between it.takes.takes))
    c.commit.new.live c.commit.result c.replace_copy.new.online refl c.commit.ensures.ok c.commit.ensures.counts c.commit.ensures.whole
    (subst (λ (l : Bool). OnOk c.commit.result (c.commit.new.live ≡ l)) c.in-Ok-write_new.ensures.lives c.commit.ensures.lives) c.commit.ensures.dies

pub returns : goal.returns
returns g c =
    let at = goal.at.returns g c in
    let it = prepared g at.In-Ok-unjam_first in
    bytes_answer c.args.rec c.args.number c.args.bytes.now _ c.args.unjam.now _ c.args.self.now _ _ c.as_slice-content.ensures c.as_slice-numbers.ensures
    (commit_answers _ _ _ _ _ _ _ _ _ _ _ it (g.D.Disc.state c.write_new.new.disc) (g.D.Disc.state c.commit.new.disc) _
    c.commit.new.slots c.commit.new.pages c.commit.new.live c.commit.result c.replace_copy.new.online
    (bytes_ready _ _ _ _ _ _ _ _ _
    (has_written _ _ _ _ _ _ _ _ _ _ _ it (g.D.Disc.state c.write_new.new.disc) c.write_new.ensures.whole c.in-Ok-write_new.ensures.counts
    c.in-Ok-write_new.ensures.ok)
    _ _ _ _ _ _ _ _ _ _ _ _ (put g at.After-put_record it.takes.between it.takes.takes))
    refl c.commit.ensures.ok c.commit.ensures.stopped c.commit.ensures.counts c.commit.ensures.whole c.commit.ensures.only
    (subst (λ (l : Bool). OnOk c.commit.result (c.commit.new.live ≡ l)) c.in-Ok-write_new.ensures.lives c.commit.ensures.lives) c.commit.ensures.dies)
