-- What one commit leaves.
-- serves: commit (ok, stopped), StepLemmas
use Rattle.std.proofs.Common.{◌≡◌, ℕ, Bool, true, List, Option, sym, ◌∙◌, ap, subst, inl, inr, slice_get}
use Rattle.std.specs.Prelude.{◌⊎◌}
use Rattle.std.specs.Option.{ForSome}
use Rattle.g_base.specs.ToldContent.{Changes}
use Rattle.g_base.proofs.ToldLemmas.{told_after}
use Rattle.g_disc.specs.Disc.{DiscState, DurableAreSyncable, is_syncable}
use Rattle.g_disc.specs.Durable.{AreDurable, AreSyncable}
use Rattle.g_slots.specs.declared.side.Side.{Side}
use Rattle.g_slots.specs.declared.side.Side.TheVariants.{A, B}
use Rattle.g_slots.specs.Layout.{GateNames, other}
use Rattle.g_dirs.specs.Commit.{NewDirectory}
use Rattle.g_dirs.specs.Directory.{Directory, IsDirectory}
use Rattle.g_dirs.specs.Pages.{Covers, KeepsPages, Remembered, RemembersAll, Remembers, marks_of, pages_of}
use Rattle.g_dirs.specs.Durable.{AreRememberedSyncable, IsLive, IsOfFile}
use Rattle.g_online.specs.Commit.{AreSaved, HasCommitted, IsMarked}

-- the blocks of the slot that was current have the same marks
kept_side : (d : Directory) (side : Side) (old new : Remembered) → pages_of side new ≡ pages_of side old → marks_of side new ≡ marks_of side old → Covers d side old → Covers d side new
kept_side d side old new pages marks was = record {
  block = λ k less free.
      ap (λ (ps : List (Option (List ℕ))). slice_get ps k) pages ∙ was.block k less (ap (λ (ms : List Bool). slice_get ms k) (sym marks) ∙ free);
}

all_side : (d : Directory) (side : Side) (new : Remembered) → RemembersAll d (pages_of side new) → Covers d side new
all_side d side new all = record { block = λ k less free. all.block k less }

covers_next : (d : Directory) (side : Side) (old new : Remembered) → RemembersAll d (pages_of (other side) new) → pages_of side new ≡ pages_of side old → marks_of side new ≡ marks_of side old
    → ((s : Side) → Covers d s old) → (s : Side) → Covers d s new
covers_next d A old new all pages marks was A = kept_side d A old new pages marks (was A)
covers_next d A old new all pages marks was B = all_side d B new all
covers_next d B old new all pages marks was A = all_side d A new all
covers_next d B old new all pages marks was B = kept_side d B old new pages marks (was B)

pub has_committed : (d : Directory) (before after : DiscState) (side next : Side) (old new : Remembered) → IsMarked before side old d → after.size ≡ before.size
    → Changes (NewDirectory d) before.held after.held → next ≡ other side → GateNames next after.held → ForSome after.held (Remembers new) → RemembersAll d (pages_of next new)
    → pages_of side new ≡ pages_of side old → marks_of side new ≡ marks_of side old
    → (AreRememberedSyncable old before → AreRememberedSyncable new after) → (AreRememberedSyncable old before → AreSaved d before → AreDurable (IsLive next d) after)
    → HasCommitted d before after side next old new
has_committed d before after side next old new marked size content is gate remembers all pages marks remembered durable = record {
  content = content;
  stored = record {
    gate = gate;
    remembers = remembers;
    covers = covers_next d side old new (subst (λ (s : Side). RemembersAll d (pages_of s new)) is all) pages marks marked.covers;
    stands = told_after content (λ b a told done. done.stands);
    records = marked.records;
    rules = subst (λ (n : ℕ). IsDirectory n d) (sym size) marked.rules;
  };
  turned = is;
  here = all;
  there = pages;
  remembered = remembered;
  durable = durable;
}

-- marks don't change what is remembered
pub same_pages : (side : Side) (old new : Remembered) → KeepsPages old new → pages_of side new ≡ pages_of side old
same_pages A old new kept = kept.a
same_pages B old new kept = kept.b

pub remembered_kept : (old new : Remembered) (disc : DiscState) → KeepsPages old new → AreRememberedSyncable old disc → AreRememberedSyncable new disc
remembered_kept old new disc kept was = λ side k page there. was side k page (ap (λ (ps : List (Option (List ℕ))). slice_get ps k) (sym (same_pages side old new kept)) ∙ there)

-- a durable block is syncable
pub all_syncable : (d : Directory) (disc : DiscState) → DurableAreSyncable disc → AreSaved d disc → AreSyncable (IsOfFile d) disc
all_syncable d disc durable saved = λ k of. elim (saved k of) [ inl is ↦ durable k is | inr is ↦ is ]
