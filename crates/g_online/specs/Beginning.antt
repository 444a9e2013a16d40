-- How an online filestore begins: it is loaded from its disc or created on it.
use Rattle.std.specs.Prelude.{◌≡◌, ◌⊎◌, ℕ, ◌==◌, Bool, true, false, List, [], map, filter, None, is_some, if◌then◌else◌}
use Rattle.std.specs.Option.{ForSome}
use Rattle.g_base.specs.Counts.{Rose, RoseBy}
use Rattle.g_copy.specs.declared.copy.DiscCopy.{DiscCopy}
use Rattle.g_disc.specs.Disc.{Causes, DiscState, ReadsByCause, StayDurable, is_durable}
use Rattle.g_entry.specs.declared.file_rec.FileRec.{FileRec}
use Rattle.g_entry.specs.declared.format.Format.TheVariants.{Two}
use Rattle.g_entry.specs.declared.head.Head.{Head}
use Rattle.g_entry.specs.declared.user_rec.UserRec.{UserRec}
use Rattle.g_slots.specs.declared.side.Side.{Side}
use Rattle.g_slots.specs.Layout.{GateNames}
use Rattle.g_dirs.specs.declared.fault.DirsFault.{DirsFault}
use Rattle.g_dirs.specs.declared.fault.DirsFault.TheVariants as dirs
use Rattle.g_dirs.specs.Directory.{AreRecords, Directory, IsDirectory}
use Rattle.g_dirs.specs.Durable.{IsDiscSafe}
use Rattle.g_dirs.specs.Image.{StandsFor}
use Rattle.g_dirs.specs.Pages.{Remembered, nothing}
use Rattle.g_disc_contents.specs.Commits.{Commits}
use Rattle.g_disc_contents.specs.Contents.{Contents, File, Holds}
use Rattle.g_disc_contents.specs.Durable.{IsDurable}
use Rattle.g_disc_contents.specs.Facts.{Layout, OnlineFacts}
use Rattle.g_online.specs.declared.fault.OnlineFault.{OnlineFault}
use Rattle.g_online.specs.declared.fault.OnlineFault.TheVariants.{NoFilestore, NoMemory, ReadFault, Stopped}
use Rattle.g_online.specs.Change.{told_bytes}
use Rattle.g_online.specs.Invariant.{Memory}

-- The filestore is live, no version is pinned, no user is touched, and every user counts as changed.
pub record IsBegun (o : OnlineFacts) : Type 0 where
  pub live : o.live ≡ true
  pub pins : o.pins ≡ None
  pub touched : o.touched ≡ []
  pub changed : o.changed ≡ map (λ u. u.number) o.contents.users

-- There were n commits, starting from a state in which no block of either slot was remembered. Only they wrote the disc.
pub record WroteFirst (n : ℕ) (disc : DiscState) (new : OnlineFacts) : Type 0 where
  pub found : Layout
  pub unknown : found.pages ≡ nothing
  pub gate : GateNames found.side disc.held
  pub blocks : ℕ
  pub commits : Commits n found new.layout blocks
  pub writes : RoseBy blocks disc.writes new.disc.writes

-- The disc was read: the contents of the filestore are those that it holds, and nothing was written.
pub record HasRead (disc : DiscState) (o : OnlineFacts) : Type 0 where
  pub begun : IsBegun o
  pub reads : ReadsByCause ⊥ disc o.disc
  pub holds : ForSome disc.held (λ blocks. Holds blocks o.contents)
  pub unknown : o.layout.pages ≡ nothing
  pub gate : GateNames o.layout.side disc.held
  pub durable : ForSome disc.held (λ _. IsDiscSafe disc → is_durable disc 0 ≡ true → IsDurable o)

-- The gate was made durable, and then the disc was read. Nothing else that a caller can observe has changed. A read failed if and only if the cause holds.
pub record SecuresAndReads (read_fault : Type 0) (before after : DiscState) : Type 0 where
  pub held : after.held ≡ before.held
  pub size : after.size ≡ before.size
  pub write_faults : after.write_faults ≡ before.write_faults
  pub writes : after.writes ≡ before.writes
  pub fuse : after.fuse ≡ before.fuse
  pub arms : after.arms ≡ before.arms
  pub durable : StayDurable before after
  pub kept : (read_fault → ⊥) → after.read_faults ≡ before.read_faults
  pub rose : read_fault → Rose before.read_faults after.read_faults

-- The filestore was loaded: its contents are those that the disc holds, and nothing was written. If the disc was safe, the filestore is durable.
pub record HasLoaded (disc : DiscState) (o : OnlineFacts) : Type 0 where
  pub begun : IsBegun o
  pub reads : SecuresAndReads ⊥ disc o.disc
  pub holds : ForSome disc.held (λ blocks. Holds blocks o.contents)
  pub unknown : o.layout.pages ≡ nothing
  pub gate : GateNames o.layout.side disc.held
  pub durable : ForSome disc.held (λ _. IsDiscSafe disc → IsDurable o)

-- A file without blocks: on the disc if it is empty, otherwise only on tape.
abbrev pub first_file : Bool → FileRec → File
first_file told r = if r.len == 0
    then record { rec = r; online = true; bytes = told_bytes told [] }
    else record { rec = r; online = false; bytes = None }

-- The contents of a filestore with these records, whose files have no blocks.
abbrev pub first_contents : Bool → Head → List UserRec → List FileRec → Contents
first_contents told head users files = record { head = head; users = users; files = map (first_file told) files }

-- One commit created a filestore with the contents `made`, for any previous contents of the disc.
pub record HasMade (made : Contents) (disc : DiscState) (o : OnlineFacts) : Type 0 where
  pub begun : IsBegun o
  pub contents : o.contents ≡ made
  pub causes : Causes ⊥ ⊥ disc o.disc
  pub wrote : WroteFirst 1 disc o
  pub durable : IsDurable o
  pub told : is_some o.disc.held ≡ is_some disc.held

-- After the call the disc holds exactly the contents that it held before, if any.
pub record HoldsAsBefore (before after : List (List ℕ)) : Type 0 where
  pub kept : (c : Contents) → Holds before c → Holds after c
  pub only : (c : Contents) → Holds after c → Holds before c

-- After an interruption the disc holds what it held before, or these new contents.
pub record AsBeforeOr (contents : Contents) (before after : List (List ℕ)) : Type 0 where
  pub one : HoldsAsBefore before after ⊎ Holds after contents

-- What was read from the disc: the slot that its gate names, and the directory that it represents, which satisfies its
-- rules.
pub record IsFound (disc : DiscState) (side : Side) (d : Directory) : Type 0 where
  pub gate : GateNames side disc.held
  pub stands : ForSome disc.held (λ blocks. StandsFor blocks d)
  pub records : AreRecords Two d
  pub rules : IsDirectory disc.size d

-- The filestore's fault for each fault of reading a directory.
abbrev pub refusal_of : DirsFault → OnlineFault
refusal_of dirs.ReadFault = ReadFault
refusal_of dirs.NoFilestore = NoFilestore
refusal_of dirs.Stopped = Stopped
refusal_of dirs.NoMemory = NoMemory

-- The copies on disc of the empty files, which have no blocks.
abbrev pub empty_copy : FileRec → ℕ × DiscCopy
empty_copy r = (r.number, record { blocks = []; len = 0 })

-- The copies of all empty files among these, by number.
abbrev pub empty_copies : List FileRec → List (ℕ × DiscCopy)
empty_copies files = map empty_copy (filter (λ r. r.len == 0) files)

-- What is in memory at the beginning.
abbrev pub memory_of : Side → Remembered → List Bool → List UserRec → List FileRec → Head → List (ℕ × DiscCopy) → Memory
memory_of side pages pool users files head online = record {
  side = side;
  pages = pages;
  pool = pool;
  users = users;
  files = files;
  head = head;
  online = online;
  pins = None;
  changed = map (λ u. u.number) users;
  touched = [];
  live = true;
}
