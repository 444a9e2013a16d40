-- The dump that START adopts: which one the intent of the disc names, and what happens to the copies that its records name.
use Rattle.std.specs.Prelude.{◌≡◌, ◌≢◌, ◌⊎◌, ℕ, ◌==◌, ◌&&◌, Bool, true, false, List, [], Contains, IfErr, IfSome, OnOk, Option, Some, None, Result, Ok, Err, is_some, if◌then◌else◌}
use Rattle.std.specs.Option.{ForSome}
use Rattle.std.specs.List.{flat_map, list_any}
use Rattle.g_base.specs.Counts.{Rose}
use Rattle.g_disc.specs.Disc.{Causes}
use Rattle.g_entry.specs.declared.file_rec.FileRec.{FileRec}
use Rattle.g_entry.specs.declared.file_rec.TapeCopy.{TapeCopy}
use Rattle.g_entry.specs.declared.head.Intent.{Intent}
use Rattle.g_tape.specs.Rack.{Rack, is_mounted, reel}
use Rattle.g_tape.specs.Reads.{OnlyReads, blocks_of}
use Rattle.g_plain.specs.declared.faults.StoreFault.{StoreFault}
use Rattle.g_plain.specs.declared.faults.StoreFault.TheVariants.{MountFirst, NoMemory, Stopped, TapeReadFault}
use Rattle.g_disc_contents.specs.Contents.{recs_in}
use Rattle.g_disc_contents.specs.Facts.{IsTied, OnlineFacts}
use Rattle.g_online.specs.declared.change.Change.{Change}
use Rattle.g_online.specs.declared.change.Change.TheVariants.{Adopt}
use Rattle.g_online.specs.Outcomes.{HasChanged, HasStopped}
use Rattle.g_incr.specs.declared.note.DumpNote.{DumpNote}
use Rattle.g_incr.specs.Layout.{Dump, IsDump}
use Rattle.g_shelf.specs.CompletedDumps.{AreCompleted}
use Rattle.g_store_model.specs.State.{copy_entry}

-- The intent names the dump of this note.
abbrev pub names : Intent → DumpNote → Bool
names i n = (n.place == i.place) && (n.number == i.number)

-- The intent names this one among the completed dumps of its reel.
pub record IsNamed (i : Intent) (dumps : List Dump) (d : Dump) : Type 0 where
  pub there : Contains dumps d
  pub place : d.place ≡ i.place
  pub number : d.number ≡ i.number

-- These are the files of the dump that the intent names, which is a completed one if its reel exposes its contents.
pub record HasNamed (i : Intent) (rack : Rack) (files : List FileRec) : Type 0 where
  pub dump : Dump
  pub rules : IsDump dump
  pub files_are : files ≡ dump.files
  pub named : ForSome (blocks_of i.serial rack) (λ blocks. (dumps : List Dump) → AreCompleted i.serial blocks dumps → IsNamed i dumps dump)

-- No completed dump is the one that the intent names.
abbrev pub NamesNone : Intent → Rack → Type 0
NamesNone i rack = ForSome (blocks_of i.serial rack) (λ blocks. (dumps : List Dump) → AreCompleted i.serial blocks dumps → (d : Dump) → IsNamed i dumps d → ⊥)

-- The copies that a dump's records name, without those whose stamp an empty file has: an empty file has no copy on tape.
abbrev pub has_empty : List FileRec → ℕ → Bool
has_empty files stamp = list_any (λ r. (r.stamp == stamp) && (r.len == 0)) files

-- The copy that a dump's record names, by stamp, unless an empty file has the stamp.
abbrev pub copy_named : List FileRec → FileRec → List (ℕ × TapeCopy)
copy_named files r = if has_empty files r.stamp then [] else copy_entry r.stamp r.tape

-- The copies that these records of a dump name, by stamp, except those of empty files.
abbrev pub copies_named : List FileRec → List FileRec → List (ℕ × TapeCopy)
copies_named files dumped = flat_map (copy_named files) dumped

-- The change that adopts the dump of this number and these files.
abbrev pub adoption : ℕ → List FileRec → OnlineFacts → Change
adoption number dumped o = Adopt number (copies_named (recs_in o.contents) dumped)

-- The dump was adopted by one commit, or that was stopped, or memory ran out and nothing has changed.
pub record Adopts (number : ℕ) (dumped : List FileRec) (old : OnlineFacts) (result : Result (Unit {0}) StoreFault) (new : OnlineFacts) : Type 0 where
  pub ok : OnOk result (HasChanged (adoption number dumped old) old new)
  pub stopped : result ≡ Err Stopped → HasStopped (adoption number dumped old) old new
  pub same : IfErr result (λ e. e ≢ Stopped → new ≡ old)
  pub causes : Causes ⊥ (result ≡ Err Stopped) old.disc new.disc
  pub tied : IsTied new
  pub told : is_some new.disc.held ≡ is_some old.disc.held
  pub only : IfErr result (λ e. (e ≡ Stopped) ⊎ (e ≡ NoMemory))

-- the intent of the disc, and its reel
pub record IsIntent (o : OnlineFacts) (rack : Rack) (mounted : Bool) (i : Intent) : Type 0 where
  pub is : o.contents.head.intent ≡ Some i
  pub mounted_is : is_mounted (reel i.serial rack.reels) ≡ mounted

-- There is no intent, or it names no completed dump.
pub record TakesNone (old : OnlineFacts) (rack : Rack) (new : OnlineFacts) : Type 0 where
  pub same : new ≡ old
  pub none : IfSome old.contents.head.intent (λ i. (is_mounted (reel i.serial rack.reels) ≡ true) × NamesNone i rack)

-- The dump that the intent names is adopted, or its adoption is stopped.
pub record TakesNamed (old : OnlineFacts) (rack : Rack) (Leaves : Change → Type 0) : Type 0 where
  pub intent : Intent
  pub is : IsIntent old rack true intent
  pub files : List FileRec
  pub found : HasNamed intent rack files
  pub leaves : Leaves (adoption intent.number files old)

-- How adopting the dump of the intent is answered, by each answer.
abbrev pub Takes : OnlineFacts → Rack → Result (Option ℕ) StoreFault → OnlineFacts → Type 0
Takes old rack (Ok None) new = TakesNone old rack new
Takes old rack (Ok (Some number)) new = (taken : TakesNamed old rack (λ change. HasChanged change old new)) × (number ≡ taken.intent.number)
Takes old rack (Err (MountFirst serial)) new = (new ≡ old) × (i : Intent) × IsIntent old rack false i × (serial ≡ i.serial)
Takes old rack (Err TapeReadFault) new = (new ≡ old) × IfSome old.contents.head.intent (λ i. is_mounted (reel i.serial rack.reels) ≡ true)
Takes old rack (Err Stopped) new = TakesNamed old rack (λ change. HasStopped change old new)
Takes old rack (Err NoMemory) new = new ≡ old
Takes old rack (Err fault) new = ⊥

-- How the dump of the intent is adopted: by a commit of the disc, and reads of the reel.
pub record TakesOver (old : OnlineFacts) (rack : Rack) (result : Result (Option ℕ) StoreFault) (new : OnlineFacts) (after : Rack) : Type 0 where
  pub takes : Takes old rack result new
  pub causes : Causes ⊥ (result ≡ Err Stopped) old.disc new.disc
  pub tied : IsTied new
  pub told : is_some new.disc.held ≡ is_some old.disc.held
  pub reads : OnlyReads rack after
  pub kept : (result ≡ Err TapeReadFault → ⊥) → after.read_faults ≡ rack.read_faults
  pub rose : result ≡ Err TapeReadFault → Rose rack.read_faults after.read_faults
