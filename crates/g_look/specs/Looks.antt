-- THE EFFECT OF A LOOK: the devices are unchanged except for counts of reads.
use Rattle.std.specs.Prelude.{◌≡◌, ℕ, List, All, true}
use Rattle.g_base.specs.Counts.{Rose}
use Rattle.g_tape.specs.Rack.{Rack}
use Rattle.g_tape.specs.Reads.{OnlyReads}
use Rattle.g_incr.specs.Layout.{Dump}
use Rattle.g_shelf.specs.CompletedDumps.{AreShelved, all_dumps}
use Rattle.g_store_meaning.specs.Meaning.{told_reels}
use Rattle.g_store_meaning.specs.Reading.{ReelsTold}
use Rattle.g_look.specs.declared.fault.LookFault.{LookFault}
use Rattle.g_look.specs.declared.fault.LookFault.TheVariants.{DiscUnread, TapeUnread, NoFilestore, NoUser, NoCopy, NoMemory}

-- The call only reads the rack; its read faults rise if it returns a read fault, and are unchanged otherwise.
pub record ReadsRackByCause (read_fault : Type 0) (before after : Rack) : Type 0 where
  pub only : OnlyReads before after
  pub kept : (read_fault → ⊥) → after.read_faults ≡ before.read_faults
  pub rose : read_fault → Rose before.read_faults after.read_faults

-- The faults of a list.
abbrev pub IsOfList : LookFault → Type 0
IsOfList NoFilestore = Unit {0}
IsOfList NoUser = Unit {0}
IsOfList DiscUnread = Unit {0}
IsOfList NoMemory = Unit {0}
IsOfList fault = ⊥

-- The faults of reading a copy on tape.
abbrev pub IsOfCopy : LookFault → Type 0
IsOfCopy NoCopy = Unit {0}
IsOfCopy TapeUnread = Unit {0}
IsOfCopy NoMemory = Unit {0}
IsOfCopy fault = ⊥

-- The faults of reading a file.
abbrev pub IsOfBytes : LookFault → Type 0
IsOfBytes DiscUnread = Unit {0}
IsOfBytes fault = IsOfCopy fault

-- The property holds for the completed dumps of a rack whose reels expose their blocks.
abbrev pub OfDumps : Rack → (List Dump → Type 0) → Type 0
OfDumps rack P = ReelsTold (told_reels rack) → (shelf : ℕ → List Dump) → AreShelved shelf (told_reels rack) → P (all_dumps shelf (told_reels rack))

-- All reels of the rack are mounted.
abbrev pub AreMounted : Rack → Type 0
AreMounted rack = All (λ r. r.mounted ≡ true) rack.reels
