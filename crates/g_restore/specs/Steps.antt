-- The steps of a restore: the directory that is built.
use Rattle.std.specs.Prelude.{◌≡◌, ◌≢◌, ◌^◌, ◌<◌, ◌≤◌, true, List, All, None, is_some}
use Rattle.g_entry.specs.declared.head.Head.{Head}
use Rattle.g_entry.specs.Rules.{StampsBelow}
use Rattle.g_tree.specs.Records.{IsRecords}
use Rattle.g_plain.specs.declared.faults.StoreFault.{StoreFault}
use Rattle.g_plain.specs.declared.faults.StoreFault.TheVariants as store
use Rattle.g_incr.specs.Layout.{Dump}
use Rattle.g_store_meaning.specs.Meaning.{DumpedDirectory, files_in}
use Rattle.g_restore.specs.declared.directory.Dumped.{Dumped}
use Rattle.g_tape.specs.Reel.{Reel}
use Rattle.g_restore.specs.Losses.{HasPlace}
use Rattle.g_restore.specs.Reels.{AreOnReels}

-- The refusal concerns the contents of the dumps, or memory ran out.
abbrev pub IsOfDumps : StoreFault → Type 0
IsOfDumps store.NoDump = Unit {0}
IsOfDumps (store.LostDirectory user) = Unit {0}
IsOfDumps (store.LostCopy full serial) = Unit {0}
IsOfDumps store.NoMemory = Unit {0}
IsOfDumps fault = ⊥

-- The directory in memory is the one that the dumps give, and each place is held.
pub record IsFolded (dumps : List Dump) (d : Dumped) : Type 0 where
  pub directory : DumpedDirectory dumps
  pub places : All (HasPlace dumps) (files_in directory)
  pub number_is : d.number ≡ directory.last.number
  pub next_is : d.next_stamp ≡ directory.last.next
  pub users_are : d.users.items ≡ directory.last.users
  pub files_are : d.files.items ≡ files_in directory

-- The directory can be written to a disc.
pub record CanBeMade (d : Dumped) : Type 0 where
  pub number : d.number < 2 ^ 62
  pub first : 1 ≤ d.next_stamp
  pub last : d.next_stamp ≤ 2 ^ 62
  pub records : IsRecords d.users.items d.files.items
  pub dated : StampsBelow d.next_stamp d.files.items
  pub copied : All (λ r. r.len ≢ 0 → is_some r.tape ≡ true) d.files.items

-- The head of the restored directory, which has no intent.
abbrev pub head_of : Dumped → Head
head_of d = record { next_stamp = d.next_stamp; last_dump = d.number; intent = None }

-- The dumps of the reels give this directory, and it can be written to a disc.
pub record IsGiven (reels : List Reel) (d : Dumped) : Type 0 where
  pub dumps : List Dump
  pub are : AreOnReels reels dumps
  pub folded : IsFolded dumps d
  pub can : CanBeMade d
