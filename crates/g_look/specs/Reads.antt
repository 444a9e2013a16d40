-- THE BLOCKS OF TAPE THAT WERE READ.
use Rattle.std.specs.Prelude.{◌≡◌, ℕ, ◌+◌, ◌<◌, ◌≤◌, ◌==◌, List, false, All, Contains, Option, IfSome}
use Rattle.std.specs.Option.{ForSome}
use Rattle.std.specs.List.{list_any}
use Rattle.g_base.specs.Block.{blocks_for}
use Rattle.g_entry.specs.declared.file_rec.FileRec.{FileRec}
use Rattle.g_entry.specs.declared.file_rec.TapeCopy.{TapeCopy}
use Rattle.g_tape.specs.Rack.{Rack}
use Rattle.g_tape.specs.Reads.{HasRead}
use Rattle.g_tape.specs.Reel.{Reel}
use Rattle.g_disc_contents.specs.Contents.{Contents, Holds, recs_in}
use Rattle.g_shelf.specs.CompletedDumps.{AreShelved, all_dumps}
use Rattle.g_incr.specs.Layout.{Dump}
use Rattle.g_store_meaning.specs.Meaning.{DumpedDirectory, files_in, told_reels}
use Rattle.g_look.specs.Texts.{IsDumpedPlace}

-- Each block of a record's copy on tape was read between these states of the rack.
abbrev pub WasRead : Rack → Rack → FileRec → Type 0
WasRead old new r = IfSome r.tape (λ c. (k : ℕ) → c.first ≤ k → k < c.first + blocks_for r.len → HasRead c.serial k old new)

-- EACH NAMED BLOCK WAS READ: those of the files of the dumped directory, and of the files that the disc holds.
pub record AreNamedRead (held : Option (List (List ℕ))) (old new : Rack) : Type 0 where
  pub dumped : (shelf : ℕ → List Dump) → AreShelved shelf (told_reels old) → (t : DumpedDirectory (all_dumps shelf (told_reels old))) → All (WasRead old new) (files_in t)
  pub named : ForSome held (λ blocks. (c : Contents) → Holds blocks c → All (WasRead old new) (recs_in c))

-- The reel has the block.
abbrev pub HasBlock : List Reel → ℕ → ℕ → Type 0
HasBlock reels serial k = (r : Reel) × Contains reels r × (r.serial ≡ serial) × (k < r.len)

-- The blocks of `len` bytes from a place on were read, as far as the reel has them.
abbrev pub IsReadFrom : Rack → Rack → TapeCopy → ℕ → Type 0
IsReadFrom old new c len = (k : ℕ) → c.first ≤ k → k < c.first + blocks_for len → HasBlock (told_reels old) c.serial k → HasRead c.serial k old new

-- The bytes at a place, if there is one, were read.
abbrev pub IsReadAt : Rack → Rack → Option TapeCopy → ℕ → Type 0
IsReadAt old new place len = IfSome place (λ c. IsReadFrom old new c len)

-- For a file, its own copy was read, and that of the dumped record of its stamp.
pub record IsFileRead (old new : Rack) (dumped : List FileRec) (r : FileRec) : Type 0 where
  pub own : IsReadAt old new r.tape r.len
  pub place : Option TapeCopy
  pub place_is : IsDumpedPlace dumped r.stamp place
  pub second : IsReadAt old new place r.len

-- For a dumped record whose stamp no file has, its copy was read.
abbrev pub IsOtherRead : Rack → Rack → List FileRec → FileRec → Type 0
IsOtherRead old new files of = list_any (λ r. r.stamp == of.stamp) files ≡ false → IsReadAt old new of.tape of.len

-- Both, for all files and all dumped records.
pub record AreRead (old new : Rack) (files dumped : List FileRec) : Type 0 where
  pub own : (r : FileRec) → Contains files r → IsFileRead old new dumped r
  pub others : (of : FileRec) → Contains dumped of → IsOtherRead old new files of
