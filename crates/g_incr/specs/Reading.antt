-- Readers of tape: what they may change, why they fail, and what they find.
use Rattle.std.specs.Prelude.{◌≡◌, ℕ, ◌+◌, ◌<◌, ◌≤◌, ◌↔◌, Some, Result, Err}
use Rattle.std.specs.Option.{ForSome}
use Rattle.g_base.specs.Counts.{Rose}
use Rattle.g_tape.specs.declared.fault.TapeFault.TheVariants as tape
use Rattle.g_tape.specs.Rack.{Rack, reel, refuses_unmount}
use Rattle.g_tape.specs.Reads.{HasRead, OnlyReads, blocks_of}
use Rattle.g_incr.specs.declared.fault.ShelfFault.{ShelfFault}
use Rattle.g_incr.specs.declared.fault.ShelfFault.TheVariants.{NoTape, NotMounted, ReadFault}
use Rattle.g_incr.specs.declared.note.DumpDir.{DumpDir}
use Rattle.g_incr.specs.declared.note.DumpNote.{DumpNote}
use Rattle.g_incr.specs.Layout.{Dump, IsDump, StandsOn, ends}
use Rattle.g_incr.specs.Notes.{IsDirOf}

-- A call that reads one reel. Only reads happen. It is refused if and only if the rack doesn't have the reel or the reel
-- isn't mounted. A read fault is returned only if the count of read faults rose; otherwise that count is unchanged.
pub record ReadsReel {A : Type 0} (serial : ℕ) (result : Result A ShelfFault) (old new : Rack) : Type 0 where
  pub only : OnlyReads old new
  pub no_tape : (result ≡ Err NoTape) ↔ (refuses_unmount (reel serial old.reels) ≡ Some tape.NoTape)
  pub not_mounted : (result ≡ Err NotMounted) ↔ (refuses_unmount (reel serial old.reels) ≡ Some tape.NotMounted)
  pub kept : (result ≡ Err ReadFault → ⊥) → new.read_faults ≡ old.read_faults
  pub rose : result ≡ Err ReadFault → Rose old.read_faults new.read_faults

-- A dump was found at this place of the reel. It satisfies the rules and ends on the reel, even if the reel's blocks aren't
-- exposed; if they are, the dump is complete there.
pub record IsFound (serial place : ℕ) (rack : Rack) (dir : DumpDir) : Type 0 where
  pub dump : Dump
  pub rules : IsDump dump
  pub on : dump.serial ≡ serial
  pub at : dump.place ≡ place
  pub dir_is : IsDirOf dump dir
  pub stands : ForSome (blocks_of serial rack) (λ blocks. StandsOn blocks dump)
  pub fits : ForSome (reel serial rack.reels) (λ r. ends dump ≤ r.len)

-- No dump is complete at this place of the reel.
abbrev pub HasNone : ℕ → ℕ → Rack → Type 0
HasNone serial place rack = ForSome (blocks_of serial rack) (λ blocks. (d : Dump) → d.serial ≡ serial → d.place ≡ place → StandsOn blocks d → ⊥)

-- The blocks that describe a dump were read: its header, its records and its mark.
pub record HasReadDump (serial : ℕ) (note : DumpNote) (old new : Rack) : Type 0 where
  pub front : (k : ℕ) → note.place ≤ k → k < note.place + 1 + note.users + note.files → HasRead serial k old new
  pub mark : HasRead serial (note.place + 1 + note.count) old new
