-- A file is brought back to the disc from its copy on tape, or there is a reason why it isn't.
use Rattle.std.specs.Prelude.{◌≡◌, ◌≢◌, ◌⊎◌, ◌↔◌, ℕ, ◌+◌, ◌<◌, ◌≤◌, true, false, List, length, Contains, Option, Some, is_some, Result, Ok, Err, IfOk, IfErr}
use Rattle.std.specs.Option.{ForSome}
use Rattle.g_base.specs.Block.{blocks_for}
use Rattle.g_base.specs.Counts.{Rose}
use Rattle.g_name.specs.declared.full.Full.{Full}
use Rattle.g_disc.specs.Disc.{Causes}
use Rattle.g_entry.specs.declared.file_rec.TapeCopy.{TapeCopy}
use Rattle.g_tape.specs.Rack.{Rack, is_mounted, reel}
use Rattle.g_tape.specs.Reads.{HasRead, OnlyReads, blocks_of}
use Rattle.g_plain.specs.declared.faults.StoreFault.{StoreFault}
use Rattle.g_plain.specs.declared.faults.StoreFault.TheVariants.{DiscFull, NoCopy, NoMemory, Stopped, TapeReadFault, WaitTape}
use Rattle.g_disc_contents.specs.Contents.{File}
use Rattle.g_disc_contents.specs.Facts.{IsTied, OnlineFacts}
use Rattle.g_incr.specs.Layout.{Dump}
use Rattle.g_incr.specs.declared.fault.ShelfFault.{ShelfFault}
use Rattle.g_incr.specs.declared.fault.ShelfFault.TheVariants as shelf
use Rattle.g_shelf.specs.CompletedDumps.{AreCompleted}
use Rattle.g_online.specs.declared.change.Change.TheVariants.{Bring}
use Rattle.g_online.specs.declared.unjam.Unjam.{Unjam}
use Rattle.g_online.specs.Outcomes.{HasChanged, HasStopped}
use Rattle.g_store_meaning.specs.Meaning.{IsContent}

-- The file of this number isn't on the disc, and this is its copy on tape.
pub record IsOnTape (number : ℕ) (o : OnlineFacts) (f : File) (c : TapeCopy) : Type 0 where
  pub there : Contains o.contents.files f
  pub number_is : f.rec.number ≡ number
  pub offline : f.online ≡ false
  pub copy : f.rec.tape ≡ Some c

-- The bytes of a copy: its reel is mounted, and they have the required length. If the reel exposes its contents, they are
-- content of its completed dumps. Each of their blocks was read in between.
pub record HasCopied (c : TapeCopy) (len : ℕ) (text : List ℕ) (before after : Rack) : Type 0 where
  pub mounted : is_mounted (reel c.serial before.reels) ≡ true
  pub long : length text ≡ len
  pub content : ForSome (blocks_of c.serial before) (λ blocks. (dumps : List Dump) → AreCompleted c.serial blocks dumps → IsContent dumps c text)
  pub read : (k : ℕ) → c.first ≤ k → k < c.first + blocks_for len → HasRead c.serial k before after

-- The reel is mounted. If it exposes its contents, its completed dumps have no content of this length at the place.
pub record IsNowhere (c : TapeCopy) (len : ℕ) (rack : Rack) : Type 0 where
  pub mounted : is_mounted (reel c.serial rack.reels) ≡ true
  pub none : ForSome (blocks_of c.serial rack) (λ blocks. (dumps : List Dump) → AreCompleted c.serial blocks dumps
      → (text : List ℕ) → length text ≡ len → IsContent dumps c text → ⊥)

-- A call only read this rack, and the count of failed reads rose if and only if the call failed for that reason.
pub record ReadsTapes {A : Type 0} (before after : Rack) (result : Result A StoreFault) : Type 0 where
  pub only : OnlyReads before after
  pub kept : (result ≡ Err TapeReadFault → ⊥) → after.read_faults ≡ before.read_faults
  pub rose : result ≡ Err TapeReadFault → Rose before.read_faults after.read_faults

-- How the copy of a file of this name is read: `WaitTape` is returned if and only if the reel isn't mounted, `NoCopy` only
-- if the copy is nowhere.
abbrev pub IsTapeRefusal : TapeCopy → StoreFault → Type 0
IsTapeRefusal c e = (e ≡ WaitTape c.serial) ⊎ ((e ≡ TapeReadFault) ⊎ (((name : Full) × (e ≡ NoCopy name c.serial)) ⊎ (e ≡ NoMemory)))

-- How the reading of a copy is answered, for a file of this name. The rack is only read.
pub record HasReadCopy (full : Option Full) (c : TapeCopy) (len : ℕ) (before after : Rack) (result : Result (List ℕ) StoreFault) : Type 0 where
  pub waits : (result ≡ Err (WaitTape c.serial)) ↔ (is_mounted (reel c.serial before.reels) ≡ false)
  pub lost : (name : Full) (serial : ℕ) → result ≡ Err (NoCopy name serial) → (full ≡ Some name) × (serial ≡ c.serial) × IsNowhere c len before
  pub ok : IfOk result (λ text. HasCopied c len text before after)
  pub tapes : ReadsTapes before after result
  pub refusals : IfErr result (IsTapeRefusal c)

-- The store's fault for each fault of a tape reader. A store waits for a reel that isn't mounted.
abbrev pub as_read : ℕ → ShelfFault → StoreFault
as_read serial shelf.NoTape = WaitTape serial
as_read serial shelf.NotMounted = WaitTape serial
as_read serial shelf.ReadFault = TapeReadFault
as_read serial shelf.NoMemory = NoMemory

-- The bytes were brought back to the disc by a plan of the files to take off for them. `DiscFull` is returned if and only
-- if they need more than the plan's room.
pub record IsPutBack (number : ℕ) (text : List ℕ) (plan : Unjam) (old new : OnlineFacts) (result : Result (List ℕ) StoreFault) : Type 0 where
  pub full : (result ≡ Err (DiscFull (blocks_for (length text)) plan.room)) ↔ (plan.room < blocks_for (length text))
  pub ok : IfOk result (λ t. (t ≡ text) × HasChanged (Bring number text plan.take) old new)
  pub stopped : result ≡ Err Stopped → HasStopped (Bring number text plan.take) old new
  pub same : IfErr result (λ e. e ≢ Stopped → new ≡ old)
  pub causes : Causes ⊥ (result ≡ Err Stopped) old.disc new.disc
  pub tied : IsTied new
  pub told : is_some new.disc.held ≡ is_some old.disc.held
  pub refusals : IfErr result (λ e. (e ≡ Stopped) ⊎ ((e ≡ NoMemory) ⊎ (e ≡ DiscFull (blocks_for (length text)) plan.room)))

-- The file is back: there was room for it, these are the bytes of its copy, and they are its bytes on the disc.
pub record IsBrought (number : ℕ) (plan : Unjam) (f : File) (c : TapeCopy) (text : List ℕ) (old new : OnlineFacts) (before after : Rack) : Type 0 where
  pub fits : blocks_for f.rec.len ≤ plan.room
  pub bytes : HasCopied c f.rec.len text before after
  pub changed : HasChanged (Bring number text plan.take) old new

-- A write failed while the file was brought back.
pub record IsCutShort (number : ℕ) (plan : Unjam) (f : File) (c : TapeCopy) (old new : OnlineFacts) (before after : Rack) : Type 0 where
  pub fits : blocks_for f.rec.len ≤ plan.room
  pub text : List ℕ
  pub bytes : HasCopied c f.rec.len text before after
  pub stopped : HasStopped (Bring number text plan.take) old new

-- How bringing a file back is answered. No refusal except `Stopped` changes anything on the disc or in memory.
pub record HasBroughtBack (number : ℕ) (plan : Unjam) (f : File) (c : TapeCopy) (old new : OnlineFacts) (before after : Rack) (result : Result (List ℕ) StoreFault) : Type 0 where
  pub ok : IfOk result (λ text. IsBrought number plan f c text old new before after)
  pub stopped : result ≡ Err Stopped → IsCutShort number plan f c old new before after
  pub same : IfErr result (λ e. e ≢ Stopped → new ≡ old)
  pub causes : Causes ⊥ (result ≡ Err Stopped) old.disc new.disc
  pub tapes : ReadsTapes before after result
  pub tied : IsTied new
  pub told : is_some new.disc.held ≡ is_some old.disc.held
