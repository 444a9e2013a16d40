-- Bytes are appended to those of a file: the old ones are read, from the disc or from tape, and the new version is written.
use Rattle.std.specs.Prelude.{◌≡◌, ◌⊎◌, ℕ, ◌+◌, ◌<◌, ◌≤◌, ◌++◌, true, false, List, length, None, Some, Result, Ok, Err}
use Rattle.std.specs.Option.{ForSome}
use Rattle.g_base.specs.Block.{blocks_for}
use Rattle.g_name.specs.declared.full.Full.{Full}
use Rattle.g_entry.specs.declared.file_rec.FileRec.{FileRec}
use Rattle.g_entry.specs.declared.file_rec.TapeCopy.{TapeCopy}
use Rattle.g_tape.specs.Rack.{Rack, is_mounted, reel}
use Rattle.g_plain.specs.declared.faults.StoreFault.{StoreFault}
use Rattle.g_plain.specs.declared.faults.StoreFault.TheVariants.{DiscFull, DiscReadFault, NoCopy, NoMemory, Stopped, TapeReadFault, WaitTape}
use Rattle.g_disc_contents.specs.Contents.{File}
use Rattle.g_disc_contents.specs.Facts.{OnlineFacts}
use Rattle.g_online.specs.declared.change.Change.TheVariants.{PutFile}
use Rattle.g_laws_store.specs.UnjamPlan.{IsUnjamPlan}
use Rattle.g_retrieve.specs.Retrieval.{HasCopied, IsNowhere}
use Rattle.g_store_calls.specs.AppliedChange.{HasApplied}
use Rattle.g_store_calls.specs.Asking.{HasAsked, IsReached}

-- The record of a new version of a file, in which only stamp, length and copy on tape differ.
abbrev pub version_of : FileRec → ℕ → ℕ → FileRec
version_of r stamp len = record r { stamp = stamp; len = len; tape = None }

-- The bytes that were read of a file: all of them, as far as the disc exposes them, or those of its copy on tape.
abbrev pub IsOldText : File → List ℕ → Rack → Rack → Type 0
IsOldText f text before after =
    (length text ≡ f.rec.len)
    × (((f.online ≡ true) × ForSome f.bytes (λ bytes. bytes ≡ text))
    ⊎ ((f.online ≡ false) × (c : TapeCopy) × (f.rec.tape ≡ Some c) × HasCopied c f.rec.len text before after))

-- The file is only on tape, in this copy.
pub record IsAway (f : File) (c : TapeCopy) : Type 0 where
  pub offline : f.online ≡ false
  pub copy : f.rec.tape ≡ Some c

-- The new version was written, after a plan made room for it. It has the bytes that were read, followed by the new ones.
pub record HasPutBehind (f : File) (bytes : List ℕ) (old new : OnlineFacts) (before after : Rack) (result : Result (Unit {0}) StoreFault) : Type 0 where
  pub mid : OnlineFacts
  pub asked : HasAsked ⊥ ⊥ old mid before after
  pub text : List ℕ
  pub read : IsOldText f text before after
  pub take : List ℕ
  pub room : ℕ
  pub plan : IsUnjamPlan (blocks_for (f.rec.len + length bytes)) old take room
  pub fits : blocks_for (f.rec.len + length bytes) ≤ room
  pub applied : HasApplied (PutFile (version_of f.rec old.contents.head.next_stamp (f.rec.len + length bytes)) (text ++ bytes) take) mid new result

-- A plan for the new version reaches this room.
abbrev pub IsFor : File → List ℕ → OnlineFacts → ℕ → Type 0
IsFor f bytes o room = IsReached (blocks_for (f.rec.len + length bytes)) o room

-- The file is on the disc, or its reel is mounted.
abbrev pub IsAtHand : File → Rack → Type 0
IsAtHand f rack = (f.online ≡ true) ⊎ ((c : TapeCopy) × IsAway f c × (is_mounted (reel c.serial rack.reels) ≡ true))

-- How an append to a file of this name is answered, case by case.
abbrev pub HasAppended : Full → File → List ℕ → OnlineFacts → OnlineFacts → Rack → Rack → Result (Unit {0}) StoreFault → Type 0
HasAppended full f bytes old new before after (Ok u) = HasPutBehind f bytes old new before after (Ok u)
HasAppended full f bytes old new before after (Err Stopped) = HasPutBehind f bytes old new before after (Err Stopped)
HasAppended full f bytes old new before after (Err NoMemory) = HasAsked ⊥ ⊥ old new before after
HasAppended full f bytes old new before after (Err (WaitTape serial)) =
    HasAsked ⊥ ⊥ old new before after × ((c : TapeCopy) × IsAway f c × (serial ≡ c.serial) × (is_mounted (reel c.serial before.reels) ≡ false))
HasAppended full f bytes old new before after (Err TapeReadFault) =
    HasAsked ⊥ (Unit {0}) old new before after × ((c : TapeCopy) × IsAway f c × (is_mounted (reel c.serial before.reels) ≡ true))
HasAppended full f bytes old new before after (Err (NoCopy name serial)) =
    HasAsked ⊥ ⊥ old new before after × (name ≡ full) × ((c : TapeCopy) × IsAway f c × (serial ≡ c.serial) × IsNowhere c f.rec.len before)
HasAppended full f bytes old new before after (Err (DiscFull need room)) =
    HasAsked ⊥ ⊥ old new before after × IsAtHand f before × (need ≡ blocks_for (f.rec.len + length bytes)) × (room < need) × IsFor f bytes old room
HasAppended full f bytes old new before after (Err DiscReadFault) =
    HasAsked (Unit {0}) ⊥ old new before after × (f.online ≡ true) × (0 < f.rec.len)
    × ((room : ℕ) × (blocks_for (f.rec.len + length bytes) ≤ room) × IsFor f bytes old room)
HasAppended full f bytes old new before after (Err fault) = ⊥
