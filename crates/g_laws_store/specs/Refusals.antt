-- Which calls can be refused for lack of room or by a device, by call and path only. A device's refusal implies that the
-- plain step grants the call, and concerns the file that the call's path names.
use Rattle.std.specs.Prelude.{◌≡◌, ℕ, ◌<◌, Bool, true, false, List, Option, Some, None, Err}
use Rattle.g_name.specs.declared.full.Full.{Full}
use Rattle.g_name.specs.declared.path.Path.{Path}
use Rattle.g_entry.specs.declared.file_rec.TapeCopy.{TapeCopy}
use Rattle.g_plain.specs.declared.calls.StoreCall.{StoreCall}
use Rattle.g_plain.specs.declared.calls.StoreCall.TheVariants.{Put, Append, Fetch, List as ListFiles, TrapCheck, Retrieve}
use Rattle.g_plain.specs.declared.faults.StoreFault.TheVariants.{WaitTape, NoCopy, DiscFull, DiscReadFault, TapeReadFault, Stopped}
use Rattle.g_plain.specs.PlainStep.{fault_of}
use Rattle.g_plain.specs.PlainTree.{file_row, input_name}
use Rattle.g_store_model.specs.State.{Holding, State, is_mounted, place_at}
use Rattle.g_store_meaning.specs.Answers.{Answers, Belongs, Told}
use Rattle.g_store_meaning.specs.Reading.{StandsForState}
use Rattle.g_store_meaning.specs.StoreInvariant.{StoreFacts}

-- The calls that read a file, with its path.
abbrev pub path_read : StoreCall → Option Path
path_read (Append path bytes) = Some path
path_read (Fetch path mode) = Some path
path_read (Retrieve path) = Some path
path_read call = None

-- The calls that need the file's bytes, on disc or on tape.
abbrev pub asks_bytes : StoreCall → Bool
asks_bytes (Append path bytes) = true
asks_bytes (Fetch path mode) = true
asks_bytes call = false

-- The calls that may bring bytes to the disc.
abbrev pub takes_room : StoreCall → Bool
takes_room (Put path bytes) = true
takes_room (Append path bytes) = true
takes_room (Fetch path mode) = true
takes_room (Retrieve path) = true
takes_room call = false

-- The calls that write nothing at all.
abbrev pub only_tells : StoreCall → Bool
only_tells (ListFiles user) = true
only_tells (TrapCheck path user) = true
only_tells call = false

-- A state that the store represented before the call. If the devices expose their contents, it is `s`.
pub record MetIn (old : StoreFacts) (s before : State) : Type 0 where
  pub stands : StandsForState old before
  pub told : Told old → before ≡ s

-- The plain step grants the call.
pub record CallIsGranted (before : State) (who : List ℕ) (call : StoreCall) : Type 0 where
  pub held : Holding
  pub holds : before.holding ≡ Some held
  pub granted : fault_of held.tree who call ≡ None

-- The call reads this file, which isn't on the disc and whose copy is on this reel.
pub record ReadsOffline (before : State) (who : List ℕ) (call : StoreCall) (full : Full) (serial : ℕ) : Type 0 where
  pub grants : CallIsGranted before who call
  pub path : Path
  pub reads : path_read call ≡ Some path
  pub full_is : full ≡ input_name grants.held.tree who path
  pub offline : (place_at grants.held.places (file_row grants.held.tree full).stamp).online ≡ false
  pub reel : (c : TapeCopy) → (place_at grants.held.places (file_row grants.held.tree full).stamp).copy ≡ Some c → c.serial ≡ serial

-- For each refusal by a device or for lack of room, the calls to which it is returned, and the state in which it is.
pub record RefusalsOfCalls : Type 0 where
  -- A lost copy, a wait and a failed read of tape are returned only to Append, Fetch and Retrieve, for the offline file of
  -- the path: the first and the last if its reel is mounted, the wait if it isn't.
  pub lost : (old new : StoreFacts) (who : List ℕ) (call : StoreCall) (full : Full) (serial : ℕ) (s : State) → (Told old → Belongs old) → StandsForState old s
      → Answers old who call (Err (NoCopy full serial)) new
      → (before : State) × MetIn old s before × ReadsOffline before who call full serial × (is_mounted before serial ≡ true)
  pub waits : (old new : StoreFacts) (who : List ℕ) (call : StoreCall) (serial : ℕ) (s : State) → (Told old → Belongs old) → StandsForState old s
      → Answers old who call (Err (WaitTape serial)) new
      → (before : State) × (full : Full) × MetIn old s before × ReadsOffline before who call full serial × (is_mounted before serial ≡ false)
  pub tape : (old new : StoreFacts) (who : List ℕ) (call : StoreCall) (s : State) → (Told old → Belongs old) → StandsForState old s
      → Answers old who call (Err TapeReadFault) new
      → (before : State) × (full : Full) × (serial : ℕ) × MetIn old s before × ReadsOffline before who call full serial × (is_mounted before serial ≡ true)
  -- a failed read of the disc is returned only to Append and Fetch
  pub disc : (old new : StoreFacts) (who : List ℕ) (call : StoreCall) (s : State) → (Told old → Belongs old) → StandsForState old s
      → Answers old who call (Err DiscReadFault) new
      → (before : State) × MetIn old s before × CallIsGranted before who call × (asks_bytes call ≡ true)
  -- a full disc is returned only to calls that bring bytes to it, with a need that exceeds the room
  pub filled : (old new : StoreFacts) (who : List ℕ) (call : StoreCall) (need room : ℕ) (s : State) → (Told old → Belongs old) → StandsForState old s
      → Answers old who call (Err (DiscFull need room)) new
      → (before : State) × MetIn old s before × CallIsGranted before who call × (takes_room call ≡ true) × (room < need)
  -- `Stopped` is returned, if the devices expose their contents, to any call except List and TrapCheck
  pub stopped : (old new : StoreFacts) (who : List ℕ) (call : StoreCall) (s : State) → Told old → (Told old → Belongs old) → StandsForState old s
      → Answers old who call (Err Stopped) new → CallIsGranted s who call × (only_tells call ≡ false)
