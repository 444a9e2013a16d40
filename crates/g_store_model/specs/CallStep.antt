-- The effect of a job's call on the store's state, given what the devices did during the call. The store is up and
-- holds k.
use Rattle.std.specs.Prelude.{◌≡◌, ◌⊎◌, ℕ, ◌+◌, ◌<◌, ◌≤◌, Bool, true, false, not, ◌&&◌, ◌||◌, nat_lt, List, [], ◌∷◌, length, Option, Some, None, MatchOption, Result, Ok, Err, option_map, is_some, unwrap_or, if◌then◌else◌}
use Rattle.std.specs.Ordering.{nat_cmp}
use Rattle.std.specs.FinMap.{FinMap, insert, remove, empty}
use Rattle.g_base.specs.Block.{blocks_for}
use Rattle.g_name.specs.declared.full.Full.{Full}
use Rattle.g_entry.specs.declared.file_rec.TapeCopy.{TapeCopy}
use Rattle.g_entry.specs.declared.head.Intent.{Intent}
use Rattle.g_plain.specs.declared.calls.StoreCall.{StoreCall}
use Rattle.g_plain.specs.declared.calls.StoreCall.TheVariants.{NewUser, Put, Append, Fetch, Erase, Rename, List as ListFiles, TrapGo, TrapStop, TrapCheck, Retrieve}
use Rattle.g_plain.specs.declared.calls.StoreReply.{StoreReply}
use Rattle.g_plain.specs.declared.faults.StoreFault.{StoreFault}
use Rattle.g_plain.specs.declared.faults.StoreFault.TheVariants.{WaitTape, DiscFull, DiscReadFault, TapeReadFault, Stopped}
use Rattle.g_plain.specs.PlainTree.{Tree, input_name, output_name, file_row}
use Rattle.g_plain.specs.PlainStep.{first_fault, fault_of, plain_tree, reply_to}
use Rattle.g_store_model.specs.State.{State, Holding, OpenDump, Place, place_at, fresh, is_mounted, room, is_taken, is_candidate, taken_blocks, taken_offline, with_online, with_all, without_all}

-- What the devices did in an event: nothing failed, a read of the disc failed, a read of tape failed, or a write
-- failed.
pub data Outcome : Type 0 where
  Plain : Outcome
  DiscRead : Outcome
  TapeRead : Outcome
  Cut : Outcome

-- A read of the disc failed.
abbrev pub is_disc_read : Outcome → Bool
is_disc_read DiscRead = true
is_disc_read o = false

-- A read of tape failed.
abbrev pub is_tape_read : Outcome → Bool
is_tape_read TapeRead = true
is_tape_read o = false

-- A write failed.
abbrev pub is_cut : Outcome → Bool
is_cut Cut = true
is_cut o = false

-- The version that a call reads, if it reads one.
abbrev pub version_read : Tree → List ℕ → StoreCall → Option Full
version_read tree who (Append path bytes) = Some (input_name tree who path)
version_read tree who (Fetch path mode) = Some (input_name tree who path)
version_read tree who (Retrieve path) = Some (input_name tree who path)
version_read tree who call = None

-- The call needs the bytes of the version, even if it is online.
abbrev pub wants_bytes : StoreCall → Bool
wants_bytes (Append path bytes) = true
wants_bytes (Fetch path mode) = true
wants_bytes call = false

-- The call brings an offline version back to the disc.
abbrev pub brings : StoreCall → Bool
brings (Fetch path mode) = true
brings (Retrieve path) = true
brings call = false

-- The number of blocks of the call's new version.
abbrev pub new_blocks : Tree → List ℕ → StoreCall → ℕ
new_blocks tree who (Put path bytes) = blocks_for (length bytes)
new_blocks tree who (Append path bytes) = blocks_for (length (file_row tree (input_name tree who path)).bytes + length bytes)
new_blocks tree who call = 0

-- The call writes to the disc, apart from bringing a version back.
abbrev pub writes : StoreCall → Bool
writes (Fetch path mode) = false
writes (Retrieve path) = false
writes (ListFiles user) = false
writes (TrapCheck path user) = false
writes call = true

-- The users whose directories the call changes.
abbrev pub changes : Tree → List ℕ → StoreCall → List (List ℕ)
changes tree who (NewUser user space time money) = user ∷ []
changes tree who (Put path bytes) = (output_name tree who path).user ∷ []
changes tree who (Append path bytes) = (input_name tree who path).user ∷ []
changes tree who (Erase path) = (input_name tree who path).user ∷ []
changes tree who (Rename path to) = (input_name tree who path).user ∷ []
changes tree who (TrapGo path user modes) = (input_name tree who path).user ∷ []
changes tree who (TrapStop path user modes) = (input_name tree who path).user ∷ []
changes tree who call = []

-- The stamp of a file's version.
abbrev pub stamp_of : Tree → Full → ℕ
stamp_of tree full = (file_row tree full).stamp

-- A new version replaces the old one.
abbrev pub with_version : Tree → Full → FinMap nat_cmp Place → FinMap nat_cmp Place
with_version tree full places = insert (remove places (stamp_of tree full)) tree.next fresh

-- The places of versions after the call.
abbrev pub places_after : Tree → List ℕ → StoreCall → FinMap nat_cmp Place → FinMap nat_cmp Place
places_after tree who (Put path bytes) places = with_version tree (output_name tree who path) places
places_after tree who (Append path bytes) places = with_version tree (input_name tree who path) places
places_after tree who (Erase path) places = remove places (stamp_of tree (input_name tree who path))
places_after tree who (Fetch path mode) places = with_online true (stamp_of tree (input_name tree who path)) places
places_after tree who (Retrieve path) places = with_online true (stamp_of tree (input_name tree who path)) places
places_after tree who call places = places

-- A commit removes the intent from the disc, unless its dump is open.
abbrev pub kept_intent : Option OpenDump → Option Intent → Option Intent
kept_intent None intent = None
kept_intent (Some d) intent = intent

-- The state after a commit of k.
abbrev pub commits : State → Holding → State
commits s k = record s { holding = Some (record k { intent = kept_intent s.open_dump k.intent }) }

-- The holding without kept users.
abbrev pub no_longer_kept : Holding → Holding
no_longer_kept k = record k { kept = empty }

-- The store is down, and what it had in memory is lost. `kept` is empty while no store is up, since the kept users are known only in
-- memory.
abbrev pub down : State → State
down s = record s { up = false; open_dump = None; holding = option_map no_longer_kept s.holding }

module _ (s : State) (k : Holding) (who : List ℕ) (call : StoreCall) where
  -- The place of this file's version; without a file, that of a new version.
  abbrev pub place_of : Option Full → Place
  place_of None = fresh
  place_of (Some full) = place_at k.places (stamp_of k.tree full)

  -- The version that the call reads is offline.
  abbrev pub is_offline : Bool
  is_offline = not (place_of (version_read k.tree who call)).online

  -- The reel of a copy; 0 if there is none.
  abbrev pub copy_serial : Option TapeCopy → ℕ
  copy_serial None = 0
  copy_serial (Some copy) = copy.serial

  -- The reel of the version that the call reads.
  abbrev pub reel_of : ℕ
  reel_of = copy_serial (place_of (version_read k.tree who call)).copy

  -- The length of a version in bytes; 0 if there is none.
  abbrev pub len_of : Option Full → ℕ
  len_of None = 0
  len_of (Some full) = length (file_row k.tree full).bytes

  -- The call brings a version back, which is offline.
  abbrev pub brings_now : Bool
  brings_now = brings call && is_offline

  -- The number of blocks that the call needs on the disc.
  abbrev pub need : ℕ
  need = if brings_now then blocks_for (len_of (version_read k.tree who call)) else new_blocks k.tree who call

  -- The room on the disc, if the candidates with stamps below `until` are offline.
  abbrev pub room_until : ℕ → ℕ
  room_until until = room s k + taken_blocks k until

  -- The candidates with stamps below `until` are taken offline: only as many as are needed, or all.
  pub record IsUnjam (until : ℕ) : Type 0 where
    pub enough : (need ≤ room_until until) ⊎ ((stamp : ℕ) → is_candidate (place_at k.places stamp) ≡ true → stamp < until)
    pub least : (lower : ℕ) → lower < until → room_until lower < need

  -- The open dump after the call, with its changed users touched.
  abbrev pub touched_by : OpenDump → OpenDump
  touched_by d = record d { touched = with_all (changes k.tree who call) d.touched }

  -- The state after the commit that takes versions offline.
  abbrev pub after_unjam : ℕ → State
  after_unjam until = commits s (taken_offline until k)

  -- What the store holds after the call.
  abbrev pub held_after : ℕ → Holding
  held_after until = record (taken_offline until k) {
    tree = plain_tree k.tree who call;
    places = places_after k.tree who call (taken_offline until k).places;
    kept = without_all (changes k.tree who call) k.kept;
  }

  -- The state after the call.
  abbrev pub after_call : ℕ → State
  after_call until =
      if writes call || brings_now then record (commits s (held_after until)) { open_dump = option_map touched_by s.open_dump } else s

-- The same, given what the devices did.
module _ (s : State) (k : Holding) (who : List ℕ) (call : StoreCall) (o : Outcome) where
  -- The refusals before room is checked, in their order.
  abbrev pub early : Option StoreFault
  early = first_fault (
      (is_some (fault_of k.tree who call), unwrap_or (fault_of k.tree who call) Stopped)
      ∷ (is_offline s k who call && not (is_mounted s (reel_of s k who call)), WaitTape (reel_of s k who call))
      ∷ (is_tape_read o && is_offline s k who call, TapeReadFault)
      ∷ [])

  -- The refusals from the check of room on, in their order.
  abbrev pub late : ℕ → Option StoreFault
  late until = first_fault (
      (nat_lt (room_until s k who call until) (need s k who call), DiscFull (need s k who call) (room_until s k who call until))
      ∷ (is_disc_read o && wants_bytes call && not (is_offline s k who call) && nat_lt 0 (len_of s k who call (version_read k.tree who call)), DiscReadFault)
      ∷ (is_cut o && (writes call || brings_now s k who call), Stopped)
      ∷ [])

  -- A failed write leaves the state as before; or with the chosen versions offline, if there are any; or as after the
  -- call. The store is then down. Any other refusal leaves the state unchanged.
  abbrev pub LeftByRefusal : ℕ → StoreFault → State → Type 0
  LeftByRefusal until Stopped new =
      (new ≡ down s)
      ⊎ ((((stamp : ℕ) × (is_taken k until stamp ≡ true)) × (new ≡ down (after_unjam s k who call until)))
      ⊎ (new ≡ down (after_call s k who call until)))
  LeftByRefusal until fault new = new ≡ s

  -- The rest of the step, if no early refusal applies: versions are taken offline as needed, and the call is done or refused.
  pub record Planned (answer : Result StoreReply StoreFault) (new : State) : Type 0 where
    pub until : ℕ
    pub unjam : IsUnjam s k who call until
    pub step : MatchOption (late until)
        ((answer ≡ Ok (reply_to k.tree who call)) × (new ≡ after_call s k who call until))
        (λ fault. (answer ≡ Err fault) × LeftByRefusal until fault new)

  -- The step of a call.
  abbrev pub CallStep : Result StoreReply StoreFault → State → Type 0
  CallStep answer new = MatchOption early (Planned answer new) (λ fault. (answer ≡ Err fault) × (new ≡ s))
