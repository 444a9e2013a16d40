-- What a call's change makes of the contents, and of the numbers of changed and touched users, is what the step of the call
-- makes of the state.
use Rattle.std.specs.Prelude.{◌≡◌, ◌⊎◌, ℕ, ◌-◌, ◌<◌, ◌≤◌, ◌||◌, ◌++◌, true, false, List, [], ◌∷◌, All, Contains, Option, Some, None, IfSome, bit_and, bit_or, is_some, length, slice_set}
use Rattle.g_name.specs.declared.full.Full.{Full}
use Rattle.g_name.specs.declared.path.Path.{Path}
use Rattle.g_trap.specs.TrapList.{modes_of, with_modes}
use Rattle.g_entry.specs.declared.file_rec.FileRec.{FileRec}
use Rattle.g_entry.specs.declared.user_rec.UserRec.{UserRec}
use Rattle.g_entry.specs.Rules.{StampsBelow}
use Rattle.g_tape.specs.Reel.{Reel}
use Rattle.g_plain.specs.declared.calls.BudgetKind.{BudgetKind}
use Rattle.g_plain.specs.declared.calls.StoreCall.{StoreCall}
use Rattle.g_plain.specs.declared.calls.StoreCall.TheVariants.{NewUser, Budget, Put, Append, Erase, Rename, TrapGo, TrapStop}
use Rattle.g_plain.specs.PlainStep.{fault_of, with_budget}
use Rattle.g_plain.specs.PlainTree.{Tree, file_row, input_name, output_name, user_row}
use Rattle.g_tree.specs.Records.{IsRecords, full_of, name_of, number_of, user_row_of}
use Rattle.g_tree.specs.State as records
use Rattle.g_disc_contents.specs.Contents.{Contents, File, brought, committed, recs_in, set_rec, taken_off, with_number, without_file}
use Rattle.g_disc_contents.specs.Facts.{OnlineFacts}
use Rattle.g_store_model.specs.CallStep.{IsUnjam, after_call, brings_now, need, version_read, writes}
use Rattle.g_store_meaning.specs.Laws.{with_text, with_version}
use Rattle.g_store_meaning.specs.Reading.{View, state_up}
use Rattle.g_store_meaning.specs.StoreInvariant.{DumpFacts}
use Rattle.g_laws_store.specs.Rooms.{ArePins, HasLength, held_in}
use Rattle.g_laws_store.specs.UnjamPlan.{IsUnjamPlan}

-- What is known of a store when a call arrives: its records satisfy their rules, and versions are pinned if and only if a
-- dump is open.
pub record IsKnown (o : OnlineFacts) (dump : Option DumpFacts) : Type 0 where
  pub records : IsRecords o.contents.users (recs_in o.contents)
  pub pinned : is_some o.pins ≡ is_some dump

-- For a call that adds bytes or brings them back, it is also known of texts and pins; and no dump's next stamp exceeds that
-- of the filestore.
pub record IsAsked (v : View) (o : OnlineFacts) (dump : Option DumpFacts) : Type 0 where
  pub records : IsRecords o.contents.users (recs_in o.contents)
  pub dated : StampsBelow o.contents.head.next_stamp (recs_in o.contents)
  pub long : All (HasLength v.text) o.contents.files
  pub pins : ArePins dump o.pins
  pub pinned : is_some o.pins ≡ is_some dump
  pub dumped : IfSome v.dumped (λ t. t.last.next ≤ o.contents.head.next_stamp)
  pub opened : IfSome v.opened (λ p. p.directory.last.next ≤ o.contents.head.next_stamp)

-- These users are added to the numbers.
abbrev pub marked : List ℕ → List ℕ → List ℕ
marked [] numbers = numbers
marked (n ∷ ns) numbers = with_number n (marked ns numbers)

-- The filestore after a change: it has these contents, and these users are changed and, while versions are pinned, touched.
pub record IsBehind (o : OnlineFacts) (e : Contents) (owners : List ℕ) (new : OnlineFacts) : Type 0 where
  pub size : new.disc.size ≡ o.disc.size
  pub contents : new.contents ≡ committed (is_some o.pins) e
  pub pins : new.pins ≡ o.pins
  pub changed : new.changed ≡ marked owners o.changed
  pub touched : is_some o.pins ≡ true → new.touched ≡ marked owners o.touched

-- The name and the bytes of the version that a call creates.
abbrev pub version_made : Tree → List ℕ → StoreCall → Option (Full × List ℕ)
version_made tree who (Put path bytes) = Some (output_name tree who path, bytes)
version_made tree who (Append path bytes) = Some (input_name tree who path, (file_row tree (input_name tree who path)).bytes ++ bytes)
version_made tree who call = None

-- The record of a new version. It replaces the record of the file of its name and preserves that file's traps, or it
-- belongs to a new file, which only its owner may use.
pub record IsVersionOf (o : OnlineFacts) (full : Full) (r : FileRec) : Type 0 where
  pub stamp : r.stamp ≡ o.contents.head.next_stamp
  pub tape : r.tape ≡ None
  pub name : full_of o.contents.users r ≡ full
  pub rules : IsRecords o.contents.users (records.with_file r (recs_in o.contents))
  pub place : ((old : FileRec) × Contains (recs_in o.contents) old × (old.number ≡ r.number) × (full_of o.contents.users old ≡ full) × (old.owner ≡ r.owner) × (old.traps ≡ r.traps))
      ⊎ ((number_of o.contents.users (recs_in o.contents) full ≡ None) × All (λ q. q.number ≡ r.number → ⊥) (recs_in o.contents) × (r.traps ≡ record { owner = 31; others = [] }))

-- Another record of a file, with the same version.
pub record IsRecordOf (o : OnlineFacts) (old r : FileRec) : Type 0 where
  pub number : r.number ≡ old.number
  pub owner : r.owner ≡ old.owner
  pub stamp : r.stamp ≡ old.stamp
  pub len : r.len ≡ old.len
  pub tape : r.tape ≡ old.tape
  pub rules : IsRecords o.contents.users (records.with_file r (recs_in o.contents))

-- The path and the user of a call that opens or closes modes, and the modes that the user has afterwards.
abbrev pub trapped : StoreCall → Option (Path × List ℕ)
trapped (TrapGo path user modes) = Some (path, user)
trapped (TrapStop path user modes) = Some (path, user)
trapped call = None

-- The modes that the user has after the call, from those before it.
abbrev pub modes_by : StoreCall → ℕ → ℕ
modes_by (TrapGo path user modes) had = bit_or had modes
modes_by (TrapStop path user modes) had = had - bit_and had modes
modes_by call had = had

-- For each kind of call, the state of the store after its change is the one that the call's step makes.
pub record CallsGoByStep : Type 0 where
  -- a call that neither writes nor brings a file back leaves the state unchanged
  pub tells : (v : View) (reels : List Reel) (o : OnlineFacts) (dump : Option DumpFacts) (who : List ℕ) (call : StoreCall) (until : ℕ)
      → (writes call || brings_now (state_up v reels o dump) (held_in v o) who call) ≡ false
      → state_up v reels o dump ≡ after_call (state_up v reels o dump) (held_in v o) who call until
  -- a file is brought back, and others are taken off the disc for it
  pub brings : (v : View) (reels : List Reel) (o new : OnlineFacts) (dump : Option DumpFacts) (who : List ℕ) (call : StoreCall) (f : File) (bytes : Option (List ℕ)) (take : List ℕ) (room : ℕ)
      → IsAsked v o dump → Contains o.contents.files f → version_read (held_in v o).tree who call ≡ Some (full_of o.contents.users f.rec)
      → fault_of (held_in v o).tree who call ≡ None → brings_now (state_up v reels o dump) (held_in v o) who call ≡ true
      → (plan : IsUnjamPlan (need (state_up v reels o dump) (held_in v o) who call) o take room)
      → IsBehind o (record o.contents { files = brought f.rec.number bytes (taken_off take o.contents.files) }) [] new
      → state_up v reels new dump ≡ after_call (state_up v reels o dump) (held_in v o) who call plan.until
  pub erases : (v : View) (reels : List Reel) (o new : OnlineFacts) (dump : Option DumpFacts) (who : List ℕ) (path : Path) (f : File) (until : ℕ)
      → IsKnown o dump → Contains o.contents.files f → full_of o.contents.users f.rec ≡ input_name (held_in v o).tree who path
      → fault_of (held_in v o).tree who (Erase path) ≡ None → IsUnjam (state_up v reels o dump) (held_in v o) who (Erase path) until
      → IsBehind o (record o.contents { files = without_file f.rec.number o.contents.files }) (f.rec.owner ∷ []) new
      → state_up v reels new dump ≡ after_call (state_up v reels o dump) (held_in v o) who (Erase path) until
  pub renames : (v : View) (reels : List Reel) (o new : OnlineFacts) (dump : Option DumpFacts) (who : List ℕ) (path : Path) (to : List ℕ) (f : File) (r : FileRec) (until : ℕ)
      → IsKnown o dump → Contains o.contents.files f → full_of o.contents.users f.rec ≡ input_name (held_in v o).tree who path → IsRecordOf o f.rec r
      → r.traps ≡ f.rec.traps → full_of o.contents.users r ≡ record (input_name (held_in v o).tree who path) { local = to }
      → fault_of (held_in v o).tree who (Rename path to) ≡ None → IsUnjam (state_up v reels o dump) (held_in v o) who (Rename path to) until
      → IsBehind o (record o.contents { files = set_rec r o.contents.files }) (r.owner ∷ []) new
      → state_up v reels new dump ≡ after_call (state_up v reels o dump) (held_in v o) who (Rename path to) until
  -- TrapGo and TrapStop
  pub traps : (v : View) (reels : List Reel) (o new : OnlineFacts) (dump : Option DumpFacts) (who : List ℕ) (call : StoreCall) (path : Path) (user : List ℕ) (number : ℕ) (f : File) (r : FileRec) (until : ℕ)
      → IsKnown o dump → trapped call ≡ Some (path, user) → Contains o.contents.files f → full_of o.contents.users f.rec ≡ input_name (held_in v o).tree who path
      → name_of o.contents.users number ≡ user → number < length o.contents.users → IsRecordOf o f.rec r → full_of o.contents.users r ≡ input_name (held_in v o).tree who path
      → r.traps ≡ with_modes f.rec.traps f.rec.owner number (modes_by call (modes_of f.rec.traps f.rec.owner number))
      → fault_of (held_in v o).tree who call ≡ None → IsUnjam (state_up v reels o dump) (held_in v o) who call until
      → IsBehind o (record o.contents { files = set_rec r o.contents.files }) (r.owner ∷ []) new
      → state_up v reels new dump ≡ after_call (state_up v reels o dump) (held_in v o) who call until
  pub adds : (v : View) (reels : List Reel) (o new : OnlineFacts) (dump : Option DumpFacts) (who user : List ℕ) (space time money : ℕ) (u : UserRec) (until : ℕ)
      → IsKnown o dump → IsRecords (o.contents.users ++ u ∷ []) (recs_in o.contents) → u.user ≡ user
      → user_row_of o.contents.users u ≡ record { superior = who; space = space; time = time; money = money }
      → fault_of (held_in v o).tree who (NewUser user space time money) ≡ None → IsUnjam (state_up v reels o dump) (held_in v o) who (NewUser user space time money) until
      → IsBehind o (record o.contents { users = o.contents.users ++ u ∷ [] }) (u.number ∷ []) new
      → state_up v reels new dump ≡ after_call (state_up v reels o dump) (held_in v o) who (NewUser user space time money) until
  pub budgets : (v : View) (reels : List Reel) (o new : OnlineFacts) (dump : Option DumpFacts) (who user : List ℕ) (kind : BudgetKind) (amount : ℕ) (u : UserRec) (until : ℕ)
      → IsKnown o dump → IsRecords (slice_set o.contents.users u.number u) (recs_in o.contents) → u.number < length o.contents.users
      → name_of o.contents.users u.number ≡ u.user → u.user ≡ user → user_row_of o.contents.users u ≡ with_budget (user_row (held_in v o).tree user) kind amount
      → fault_of (held_in v o).tree who (Budget user kind amount) ≡ None → IsUnjam (state_up v reels o dump) (held_in v o) who (Budget user kind amount) until
      → IsBehind o (record o.contents { users = slice_set o.contents.users u.number u }) [] new
      → state_up v reels new dump ≡ after_call (state_up v reels o dump) (held_in v o) who (Budget user kind amount) until
  -- a new version, by Put or Append, for which others are taken off the disc; its text is the text of its stamp from then
  -- on
  pub puts : (v : View) (reels : List Reel) (o new : OnlineFacts) (dump : Option DumpFacts) (who : List ℕ) (call : StoreCall) (full : Full) (bytes : List ℕ) (f : File) (take : List ℕ) (room : ℕ)
      → IsAsked v o dump → version_made (held_in v o).tree who call ≡ Some (full, bytes) → IsVersionOf o full f.rec → f.online ≡ true
      → fault_of (held_in v o).tree who call ≡ None
      → (plan : IsUnjamPlan (need (state_up v reels o dump) (held_in v o) who call) o take room)
      → IsBehind o (with_version f take o.contents) (f.rec.owner ∷ []) new
      → state_up (record v { text = with_text o.contents.head.next_stamp bytes v.text }) reels new dump
      ≡ after_call (state_up v reels o dump) (held_in v o) who call plan.until
