-- How FORMAT, START or RESTORE make a store from devices.
use Rattle.std.specs.Prelude.{◌≡◌, ◌≢◌, ◌⊎◌, ℕ, ◌↔◌, true, false, List, [], All, Option, Some, None, IfSome, Result, Ok, Err}
use Rattle.std.specs.Option.{ForSome}
use Rattle.std.specs.FinMap.{empty}
use Rattle.g_base.specs.Counts.{Rose}
use Rattle.g_base.specs.ToldContent.{Changes}
use Rattle.g_disc.specs.Disc.{Causes, DiscState, StayDurable}
use Rattle.g_disc.specs.Durable.{PowerLossLeaves}
use Rattle.g_dirs.specs.Durable.{IsDiscSafe}
use Rattle.g_entry.specs.declared.head.Intent.{Intent}
use Rattle.g_tape.specs.Rack.{Rack, is_mounted, reel}
use Rattle.g_tape.specs.Reads.{OnlyReads}
use Rattle.g_shelf.specs.LastDump.{first_unmounted}
use Rattle.g_plain.specs.declared.faults.StoreFault.{StoreFault}
use Rattle.g_plain.specs.declared.faults.StoreFault.TheVariants.{NoMemory, NoFilestore, NoDump, DiscReadFault, TapeReadFault, Stopped, RackNotEmpty, RackNotMounted, MountFirst}
use Rattle.g_plain.specs.PlainTree.{formatted}
use Rattle.g_store_model.specs.State.{Holding, State}
use Rattle.g_store_model.specs.CallStep.{Outcome, Plain, DiscRead, TapeRead, Cut}
use Rattle.g_store_model.specs.Rising.{FormatStep, StartStep, RestoreStep}
use Rattle.g_disc_contents.specs.Contents.{Contents, Holds, has}
use Rattle.g_disc_contents.specs.Durable.{IsDurable}
use Rattle.g_disc_contents.specs.Facts.{OnlineFacts}
use Rattle.g_online.specs.Beginning.{AsBeforeOr, HasLoaded, WroteFirst}
use Rattle.g_restore.specs.Losses.{LostIsNamed}
use Rattle.g_restore.specs.Reels.{AreOnReels}
use Rattle.g_restore.specs.Restoration.{IsOfDisc, IsOfReels, IsRestored, NothingIsLost}
use Rattle.g_store_meaning.specs.Belonging.{Belong}
use Rattle.g_store_meaning.specs.Meaning.{told_reels}
use Rattle.g_store_meaning.specs.StoreInvariant.{StoreFacts}
use Rattle.g_store_meaning.specs.Reading.{AllTold, DevicesStandFor, ReelsTold, StandsForState, holding_of}
use Rattle.g_store_meaning.specs.Answers.{Belongs, IsStore, Told}
use Rattle.g_store_meaning.specs.Surviving.{disc_left}
use Rattle.g_store.specs.Refusing.{first_used}
use Rattle.g_store.specs.Starting.{Takes}

-- The store is made. If the devices expose their contents and the premise `given` holds, its state is that of the step.
pub record Makes {A : Type 0} (given : Type 0) (by : State → Outcome → Result A StoreFault → State → Type 0) (count : A → ℕ) (disc : DiscState) (rack : Rack) (reply : A) (new : StoreFacts) : Type 0 where
  pub running : new.spent ≡ false
  pub no_dump : new.dump ≡ None
  pub untouched : new.online.touched ≡ []
  pub unkept : All (λ u. has new.online.changed u.number ≡ true) new.online.contents.users
  pub keeps : IsStore new
  pub causes : Causes ⊥ ⊥ disc new.online.disc
  pub tapes : OnlyReads rack new.rack
  pub tape_read : new.rack.read_faults ≡ rack.read_faults
  pub wrote : WroteFirst (count reply) disc new.online
  pub told : AllTold disc.held (told_reels rack) → Told new
  pub step : AllTold disc.held (told_reels rack) → given → (s : State) → DevicesStandFor disc.size disc.held (told_reels rack) s
      → (u : State) × StandsForState new u × by s Plain (Ok reply) u
  pub belongs : AllTold disc.held (told_reels rack) → given → Belongs new

-- The fault counter that the outcome concerns rose. Without a failure nothing is required.
abbrev pub Risen : Outcome → DiscState → Rack → DiscState → Rack → Type 0
Risen Plain disc rack disc' rack' = Unit {0}
Risen DiscRead disc rack disc' rack' = Rose disc.read_faults disc'.read_faults
Risen TapeRead disc rack disc' rack' = Rose rack.read_faults rack'.read_faults
Risen Cut disc rack disc' rack' = Rose disc.write_faults disc'.write_faults

-- The devices then represent a state, which the step makes of the previous one, with an outcome whose counter rose.
pub record LeadsDown {A : Type 0} (by : State → Outcome → Result A StoreFault → State → Type 0) (before : State) (disc : DiscState) (rack : Rack) (fault : StoreFault) (disc' : DiscState) (rack' : Rack) : Type 0 where
  pub after : State
  pub left : DevicesStandFor disc'.size disc'.held (told_reels rack') after
  pub outcome : Outcome
  pub raised : Risen outcome disc rack disc' rack'
  pub step : by before outcome (Err fault) after

-- Out of memory, the devices represent the previous state; any other refusal is the step's.
abbrev pub StepsDown : {A : Type 0} → (State → Outcome → Result A StoreFault → State → Type 0) → State → DiscState → Rack → StoreFault → DiscState → Rack → Type 0
StepsDown by before disc rack NoMemory disc' rack' = DevicesStandFor disc'.size disc'.held (told_reels rack') before
StepsDown by before disc rack fault disc' rack' = LeadsDown by before disc rack fault disc' rack'

-- What these devices hold, after a store wasn't made: they represent a state that the step leaves, and belong together if the previous ones did.
pub record LeavesDevices {A : Type 0} (given : Type 0) (by : State → Outcome → Result A StoreFault → State → Type 0) (disc : DiscState) (rack : Rack) (fault : StoreFault) (disc' : DiscState) (rack' : Rack) : Type 0 where
  pub step : AllTold disc.held (told_reels rack) → given → (s : State) → DevicesStandFor disc.size disc.held (told_reels rack) s → StepsDown by s disc rack fault disc' rack'
  pub belongs : AllTold disc.held (told_reels rack) → Belong disc.held rack → Belong disc'.held rack'

-- The store isn't made, and the devices are returned.
pub record Refuses {A : Type 0} (given : Type 0) (by : State → Outcome → Result A StoreFault → State → Type 0) (disc : DiscState) (rack : Rack) (fault : StoreFault) (disc' : DiscState) (rack' : Rack) : Type 0 where
  pub causes : Causes (fault ≡ DiscReadFault) (fault ≡ Stopped) disc disc'
  pub tapes : OnlyReads rack rack'
  pub tape_read : fault ≡ TapeReadFault → Rose rack.read_faults rack'.read_faults
  pub tape_read_only : (fault ≡ TapeReadFault → ⊥) → rack'.read_faults ≡ rack.read_faults
  pub held : fault ≢ Stopped → disc'.held ≡ disc.held
  pub writes : fault ≢ Stopped → disc'.writes ≡ disc.writes
  -- so a power loss may leave nothing that it couldn't have left before
  pub durable : fault ≢ Stopped → StayDurable disc disc'
  pub told : AllTold disc.held (told_reels rack) → AllTold disc'.held (told_reels rack')
  pub step : AllTold disc.held (told_reels rack) → given → (s : State) → DevicesStandFor disc.size disc.held (told_reels rack) s → StepsDown by s disc rack fault disc' rack'
  pub belongs : AllTold disc.held (told_reels rack) → Belong disc.held rack → Belong disc'.held rack'
  -- after a failed write, the same of whatever a power loss leaves of the disc, if that was safe
  pub survives : fault ≡ Stopped → IsDiscSafe disc → PowerLossLeaves (λ _ left. LeavesDevices given by disc rack fault (disc_left left disc') rack') disc disc'

-- What a new filestore holds: two users and no file, no dump and no intent.
abbrev pub new_holding : Holding
new_holding = record { tree = formatted; places = empty; last = 0; intent = None; kept = empty }

-- The contents are those of a new filestore, for any texts.
abbrev pub IsNew : Contents → Type 0
IsNew c = (text : ℕ → List ℕ) → holding_of text [] c ≡ new_holding

-- The refusals of FORMAT, and no others.
abbrev pub IsOfFormat : StoreFault → Type 0
IsOfFormat (RackNotEmpty serial) = Unit {0}
IsOfFormat DiscReadFault = Unit {0}
IsOfFormat Stopped = Unit {0}
IsOfFormat NoMemory = Unit {0}
IsOfFormat fault = ⊥

-- FORMAT only requires that every reel is empty; it reports the first one that isn't, for every rack. Afterwards the disc
-- holds the new filestore, which is durable, for any previous contents. This includes a disc and a rack that represented no
-- state, such as a disc that names files on reels that were emptied.
pub record Formats (disc : DiscState) (rack : Rack) (new : StoreFacts) : Type 0 where
  pub makes : Makes (Unit {0}) FormatStep (λ reply. 1) disc rack tt new
  pub durable : IsDurable new.online
  pub empty : first_used rack.reels ≡ None
  pub holds : IsNew new.online.contents

-- After a stop the disc represents what it represented before, or the new filestore.
pub record RefusesFormat (disc : DiscState) (rack : Rack) (fault : StoreFault) (disc' : DiscState) (rack' : Rack) : Type 0 where
  pub refuses : Refuses (Unit {0}) FormatStep disc rack fault disc' rack'
  -- a safe disc stays safe
  pub safe : IsDiscSafe disc → IsDiscSafe disc'
  pub full : (serial : ℕ) → (fault ≡ RackNotEmpty serial) ↔ (first_used rack.reels ≡ Some serial)
  pub stopped : fault ≡ Stopped → (c : Contents) × IsNew c × Changes (AsBeforeOr c) disc.held disc'.held × (IsDiscSafe disc → PowerLossLeaves (AsBeforeOr c) disc disc')
  pub only : IsOfFormat fault

-- START requires that disc and rack belong together. The reel of an intent is mounted, for every rack.
abbrev pub commits_of_start : Option ℕ → ℕ
commits_of_start None = 0
commits_of_start (Some number) = 1

-- The refusals of START, and no others.
abbrev pub IsOfStart : StoreFault → Type 0
IsOfStart NoFilestore = Unit {0}
IsOfStart DiscReadFault = Unit {0}
IsOfStart (MountFirst serial) = Unit {0}
IsOfStart TapeReadFault = Unit {0}
IsOfStart Stopped = Unit {0}
IsOfStart NoMemory = Unit {0}
IsOfStart fault = ⊥

-- START made the store. The reel of its intent is mounted.
pub record Begun (disc : DiscState) (rack : Rack) (adopted : Option ℕ) (new : StoreFacts) : Type 0 where
  pub makes : Makes (Belong disc.held rack) StartStep commits_of_start disc rack adopted new
  -- if the disc was safe, the filestore is durable
  pub durable : ForSome disc.held (λ _. IsDiscSafe disc → IsDurable new.online)
  pub intent : IfSome new.online.contents.head.intent (λ i. is_mounted (reel i.serial rack.reels) ≡ true)
  -- what the disc holds, unchanged or with the dump of its intent adopted, whether or not disc and rack belong together
  pub loaded : (o : OnlineFacts) × HasLoaded disc o × Takes o rack (Ok adopted) new.online

-- Why START made no store. `MountFirst` names the reel of the intent, which isn't mounted.
pub record RefusesStart (disc : DiscState) (rack : Rack) (fault : StoreFault) (disc' : DiscState) (rack' : Rack) : Type 0 where
  pub refuses : Refuses (Belong disc.held rack) StartStep disc rack fault disc' rack'
  -- a safe disc stays safe
  pub safe : IsDiscSafe disc → IsDiscSafe disc'
  pub first : (serial : ℕ) → fault ≡ MountFirst serial → is_mounted (reel serial rack.reels) ≡ false
  -- for an exposed disc, whether or not disc and rack belong together
  pub none : fault ≡ NoFilestore → ForSome disc.held (λ blocks. (c : Contents) → Holds blocks c → ⊥)
  pub named : (serial : ℕ) → fault ≡ MountFirst serial
      → ForSome disc.held (λ blocks. (c : Contents) × Holds blocks c × (i : Intent) × (c.head.intent ≡ Some i) × (i.serial ≡ serial))
  pub stopped : fault ≡ Stopped → (o : OnlineFacts) × (left : OnlineFacts) × HasLoaded disc o × (left.disc ≡ disc') × Takes o rack (Err Stopped) left
  pub only : IsOfStart fault

-- RESTORE also requires that disc and rack belong together, and that every reel is mounted; it reports the first one that
-- isn't, for every rack. Whether or not disc and rack belong together, the disc then holds what the completed dumps of the
-- rack give, all of whose copies exist, and is durable; and what is lost is named.
pub record Restored (disc : DiscState) (rack : Rack) (number : ℕ) (new : StoreFacts) : Type 0 where
  pub makes : Makes (Belong disc.held rack) RestoreStep (λ n. 1) disc rack number new
  pub durable : IsDurable new.online
  pub mounted : first_unmounted rack.reels ≡ None
  pub lost : LostIsNamed (told_reels rack) (Ok number)
  pub holds : IsRestored (told_reels rack) disc.held number new.online.contents

-- A directory or a copy is lost only if disc and rack don't belong together. The disc is used only if the dumps give
-- something.
pub record RefusesRestore (disc : DiscState) (rack : Rack) (fault : StoreFault) (disc' : DiscState) (rack' : Rack) : Type 0 where
  pub refuses : Refuses (Belong disc.held rack) RestoreStep disc rack fault disc' rack'
  -- a safe disc stays safe
  pub safe : IsDiscSafe disc → IsDiscSafe disc'
  pub unmounted : (serial : ℕ) → (fault ≡ RackNotMounted serial) ↔ (first_unmounted rack.reels ≡ Some serial)
  pub lost : (let answer : Result ℕ StoreFault = Err fault in LostIsNamed (told_reels rack) answer)
  pub none : fault ≡ NoDump → AreOnReels (told_reels rack) []
  pub found : ReelsTold (told_reels rack) → Belong disc.held rack → (let answer : Result ℕ StoreFault = Err fault in NothingIsLost answer)
  pub unread : fault ≡ DiscReadFault → (number : ℕ) × (contents : Contents) × IsRestored (told_reels rack) disc.held number contents
  pub stopped : fault ≡ Stopped → (number : ℕ) × (contents : Contents) × IsRestored (told_reels rack) disc.held number contents
      × Changes (AsBeforeOr contents) disc.held disc'.held × (IsDiscSafe disc → PowerLossLeaves (AsBeforeOr contents) disc disc')
  pub only : IsOfReels fault ⊎ IsOfDisc fault
