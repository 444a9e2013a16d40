-- How a store answers a call: from each state that the store represents, the step of the call, with an outcome whose fault count
-- rose, leads to a state that the store represents afterwards. If the devices don't expose their contents, the call may start from
-- another such state, with the same names and lengths but other bytes. `From` has the state that the call started from, `Steps` says
-- which answers take the step, `Leads` has the step and the state after it, and `Did` what was written and read. `HasCause` and
-- `Answers` have what holds in addition, whether or not the devices expose their contents.
use Rattle.std.specs.Prelude.{◌≡◌, ◌≢◌, ◌⊎◌, ℕ, ◌+◌, ◌<◌, ◌≤◌, ◌↔◌, ◌||◌, true, false, List, length, Contains, Option, Some, None, IfSome, Result, Err, OnOk}
use Rattle.std.specs.Option.{ForSome}
use Rattle.g_base.specs.Block.{blocks_for}
use Rattle.g_base.specs.Counts.{Rose, RoseBy}
use Rattle.g_name.specs.declared.full.Full.{Full}
use Rattle.g_disc.specs.Disc.{Causes}
use Rattle.g_tape.specs.Reads.{OnlyReads, HasRead, blocks_of}
use Rattle.g_entry.specs.declared.file_rec.TapeCopy.{TapeCopy}
use Rattle.g_plain.specs.declared.calls.StoreCall.{StoreCall}
use Rattle.g_plain.specs.declared.calls.StoreReply.{StoreReply}
use Rattle.g_plain.specs.declared.faults.StoreFault.{StoreFault}
use Rattle.g_plain.specs.declared.faults.StoreFault.TheVariants.{NoMemory, NoCopy, DiscReadFault, TapeReadFault, Stopped}
use Rattle.g_disc_contents.specs.Contents.{File}
use Rattle.g_disc_contents.specs.Commits.{Commits}
use Rattle.g_disc_contents.specs.Facts.{IsTied}
use Rattle.g_incr.specs.Layout.{Dump}
use Rattle.g_shelf.specs.CompletedDumps.{AreShelved}
use Rattle.g_plain.specs.PlainStep.{fault_of}
use Rattle.g_store_model.specs.State.{State, Holding, is_mounted, is_taken}
use Rattle.g_store_model.specs.CallStep.{Outcome, Plain, DiscRead, TapeRead, Cut, CallStep, IsUnjam, brings_now, is_offline, len_of, need, place_of, reel_of, version_read, writes}
use Rattle.g_store_meaning.specs.Belonging.{Belong}
use Rattle.g_store_meaning.specs.StoreInvariant.{StoreFacts, IsOpen, IsUp}
use Rattle.g_tree.specs.Records.{full_of}
use Rattle.g_store_meaning.specs.Meaning.{IsContent, told_reels}
use Rattle.g_store_meaning.specs.Reading.{AllTold, StandsForState}
use Rattle.g_store_meaning.specs.Surviving.{SurvivesOnDisc}

-- If the outcome isn't the plain one, its fault count rose.
abbrev pub Raised : Outcome → StoreFacts → StoreFacts → Type 0
Raised Plain old new = Unit {0}
Raised DiscRead old new = Rose old.online.disc.read_faults new.online.disc.read_faults
Raised TapeRead old new = Rose old.rack.read_faults new.rack.read_faults
Raised Cut old new = Rose old.online.disc.write_faults new.online.disc.write_faults ⊎ Rose old.rack.write_faults new.rack.write_faults

-- All devices of the store expose their contents.
abbrev pub Told : StoreFacts → Type 0
Told s = AllTold s.online.disc.held (told_reels s.rack)

-- The invariant: disc and rack belong together, and a store that isn't spent satisfies the invariant of its memory.
pub record Belongs (s : StoreFacts) : Type 0 where
  pub devices : Belong s.online.disc.held s.rack
  pub up : s.spent ≡ false → (text : ℕ → List ℕ) × (shelf : ℕ → List Dump) × AreShelved shelf (told_reels s.rack) × IsUp text shelf s

-- The part of a store's invariant that doesn't depend on what its devices expose.
pub record IsStore (s : StoreFacts) : Type 0 where
  pub tied : IsTied s.online
  pub live : s.spent ≡ false → s.online.live ≡ true
  pub open_dump : s.spent ≡ false → IfSome s.dump (λ d. IsOpen d s.online s.rack)
  pub pins : s.spent ≡ false → s.dump ≡ None → s.online.pins ≡ None

-- The number of commits of a call: none if it writes nothing; otherwise one, or two if versions were taken offline before.
abbrev pub AreCommits : State → Holding → List ℕ → StoreCall → ℕ → Type 0
AreCommits s k who call n =
    ((n ≡ 0) × ((writes call || brings_now s k who call) ≡ false))
    ⊎ (((writes call || brings_now s k who call) ≡ true) × (until : ℕ) × IsUnjam s k who call until
    × (((n ≡ 1) × ((stamp : ℕ) → is_taken k until stamp ≡ false)) ⊎ ((n ≡ 2) × (stamp : ℕ) × (is_taken k until stamp ≡ true))))

-- Exactly the blocks of the new bytes, the slot blocks whose cached content differs, and the gate were written, unless
-- the write count saturates.
pub record Wrote (before : State) (k : Holding) (who : List ℕ) (call : StoreCall) (old new : StoreFacts) : Type 0 where
  pub count : ℕ
  pub are : AreCommits before k who call count
  pub blocks : ℕ
  pub commits : Commits count old.online.layout new.online.layout blocks
  pub writes : RoseBy (blocks + need before k who call) old.online.disc.writes new.online.disc.writes

-- The same for an event of the operator: n commits, and no other write of the disc.
pub record WroteCommits (n : ℕ) (old new : StoreFacts) : Type 0 where
  pub blocks : ℕ
  pub commits : Commits n old.online.layout new.online.layout blocks
  pub writes : RoseBy blocks old.online.disc.writes new.online.disc.writes

-- The blocks of the copy of an offline version were read during this call.
abbrev pub ReadCopy : Option TapeCopy → ℕ → StoreFacts → StoreFacts → Type 0
ReadCopy None len old new = Unit {0}
ReadCopy (Some c) len old new = (i : ℕ) → c.first ≤ i → i < c.first + blocks_for len → HasRead c.serial i old.rack new.rack

-- A successful call wrote the blocks of its commits, and read the copy if its version was offline.
pub record Did (before : State) (k : Holding) (who : List ℕ) (call : StoreCall) (old new : StoreFacts) : Type 0 where
  pub wrote : Wrote before k who call old new
  pub read : is_offline before k who call ≡ true → ReadCopy (place_of before k who call (version_read k.tree who call)).copy (len_of before k who call (version_read k.tree who call)) old new

-- A state that the store represents after the call, and the step that leads to it.
pub record Leads (before : State) (old new : StoreFacts) (who : List ℕ) (call : StoreCall) (answer : Result StoreReply StoreFault) : Type 0 where
  pub after : State
  pub left : StandsForState new after
  pub held : Holding
  pub holds : before.holding ≡ Some held
  pub outcome : Outcome
  pub raised : Raised outcome old new
  pub step : CallStep before held who call outcome answer after
  pub did : OnOk answer (Did before held who call old new)

-- An offline file of this name has its copy at a place on this reel that isn't content of the reel's completed dumps,
-- if the reel exposes its blocks.
abbrev pub IsLostCopy : StoreFacts → Full → ℕ → Type 0
IsLostCopy s full serial = (f : File) × Contains s.online.contents.files f × (full_of s.online.contents.users f.rec ≡ full) × (f.online ≡ false)
    × (first : ℕ) × (f.rec.tape ≡ Some (record { serial = serial; first = first }))
    × ((shelf : ℕ → List Dump) (text : List ℕ) → AreShelved shelf (told_reels s.rack) → ForSome (blocks_of serial s.rack)
    (λ _. length text ≡ f.rec.len → IsContent (shelf serial) (record { serial = serial; first = first }) text → ⊥))

-- The call is granted and needs the offline file of this name, whose reel is mounted.
pub record WantsCopy (s : State) (who : List ℕ) (call : StoreCall) (full : Full) (serial : ℕ) : Type 0 where
  pub held : Holding
  pub holds : s.holding ≡ Some held
  pub granted : fault_of held.tree who call ≡ None
  pub reads : version_read held.tree who call ≡ Some full
  pub offline : is_offline s held who call ≡ true
  pub reel : reel_of s held who call ≡ serial
  pub mounted : is_mounted s serial ≡ true

-- If memory ran out, the state is unchanged. If a copy is lost, it is unchanged too, and the call needed that copy. The state
-- after a failed write is known if the devices expose their contents. Every other answer is that of the step.
abbrev pub Steps : State → StoreFacts → List ℕ → StoreCall → Result StoreReply StoreFault → StoreFacts → Type 0
Steps before old who call (Err NoMemory) new = StandsForState new before
Steps before old who call (Err (NoCopy full serial)) new = StandsForState new before × WantsCopy before who call full serial
Steps before old who call (Err Stopped) new = Told old → Leads before old new who call (Err Stopped)
Steps before old who call answer new = Leads before old new who call answer

-- The state that the call started from. It is s if the devices expose their contents; otherwise it may have other bytes.
pub record From (s : State) (old : StoreFacts) (who : List ℕ) (call : StoreCall) (answer : Result StoreReply StoreFault) (new : StoreFacts) : Type 0 where
  pub before : State
  pub stands : StandsForState old before
  pub told : Told old → before ≡ s
  pub steps : Steps before old who call answer new

-- Each fault count changes only with its own answer. No tape is written, mounted or armed, and the disc isn't armed.
pub record HasCause {A : Type 0} (old new : StoreFacts) (answer : Result A StoreFault) : Type 0 where
  pub disc : Causes (answer ≡ Err DiscReadFault) (answer ≡ Err Stopped) old.online.disc new.online.disc
  pub tapes : OnlyReads old.rack new.rack
  pub tape_read : answer ≡ Err TapeReadFault → Rose old.rack.read_faults new.rack.read_faults
  pub tape_read_only : (answer ≡ Err TapeReadFault → ⊥) → new.rack.read_faults ≡ old.rack.read_faults
  -- a refusal that isn't a failed write writes nothing
  pub writes : (fault : StoreFault) → answer ≡ Err fault → fault ≢ Stopped → new.online.disc.writes ≡ old.online.disc.writes

-- The call took its step to what the store represents now; and if disc and rack belonged together, they still do.
pub record IsAnswered (old : StoreFacts) (who : List ℕ) (call : StoreCall) (answer : Result StoreReply StoreFault) (new : StoreFacts) : Type 0 where
  pub step : (Told old → Belongs old) → (s : State) → StandsForState old s → From s old who call answer new
  pub belongs : Told old → Belongs old → Belongs new

-- How a store answers a call.
pub record Answers (old : StoreFacts) (who : List ℕ) (call : StoreCall) (answer : Result StoreReply StoreFault) (new : StoreFacts) : Type 0 where
  pub step : (Told old → Belongs old) → (s : State) → StandsForState old s → From s old who call answer new
  pub cause : HasCause old new answer
  pub keeps : IsStore new
  pub told : Told old → Told new
  pub belongs : Told old → Belongs old → Belongs new
  pub lost : (full : Full) (serial : ℕ) → answer ≡ Err (NoCopy full serial) → IsLostCopy old full serial
  pub no_copy : Told old → Belongs old → (full : Full) (serial : ℕ) → answer ≡ Err (NoCopy full serial) → ⊥
  pub dump : (answer ≡ Err Stopped → ⊥) → new.dump ≡ old.dump
  pub spent : (new.spent ≡ true) ↔ (answer ≡ Err Stopped)
  -- after a failed write, whatever a power loss leaves on the disc, the call was answered as if its failed write had left that
  pub survives : SurvivesOnDisc (IsAnswered old who call answer) old new
