-- The opening of a dump: its plan, when it is refused, and what it leaves.
use Rattle.std.specs.Prelude.{◌≡◌, ◌≢◌, ◌⊎◌, ◌↔◌, ℕ, ◌+◌, ◌-◌, ◌^◌, ◌<◌, ◌≤◌, true, false, List, [], Some, is_some, Result, Err, IfErr}
use Rattle.std.specs.Option.{ForSome}
use Rattle.std.specs.List.{flat_map}
use Rattle.g_base.specs.Counts.{Rose, RoseBy}
use Rattle.g_entry.specs.declared.file_rec.FileRec.{FileRec}
use Rattle.g_entry.specs.declared.head.Intent.{Intent}
use Rattle.g_tape.specs.declared.fault.TapeFault.{TapeFault}
use Rattle.g_tape.specs.declared.fault.TapeFault.TheVariants as tape
use Rattle.g_tape.specs.Rack.{Rack, reel, refuses_unmount}
use Rattle.g_tape.specs.Reads.{blocks_of}
use Rattle.g_plain.specs.declared.faults.StoreFault.{StoreFault}
use Rattle.g_plain.specs.declared.faults.StoreFault.TheVariants.{CountersSpent, NoMemory, NoTape, NotMounted, Stopped, TapeFull, TapeReadFault}
use Rattle.g_disc_contents.specs.Commits.{Commits}
use Rattle.g_disc_contents.specs.Contents.{Holds, recs_in, with_intent}
use Rattle.g_disc_contents.specs.Durable.{IsDurable, StopsSafely}
use Rattle.g_disc_contents.specs.Facts.{OnlineFacts}
use Rattle.g_incr.specs.Layout.{Dump}
use Rattle.g_incr.specs.Plan.{IsPlan, Plan, first_content, needs}
use Rattle.g_online.specs.Pins.{HasPinned}
use Rattle.g_shelf.specs.CompletedDumps.{AreCompleted, end_of}
use Rattle.g_store_meaning.specs.Meaning.{files_of}
use Rattle.g_store_meaning.specs.StoreInvariant.{DumpFacts, IsOpen}

-- The files of these users, one user after another.
abbrev pub held_of : List ℕ → List FileRec → List FileRec
held_of users files = flat_map (λ n. files_of n files) users

-- The plan of a dump that is opened now at this place: all users with their current records, and the files of the changed
-- ones.
abbrev pub plan_of : ℕ → ℕ → OnlineFacts → Plan
plan_of serial place o = record {
  serial = serial;
  place = place;
  number = o.contents.head.last_dump + 1;
  next = o.contents.head.next_stamp;
  users = o.contents.users;
  held = o.changed;
  files = held_of o.changed (recs_in o.contents);
}

-- The intent that names the dump of this plan.
abbrev pub intent_of : Plan → Intent
intent_of plan = record { serial = plan.serial; place = plan.place; number = plan.number }

-- If the reel exposes its contents, the place is the end of its completed dumps.
pub record IsEnd (serial : ℕ) (rack : Rack) (place : ℕ) : Type 0 where
  pub is : ForSome (blocks_of serial rack) (λ blocks. (dumps : List Dump) → AreCompleted serial blocks dumps → place ≡ end_of dumps)

-- A dump of `need` blocks would exceed the reel, which has room for `room` of them after its completed dumps.
pub record IsTooLong (serial need room : ℕ) (o : OnlineFacts) (rack : Rack) : Type 0 where
  pub place : ℕ
  pub end_is : IsEnd serial rack place
  pub need_is : need ≡ needs (plan_of serial place o)
  pub room_is : ForSome (reel serial rack.reels) (λ r. room ≡ r.capacity - place)
  pub less : room < need

-- The last dump has the greatest possible number.
abbrev pub IsSpent : OnlineFacts → Type 0
IsSpent o = o.contents.head.last_dump ≡ 2 ^ 62 - 1

-- The reel can't be written, for this reason.
abbrev pub IsKeptBack : ℕ → Rack → TapeFault → Type 0
IsKeptBack serial rack fault = refuses_unmount (reel serial rack.reels) ≡ Some fault

-- The refusals that exist.
abbrev pub MayRefuse : StoreFault → Type 0
MayRefuse CountersSpent = Unit {0}
MayRefuse NoTape = Unit {0}
MayRefuse NotMounted = Unit {0}
MayRefuse TapeReadFault = Unit {0}
MayRefuse (TapeFull need room) = Unit {0}
MayRefuse Stopped = Unit {0}
MayRefuse NoMemory = Unit {0}
MayRefuse fault = ⊥

-- The refusals, in their order: dump numbers are used up, the reel doesn't exist, isn't mounted, couldn't be read, or is
-- too short. The first three are returned if and only if their condition holds, the others only if it does. Conversely, a
-- dump that is opened, or stopped at its intent, has room (`Begins`, `StoppedOpening`).
pub record RefusesOpening {A : Type 0} (serial : ℕ) (o : OnlineFacts) (old new : Rack) (result : Result A StoreFault) : Type 0 where
  pub spent : (result ≡ Err CountersSpent) ↔ IsSpent o
  pub no_tape : (result ≡ Err NoTape) ↔ ((IsSpent o → ⊥) × IsKeptBack serial old tape.NoTape)
  pub not_mounted : (result ≡ Err NotMounted) ↔ ((IsSpent o → ⊥) × IsKeptBack serial old tape.NotMounted)
  pub rose : result ≡ Err TapeReadFault → Rose old.read_faults new.read_faults
  pub kept : (result ≡ Err TapeReadFault → ⊥) → new.read_faults ≡ old.read_faults
  pub full : (need room : ℕ) → result ≡ Err (TapeFull need room) → IsTooLong serial need room o old
  pub only : IfErr result MayRefuse

-- A refused opening changes nothing. If memory ran out, the list of touched users may differ; it matters only while a dump
-- is open.
abbrev pub LeftByRefusal : StoreFault → OnlineFacts → OnlineFacts → Type 0
LeftByRefusal Stopped old new = Unit {0}
LeftByRefusal NoMemory old new = new ≡ record old { touched = new.touched }
LeftByRefusal fault old new = new ≡ old

-- The dump of this plan is opened in memory and on disc: the versions that wait are pinned, and one commit has written the
-- intent.
pub record HasOpened (plan : Plan) (old new : OnlineFacts) : Type 0 where
  pub pinned : HasPinned plan.serial (first_content plan) old (record old { pins = new.pins; touched = [] })
  pub contents : new.contents ≡ with_intent (Some (intent_of plan)) old.contents
  pub changed_is : new.changed ≡ old.changed
  pub touched : new.touched ≡ []
  pub live : new.live ≡ true
  pub told : is_some new.disc.held ≡ is_some old.disc.held
  pub blocks : ℕ
  pub commits : Commits 1 old.layout new.layout blocks
  pub writes : RoseBy blocks old.disc.writes new.disc.writes
  pub durable : IsDurable old → IsDurable new

-- The commit of the intent was stopped: the disc holds what it held, or that with the intent, and the filestore accepts no
-- further call.
pub record StoppedAtIntent (plan : Plan) (old new : OnlineFacts) : Type 0 where
  pub live : new.live ≡ false
  pub told : is_some new.disc.held ≡ is_some old.disc.held
  pub holds : ForSome new.disc.held (λ blocks. Holds blocks old.contents ⊎ Holds blocks (with_intent (Some (intent_of plan)) old.contents))
  pub survives : StopsSafely (λ left. Holds left old.contents ⊎ Holds left (with_intent (Some (intent_of plan)) old.contents)) old new

-- A dump was opened: its plan is that of the current filestore, and begins after the completed dumps of the reel.
pub record Begins (serial : ℕ) (old : OnlineFacts) (rack : Rack) (d : DumpFacts) (new : OnlineFacts) (after : Rack) : Type 0 where
  pub place : ℕ
  pub end_is : IsEnd serial rack place
  pub dump : d ≡ record { plan = plan_of serial place old; done = 0 }
  pub rules : IsPlan d.plan
  pub opened : HasOpened d.plan old new
  pub open_dump : IsOpen d new after

-- The opening was stopped: a dump of such a plan would have been opened, and has room.
pub record StoppedOpening (serial : ℕ) (old new : OnlineFacts) (rack : Rack) : Type 0 where
  pub place : ℕ
  pub end_is : IsEnd serial rack place
  pub fits : ForSome (reel serial rack.reels) (λ r. place + needs (plan_of serial place old) ≤ r.capacity)
  pub left : StoppedAtIntent (plan_of serial place old) old new
