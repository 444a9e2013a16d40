-- What START would adopt is what the closing of the dump would note, from the opening on and for all answers in between.
-- (The law of START requires it of the state in which the last step of a dump is stopped: `OwnsNoted`.)
use Rattle.std.specs.Prelude.{◌≡◌, ℕ, ◌<◌, ◌≤◌, true, false, List, Option, Some, None, Ok}
use Rattle.std.specs.FinMap.{get}
use Rattle.g_name.specs.declared.full.Full.{Full}
use Rattle.g_plain.specs.declared.calls.StoreCall.{StoreCall}
use Rattle.g_plain.specs.declared.calls.StoreReply.{StoreReply}
use Rattle.g_plain.specs.PlainTree.{FileRow}
use Rattle.g_store_model.specs.State.{Holding, OpenDump, State, is_in}
use Rattle.g_store_model.specs.CallStep.{CallStep, Outcome}
use Rattle.g_store_model.specs.DumpSteps.{DumpStep, Going, MigrateStep, OpenStep, waits}
use Rattle.g_store_model.specs.StartLaws.{OwnsNoted}
use Rattle.g_disc_contents.specs.Facts.{Pin}
use Rattle.g_incr.specs.Plan.{Plan}
use Rattle.g_store_meaning.specs.Reading.{Opened, View}
use Rattle.g_store_meaning.specs.StoreInvariant.{StoreFacts}
use Rattle.g_laws_store.specs.Rooms.{held_in}
use Rattle.g_laws_store.specs.Opening.{IsOpening}

-- No two files have the same stamp, each stamp is less than the next one, and no version of an unchanged user waits.
pub record IsDumpable (k : Holding) : Type 0 where
  pub apart : (full other : Full) (row another : FileRow) → get k.tree.files full ≡ Some row → get k.tree.files other ≡ Some another → row.stamp ≡ another.stamp → full ≡ other
  pub dated : (full : Full) (row : FileRow) → get k.tree.files full ≡ Some row → row.stamp < k.tree.next
  pub kept : (full : Full) (row : FileRow) → get k.tree.files full ≡ Some row → is_in k.kept full.user ≡ true → waits k (full, row) ≡ false

-- The copies that the dump's own records name are those that its waiting versions get, and neither has a stamp that is
-- assigned later.
pub record OwnsStand (d : OpenDump) (k : Holding) : Type 0 where
  pub noted : OwnsNoted d k
  pub older : (stamp : ℕ) → k.tree.next ≤ stamp → (get d.own stamp ≡ None) × (get d.waiting stamp ≡ None)

-- The state has an open dump, for which `OwnsStand` holds.
pub record StandIn (s : State) : Type 0 where
  pub held : Holding
  pub holds : s.holding ≡ Some held
  pub dump : OpenDump
  pub is : s.open_dump ≡ Some dump
  pub stand : OwnsStand dump held

-- A store that opens a dump satisfies `OwnsStand` afterwards, and calls, migrations and dump steps preserve it.
pub record OwnsStay : Type 0 where
  -- a store that opens a dump satisfies the premise
  pub dumpable : (v : View) (s : StoreFacts) (plan : Plan) (pins : List Pin) (content : List (List ℕ)) (opened : Opened) → IsOpening v s plan pins content opened
      → IsDumpable (held_in v s.online)
  pub opened : (s : State) (k : Holding) (serial : ℕ) (o : Outcome) (number : ℕ) (new : State) → IsDumpable k → OpenStep s k serial o (Ok number) new → StandIn new
  -- calls, migrations and steps of the dump preserve it
  pub called : (s : State) (k : Holding) (d : OpenDump) (who : List ℕ) (call : StoreCall) (o : Outcome) (reply : StoreReply) (new : State)
      → s.holding ≡ Some k → s.open_dump ≡ Some d → OwnsStand d k → CallStep s k who call o (Ok reply) new → StandIn new
  pub migrated : (s : State) (k : Holding) (d : OpenDump) (user : Option (List ℕ)) (full : Full) (o : Outcome) (answer : Full) (new : State)
      → s.holding ≡ Some k → s.open_dump ≡ Some d → OwnsStand d k → MigrateStep s k user full o (Ok answer) new → StandIn new
  pub going : (s : State) (k : Holding) (d : OpenDump) (o : Outcome) (new : State)
      → s.holding ≡ Some k → OwnsStand d k → DumpStep s k d o (Ok Going) new → StandIn new
