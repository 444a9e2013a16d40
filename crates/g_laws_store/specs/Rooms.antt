-- The room that memory counts is the room of the state.
use Rattle.std.specs.Prelude.{◌≡◌, ◌≢◌, ℕ, List, length, All, AllPairs, Option, None, IfSome}
use Rattle.g_tape.specs.Reel.{Reel}
use Rattle.g_tree.specs.Records.{IsRecords}
use Rattle.g_disc_contents.specs.Contents.{File, recs_in}
use Rattle.g_disc_contents.specs.Facts.{OnlineFacts, Pin, room_of}
use Rattle.g_store_model.specs.State.{Holding, room}
use Rattle.g_store_meaning.specs.Reading.{View, holding_of, state_up, users_not_in}
use Rattle.g_store_meaning.specs.StoreInvariant.{DumpFacts}

-- The text of a version is as long as its record says.
abbrev pub HasLength : (ℕ → List ℕ) → File → Type 0
HasLength text f = length (text f.rec.stamp) ≡ f.rec.len

-- There are pins only while a dump is open, and no two have the same stamp.
pub record ArePins (dump : Option DumpFacts) (pins : Option (List Pin)) : Type 0 where
  pub none : dump ≡ None → pins ≡ None
  pub apart : IfSome pins (AllPairs (λ p q. p.stamp ≢ q.stamp))

-- What the state of a store that is up holds.
abbrev pub held_in : View → OnlineFacts → Holding
held_in v o = holding_of v.text (users_not_in o.changed o.contents.users) o.contents

-- The room of the state of a store that is up is the room that memory counts.
abbrev pub RoomIs : Type 0
RoomIs = (v : View) (reels : List Reel) (o : OnlineFacts) (dump : Option DumpFacts) → IsRecords o.contents.users (recs_in o.contents)
    → All (HasLength v.text) o.contents.files → ArePins dump o.pins → room (state_up v reels o dump) (held_in v o) ≡ room_of o
