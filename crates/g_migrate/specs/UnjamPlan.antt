-- Further facts about a plan of unjamming (`IsUnjamPlan` of `g_laws_store`): its order, and the room without its files.
use Rattle.std.specs.Prelude.{◌≡◌, ℕ, ◌<◌, List, Contains}
use Rattle.g_disc_contents.specs.Contents.{File, taken_off}
use Rattle.g_disc_contents.specs.Facts.{OnlineFacts, room_with}

-- The version of the first of two files, by number, is older.
abbrev pub IsOlder : List File → ℕ → ℕ → Type 0
IsOlder files m n = (f g : File) → Contains files f → Contains files g → f.rec.number ≡ m → g.rec.number ≡ n → f.rec.stamp < g.rec.stamp

-- The room of the plan is the room without these files.
abbrev pub IsRoomWithout : OnlineFacts → List ℕ → ℕ → Type 0
IsRoomWithout o taken room = room ≡ room_with (taken_off taken o.contents.files) o
