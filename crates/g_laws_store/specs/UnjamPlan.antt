-- Which files are taken off the disc to make room: a plan over records, which is the one of the step.
use Rattle.std.specs.Prelude.{◌≡◌, ◌≢◌, ◌⊎◌, ℕ, ◌+◌, ◌<◌, ◌≤◌, Bool, true, false, ◌&&◌, nat_lt, List, sum_by, length, All, AllPairs, Contains, Option, is_some, if◌then◌else◌}
use Rattle.g_base.specs.Block.{blocks_for}
use Rattle.g_tape.specs.Reel.{Reel}
use Rattle.g_plain.specs.declared.calls.StoreCall.{StoreCall}
use Rattle.g_tree.specs.Records.{IsRecords}
use Rattle.g_disc_contents.specs.Contents.{File, recs_in, taken_off}
use Rattle.g_disc_contents.specs.Facts.{OnlineFacts, room_of}
use Rattle.g_store_model.specs.State as state
use Rattle.g_store_model.specs.CallStep.{IsUnjam, need, room_until as room_by_step}
use Rattle.g_store_meaning.specs.Reading.{View, places_of, state_up}
use Rattle.g_store_meaning.specs.StoreInvariant.{DumpFacts}
use Rattle.g_laws_store.specs.Rooms.{ArePins, HasLength, held_in}

-- The file is on the disc, isn't empty, and also has a copy on tape.
abbrev pub is_candidate : File → Bool
is_candidate f = f.online && nat_lt 0 f.rec.len && is_some f.rec.tape

-- Whether the file is a candidate below this stamp.
abbrev pub is_taken : ℕ → File → Bool
is_taken until f = nat_lt f.rec.stamp until && is_candidate f

-- The room after the candidates with lower stamps are taken off the disc.
abbrev pub room_until : OnlineFacts → ℕ → ℕ
room_until o until = room_of o + sum_by (λ f. if is_taken until f then blocks_for f.rec.len else 0) o.contents.files

-- A plan: the numbers of exactly the candidates below a stamp, each once, and the room that this yields. Either it suffices
-- for what is needed, or no candidate is left; and with fewer candidates it doesn't suffice.
pub record IsUnjamPlan (wanted : ℕ) (o : OnlineFacts) (take : List ℕ) (room : ℕ) : Type 0 where
  pub until : ℕ
  pub from : All (λ n. (f : File) × Contains o.contents.files f × (f.rec.number ≡ n) × (is_taken until f ≡ true)) take
  pub all : (f : File) → Contains o.contents.files f → is_taken until f ≡ true → Contains take f.rec.number
  pub once : AllPairs (λ m n. m ≢ n) take
  pub room_is : room ≡ room_until o until
  pub enough : (wanted ≤ room) ⊎ ((f : File) → Contains o.contents.files f → is_candidate f ≡ true → f.rec.stamp < until)
  pub least : (lower : ℕ) → lower < until → room_until o lower < wanted

-- What is known of records, texts and pins when a plan is made.
pub record ArePlanned (v : View) (o : OnlineFacts) (dump : Option DumpFacts) : Type 0 where
  pub records : IsRecords o.contents.users (recs_in o.contents)
  pub long : All (HasLength v.text) o.contents.files
  pub pins : ArePins dump o.pins

-- The plan is that of the step, with the same stamp.
pub record UnjamIs : Type 0 where
  pub step_is : (v : View) (reels : List Reel) (o : OnlineFacts) (dump : Option DumpFacts) (who : List ℕ) (call : StoreCall) (take : List ℕ) (room : ℕ)
      → ArePlanned v o dump → (is : IsUnjamPlan (need (state_up v reels o dump) (held_in v o) who call) o take room)
      → IsUnjam (state_up v reels o dump) (held_in v o) who call is.until
  pub reached : (v : View) (reels : List Reel) (o : OnlineFacts) (dump : Option DumpFacts) (who : List ℕ) (call : StoreCall) (blocks : ℕ) (take : List ℕ) (room : ℕ)
      → ArePlanned v o dump → (is : IsUnjamPlan blocks o take room) → room ≡ room_by_step (state_up v reels o dump) (held_in v o) who call is.until
  -- and so are the places of the files afterwards
  pub places_are : (v : View) (o : OnlineFacts) (dump : Option DumpFacts) (blocks : ℕ) (take : List ℕ) (room : ℕ)
      → ArePlanned v o dump → (is : IsUnjamPlan blocks o take room) → places_of (taken_off take o.contents.files) ≡ (state.taken_offline is.until (held_in v o)).places
  -- versions are taken off the disc in the step if and only if the plan takes files, for which a commit is made
  pub takes : (v : View) (o : OnlineFacts) (dump : Option DumpFacts) (blocks : ℕ) (take : List ℕ) (room : ℕ)
      → ArePlanned v o dump → (is : IsUnjamPlan blocks o take room) → 0 < length take → (stamp : ℕ) × (state.is_taken (held_in v o) is.until stamp ≡ true)
  pub takes_none : (v : View) (o : OnlineFacts) (dump : Option DumpFacts) (blocks : ℕ) (take : List ℕ) (room : ℕ)
      → ArePlanned v o dump → (is : IsUnjamPlan blocks o take room) → length take ≡ 0 → (stamp : ℕ) → state.is_taken (held_in v o) is.until stamp ≡ false
