-- The invariant of a store that is up: its memory and an open dump.
use Rattle.std.specs.Prelude.{◌≡◌, ℕ, ◌+◌, ◌<◌, ◌≤◌, ◌==◌, Bool, true, false, List, [], ◌∷◌, ◌++◌, map, filter, length, take, drop, Contains, Option, Some, None, IfSome, nat_le, if◌then◌else◌}
use Rattle.std.specs.Option.{ForSome}
use Rattle.g_base.specs.Block.{blocks_for}
use Rattle.g_entry.specs.declared.file_rec.FileRec.{FileRec}
use Rattle.g_entry.specs.declared.user_rec.UserRec.{UserRec}
use Rattle.g_tape.specs.Reel.{Reel}
use Rattle.g_tape.specs.Rack.{Rack, reel}
use Rattle.g_disc_contents.specs.Contents.{Contents, recs_in, with_copies}
use Rattle.g_disc_contents.specs.Facts.{OnlineFacts, Pin, noted}
use Rattle.g_incr.specs.Layout.{Dump, IsDump, dump_blocks, holds}
use Rattle.g_incr.specs.Plan.{Plan, dump_of, needs, waiting, first_content}
use Rattle.g_shelf.specs.CompletedDumps.{all_dumps}
use Rattle.g_store_meaning.specs.Meaning.{HasDirectory, files_of, told_reels}
use Rattle.g_store_meaning.specs.Belonging.{RackBelongs, DiscBelongs}

-- A dump in memory: what it will hold, and how many of its blocks have been written.
pub record DumpFacts : Type 0 where
  pub plan : Plan
  pub done : ℕ

-- A store: the online filestore, the rack, the open dump, and whether a write has failed.
pub record StoreFacts : Type 0 where
  pub online : OnlineFacts
  pub rack : Rack
  pub dump : Option DumpFacts
  pub spent : Bool

-- The pins are the waiting versions of the plan, in their order, with the copies that the plan gives them.
abbrev pub ArePinned : ℕ → ℕ → List FileRec → List Pin → Type 0
ArePinned serial at [] pins = pins ≡ []
ArePinned serial at (r ∷ rs) pins =
    (pin : Pin) × (rest : List Pin) × (pins ≡ pin ∷ rest) × (pin.stamp ≡ r.stamp) × (pin.len ≡ r.len)
    × (pin.copy ≡ record { serial = serial; first = at }) × ForSome pin.blocks (λ blocks. length blocks ≡ blocks_for r.len)
    × ArePinned serial (at + blocks_for r.len) rs rest

-- The content that the pinned versions give, if the disc exposes its blocks.
abbrev pub content_in : List Pin → Option (List (List ℕ))
content_in [] = Some []
content_in (p ∷ ps) = both p.blocks (content_in ps)
  where
    both : Option (List (List ℕ)) → Option (List (List ℕ)) → Option (List (List ℕ))
    both (Some a) (Some b) = Some (a ++ b)
    both a b = None

-- An open dump: its intent, its pins and its reel. Only the blocks already written are compared, if they are exposed.
pub record IsOpen (d : DumpFacts) (o : OnlineFacts) (rack : Rack) : Type 0 where
  pub intent : o.contents.head.intent ≡ Some (record { serial = d.plan.serial; place = d.plan.place; number = d.plan.number })
  pub number : d.plan.number ≡ o.contents.head.last_dump + 1
  pub pins : List Pin
  pub pinned : o.pins ≡ Some pins
  pub are : ArePinned d.plan.serial (first_content d.plan) (waiting d.plan.files) pins
  pub on : Reel
  pub reel_is : reel d.plan.serial rack.reels ≡ Some on
  pub mounted : on.mounted ≡ true
  pub from : d.plan.place ≤ on.len
  pub length_is : 0 < d.done → on.len ≡ d.plan.place + d.done
  pub room : d.plan.place + needs d.plan ≤ on.capacity
  pub within : d.done < needs d.plan
  pub written : 0 < d.done → ForSome on.blocks (λ blocks. ForSome (content_in pins)
      (λ content. drop d.plan.place blocks ≡ take d.done (dump_blocks (dump_of d.plan content))))

-- The record with number 0. File numbers are ignored when directories are compared.
abbrev pub unnumbered : FileRec → FileRec
unnumbered r = record r { number = 0 }

-- The records are the same, apart from file numbers.
abbrev pub same_files : List FileRec → List FileRec → Type 0
same_files a b = map unnumbered a ≡ map unnumbered b

-- The newest dump that holds the user's directory has these files in it, apart from their numbers.
pub record IsKept (dumps : List Dump) (user : ℕ) (files : List FileRec) : Type 0 where
  pub source : Dump
  pub directory : HasDirectory dumps user source
  pub same : same_files (files_of user source.files) files

-- The dumps with numbers of at most n.
abbrev pub up_to : ℕ → List Dump → List Dump
up_to n dumps = filter (λ d. nat_le d.number n) dumps

-- A dump leaves out users who haven't changed since the last completed one. It may, because the directories of the unchanged
-- users are those of the completed dumps.
pub record KeepsDirectories (changed : List ℕ) (c : Contents) (dumps : List Dump) : Type 0 where
  pub each : 0 < c.head.last_dump → (u : UserRec) → Contains c.users u → holds changed u.number ≡ false
      → IsKept (up_to c.head.last_dump dumps) u.number (files_of u.number (recs_in c))
  pub none : c.head.last_dump ≡ 0 → (u : UserRec) → Contains c.users u → holds changed u.number ≡ true

-- If the open dump were completed, the directories of untouched users, with the noted copies, would be those of the dumps. These
-- users may then count as unchanged.
pub record KeepsOpening (o : OnlineFacts) (dumps : List Dump) : Type 0 where
  pub each : (u : UserRec) → Contains o.contents.users u → holds o.touched u.number ≡ false
      → IsKept dumps u.number (files_of u.number (map (λ f. f.rec) (with_copies (noted o.pins) o.contents.files)))

-- The shelf with one more dump, after the others of its reel.
abbrev pub with_dump : Dump → (ℕ → List Dump) → ℕ → List Dump
with_dump d shelf serial = if serial == d.serial then shelf serial ++ d ∷ [] else shelf serial

-- The mark of the open dump may be written at any time, whatever happened to the files: with that dump completed, disc and rack
-- would belong together, and the directories would be those of its opening. Every change of a file preserves this, so the last
-- step of the dump has nothing else to establish.
pub record IsReady (text : ℕ → List ℕ) (shelf : ℕ → List Dump) (reels : List Reel) (o : OnlineFacts) (d : Dump) : Type 0 where
  pub rules : IsDump d
  pub rack : RackBelongs text (all_dumps (with_dump d shelf) reels)
  pub disc : DiscBelongs text (with_dump d shelf) reels o.contents
  pub opening : KeepsOpening o (all_dumps (with_dump d shelf) reels)

-- The invariant of a store that is up: memory and disc agree, no completed dump is newer than the last one, the kept
-- users' directories are in the dumps, and an open dump may be completed at any time.
pub record IsUp (text : ℕ → List ℕ) (shelf : ℕ → List Dump) (s : StoreFacts) : Type 0 where
  pub rack : RackBelongs text (all_dumps shelf (told_reels s.rack))
  pub disc : DiscBelongs text shelf (told_reels s.rack) s.online.contents
  pub quiet : (d : Dump) → Contains (all_dumps shelf (told_reels s.rack)) d → d.number ≤ s.online.contents.head.last_dump
  pub directories : KeepsDirectories s.online.changed s.online.contents (all_dumps shelf (told_reels s.rack))
  pub open_dump : IfSome s.dump (λ d. (pins : List Pin) → s.online.pins ≡ Some pins
      → ForSome (content_in pins) (λ content. IsReady text shelf (told_reels s.rack) s.online (dump_of d.plan content)))
