-- A store that is up preserves its invariant when users are added, an intent is dropped, a tape is written, or a dump is
-- opened, continues, is given up or is closed.
use Rattle.std.specs.Prelude.{◌≡◌, ℕ, ◌+◌, true, false, List, [], map, take, All, Contains, Some, None, IfSome}
use Rattle.std.specs.Option.{ForSome}
use Rattle.g_base.specs.Block.{IsBlock}
use Rattle.g_entry.specs.declared.user_rec.UserRec.{UserRec}
use Rattle.g_entry.specs.Rules.{StampsBelow}
use Rattle.g_tape.specs.Rack.{Rack}
use Rattle.g_tree.specs.Records.{IsRecords}
use Rattle.g_disc_contents.specs.Contents.{Contents, recs_in, with_intent}
use Rattle.g_disc_contents.specs.Facts.{Pin, WaitsByUser, noted}
use Rattle.g_incr.specs.Layout.{Dump, holds}
use Rattle.g_incr.specs.Plan.{IsPlan, Plan, dump_of, first_content, waiting}
use Rattle.g_shelf.specs.CompletedDumps.{AreShelved, end_of}
use Rattle.g_store_meaning.specs.Laws.{closed}
use Rattle.g_store_meaning.specs.Meaning.{files_of, joined, told_reels}
use Rattle.g_store_meaning.specs.Reading.{ReelsTold}
use Rattle.g_store_meaning.specs.Staying.{OnlyGrow, behind}
use Rattle.g_store_meaning.specs.StoreInvariant.{ArePinned, DumpFacts, IsOpen, IsUp, StoreFacts, content_in, with_dump}

-- Every user whose number isn't in the list existed before.
abbrev pub WereThere : List ℕ → List UserRec → Contents → Type 0
WereThere numbers users c = (u : UserRec) → Contains users u → holds numbers u.number ≡ false → (v : UserRec) × Contains c.users v × (v.number ≡ u.number)

-- The racks have reels with the same serials, in the same order; their contents may differ.
abbrev pub SameReels : Rack → Rack → Type 0
SameReels old new = map (λ r. r.serial) new.reels ≡ map (λ r. r.serial) old.reels

-- The store without its intent, and the store with its dump given up.
abbrev pub without_intent : StoreFacts → StoreFacts
without_intent s = behind s (with_intent None s.online.contents) s.online.changed s.online.touched

-- The store after its open dump is given up.
abbrev pub given_up : StoreFacts → StoreFacts
given_up s = record s { online = record s.online { pins = None }; dump = None }

-- The invariant of a store that is up is preserved when users change, an intent is dropped, reels are written or mounted,
-- and a dump continues or is given up.
pub record EventsStayUp : Type 0 where
  pub users : (text : ℕ → List ℕ) (shelf : ℕ → List Dump) (s : StoreFacts) (users : List UserRec) (changed touched : List ℕ) → (let c = s.online.contents in
      OnlyGrow s changed touched → WereThere changed users c → IfSome s.dump (λ d. WereThere touched users c) → IsUp text shelf s
      → IsUp text shelf (behind s (record c { users = users }) changed touched))
  pub dropped : (text : ℕ → List ℕ) (shelf : ℕ → List Dump) (s : StoreFacts) → s.dump ≡ None → IsUp text shelf s → IsUp text shelf (without_intent s)
  pub reels : (text : ℕ → List ℕ) (shelf : ℕ → List Dump) (s : StoreFacts) (new : Rack) → SameReels s.rack new → IsUp text shelf s → IsUp text shelf (record s { rack = new })
  pub going : (text : ℕ → List ℕ) (shelf : ℕ → List Dump) (s : StoreFacts) (d : DumpFacts) (done : ℕ) → s.dump ≡ Some d → IsUp text shelf s
      → IsUp text shelf (record s { dump = Some (record d { done = done }) })
  pub abandoned : (text : ℕ → List ℕ) (shelf : ℕ → List Dump) (s : StoreFacts) → IsUp text shelf s → IsUp text shelf (given_up s)

-- The closing of a dump whose mark is written: its copies are noted, and the users touched since its opening count as
-- changed.
abbrev pub closed_with : DumpFacts → List ℕ → StoreFacts → StoreFacts
closed_with d touched s = record s {
  online = record s.online { contents = closed d.plan.number (noted s.online.pins) s.online.contents; pins = None; changed = s.online.touched; touched = touched };
  dump = None;
}

-- The closing of an open dump preserves the invariant of a store that is up, with the dump among the completed ones.
abbrev pub ClosingStaysUp : Type 0
ClosingStaysUp = (text : ℕ → List ℕ) (shelf : ℕ → List Dump) (s : StoreFacts) (d : DumpFacts) (content : List (List ℕ)) (touched : List ℕ)
    → s.dump ≡ Some d → (is : IsOpen d s.online s.rack) → content_in is.pins ≡ Some content → IsUp text shelf s
    → IsUp text (with_dump (dump_of d.plan content) shelf) (closed_with d touched s)

-- A dump is opened by this plan: it has the files of the changed users, and begins after the completed dumps of its reel.
pub record IsPlanOf (shelf : ℕ → List Dump) (changed : List ℕ) (c : Contents) (plan : Plan) : Type 0 where
  pub rules : IsPlan plan
  pub number : plan.number ≡ c.head.last_dump + 1
  pub place : plan.place ≡ end_of (shelf plan.serial)
  pub next : plan.next ≡ c.head.next_stamp
  pub users : plan.users ≡ c.users
  pub held : plan.held ≡ changed
  pub files : (n : ℕ) → holds changed n ≡ true → files_of n plan.files ≡ files_of n (recs_in c)

-- The blocks of a pin contain the text of its version.
abbrev pub PinsText : (ℕ → List ℕ) → Pin → Type 0
PinsText text p = ForSome p.blocks (λ blocks. All IsBlock blocks × (take p.len (joined blocks) ≡ text p.stamp))

-- What is known of the records on the disc when a dump is opened.
pub record AreDumpable (changed : List ℕ) (c : Contents) : Type 0 where
  pub records : IsRecords c.users (recs_in c)
  pub dated : StampsBelow c.head.next_stamp (recs_in c)
  pub waits : All (WaitsByUser changed) c.files

-- The store after a dump with this plan and these pins is opened: the intent is on the disc, and no user is touched.
abbrev pub opened_with : Plan → List Pin → StoreFacts → StoreFacts
opened_with plan pins s = record s {
  online = record s.online {
    contents = with_intent (Some (record { serial = plan.serial; place = plan.place; number = plan.number })) s.online.contents;
    pins = Some pins;
    touched = [];
  };
  dump = Some (record { plan = plan; done = 0 });
}

-- The opening of a dump by its plan preserves the invariant of a store that is up.
abbrev pub OpeningStaysUp : Type 0
OpeningStaysUp = (text : ℕ → List ℕ) (shelf : ℕ → List Dump) (s : StoreFacts) (plan : Plan) (pins : List Pin)
    → s.dump ≡ None → ReelsTold (told_reels s.rack) → AreShelved shelf (told_reels s.rack) → Contains (map (λ r. r.serial) (told_reels s.rack)) plan.serial
    → AreDumpable s.online.changed s.online.contents → IsPlanOf shelf s.online.changed s.online.contents plan
    → ArePinned plan.serial (first_content plan) (waiting plan.files) pins → All (PinsText text) pins
    → IsUp text shelf s → IsUp text shelf (opened_with plan pins s)
