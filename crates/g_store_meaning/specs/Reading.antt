-- The state that a store represents. The bytes of versions are given by one text for each stamp. If all devices expose their
-- contents (`AllTold`), a text is what disc and tape hold of its version, the dumped tree is that of the completed dumps, and
-- an open dump's tree is that of its plan. Otherwise bytes on tape constrain nothing: a text has the length of its version, and
-- agrees with the disc if the disc exposes the bytes. Every store therefore represents a state, and every number, name and
-- length in it is exact.
use Rattle.std.specs.Prelude.{◌≡◌, ℕ, ◌==◌, true, false, not, nat_lt, List, [], map, filter, length, All, Option, Some, None, IfSome, is_some}
use Rattle.std.specs.Option.{ForSome, option_map}
use Rattle.std.specs.List.{flat_map}
use Rattle.std.specs.Ordering.{nat_cmp}
use Rattle.std.specs.FinMap.{FinMap, from_entries}
use Rattle.g_base.specs.Block.{blocks_for}
use Rattle.g_entry.specs.declared.file_rec.FileRec.{FileRec}
use Rattle.g_entry.specs.declared.file_rec.TapeCopy.{TapeCopy}
use Rattle.g_entry.specs.declared.user_rec.UserRec.{UserRec}
use Rattle.g_plain.specs.PlainTree.{Tree}
use Rattle.g_tree.specs.Records.{tree_of}
use Rattle.g_tape.specs.Reel.{Reel}
use Rattle.g_disc_contents.specs.Contents.{Contents, File, Holds, has, recs_in}
use Rattle.g_disc_contents.specs.Facts.{OnlineFacts, Pin}
use Rattle.g_incr.specs.Layout.{Dump, ends}
use Rattle.g_incr.specs.Plan.{Plan, dump_of, needs}
use Rattle.g_shelf.specs.CompletedDumps.{AreShelved, all_dumps}
use Rattle.g_store_model.specs.State as state
use Rattle.g_store_meaning.specs.Meaning.{IsContent, DumpedDirectory, files_in, told_reels}
use Rattle.g_store_meaning.specs.Belonging.{KeepsRecord}
use Rattle.g_store_meaning.specs.StoreInvariant.{DumpFacts, StoreFacts, content_in, with_dump}

-- The rack as it would be if the open dump were completed: that dump, all completed dumps then, and the directory that they
-- give.
pub record Opened : Type 0 where
  pub dump : Dump
  pub dumps : List Dump
  pub directory : DumpedDirectory dumps

-- The parts of a state that a store doesn't have in memory: the texts of the versions, the completed dumps of the reels, the
-- dumped directory, and what an open dump will leave. A view mentions no rack, so it stays valid while reels are only read.
pub record View : Type 0 where
  pub text : ℕ → List ℕ
  pub shelf : ℕ → List Dump
  pub dumps : List Dump
  pub dumped : Option (DumpedDirectory dumps)
  pub opened : Option Opened

-- The text is that of the version: it has its length, it agrees with exposed bytes on the disc, and, if all devices expose their
-- contents, the copy of an offline version is the text.
pub record HasText (told : Type 0) (text : List ℕ) (dumps : List Dump) (f : File) : Type 0 where
  pub len : length text ≡ f.rec.len
  pub bytes : ForSome f.bytes (λ bytes. bytes ≡ text)
  pub tape : told → f.online ≡ false → IfSome f.rec.tape (λ c. IsContent dumps c text)

-- Every reel exposes its blocks.
pub record ReelsTold (reels : List Reel) : Type 0 where
  pub each : All (λ r. is_some r.blocks ≡ true) reels

-- The disc and every reel expose their blocks.
pub record AllTold (held : Option (List (List ℕ))) (reels : List Reel) : Type 0 where
  pub disc : is_some held ≡ true
  pub each : ReelsTold reels

-- The view is correct for the rack. The dumped tree is constrained if all devices expose their contents.
pub record IsRackView (held : Option (List (List ℕ))) (reels : List Reel) (v : View) : Type 0 where
  pub shelved : AreShelved v.shelf reels
  pub all : v.dumps ≡ all_dumps v.shelf reels
  pub dumped : AllTold held reels → IfSome v.dumped (λ t. All (λ r. KeepsRecord (v.text r.stamp) v.dumps r) (files_in t))
  -- there is no dumped tree only if no directory of the dumps has all its bytes
  pub none : AllTold held reels → v.dumped ≡ None → (t : DumpedDirectory v.dumps) (text : ℕ → List ℕ)
      → All (λ r. KeepsRecord (text r.stamp) v.dumps r) (files_in t) → ⊥

-- The view is correct for the rack and for what the disc holds.
pub record IsView (held : Option (List (List ℕ))) (reels : List Reel) (c : Contents) (v : View) : Type 0 where
  pub rack : IsRackView held reels v
  pub files : All (λ f. HasText (AllTold held reels) (v.text f.rec.stamp) v.dumps f) c.files

-- The view's opened rack is the one with the plan's dump, with this content, added to the completed dumps.
pub record OpensTo (reels : List Reel) (v : View) (plan : Plan) (content : List (List ℕ)) (o : Opened) : Type 0 where
  pub is : v.opened ≡ Some o
  pub dump : o.dump ≡ dump_of plan content
  pub all : o.dumps ≡ all_dumps (with_dump (dump_of plan content) v.shelf) reels
  pub records : All (λ r. KeepsRecord (v.text r.stamp) o.dumps r) (files_in o.directory)

-- The view is correct for an open dump, if all devices expose their contents.
pub record IsOpenView (reels : List Reel) (v : View) (o : OnlineFacts) (dump : Option DumpFacts) : Type 0 where
  pub is : AllTold o.disc.held reels → (pins : List Pin) → o.pins ≡ Some pins
      → IfSome dump (λ d. (content : List (List ℕ)) × (content_in pins ≡ Some content) × (opened : Opened) × OpensTo reels v d.plan content opened)

-- The tree that these records represent, with the text of each stamp as bytes.
abbrev pub tree_by : (ℕ → List ℕ) → List UserRec → List FileRec → ℕ → Tree
tree_by text users files next = tree_of users files (λ r. text r.stamp) next

-- The place of a file's version.
abbrev pub place_of : File → state.Place
place_of f = record { online = f.online; copy = f.rec.tape }

-- The places of the files' versions, by stamp.
abbrev pub places_of : List File → FinMap nat_cmp state.Place
places_of files = from_entries (map (λ f. (f.rec.stamp, place_of f)) files)

-- The names of these users.
abbrev pub names_of : List UserRec → state.Users
names_of users = from_entries (map (λ u. (u.user, tt)) users)

-- The users whose numbers are among these.
abbrev pub users_in : List ℕ → List UserRec → List UserRec
users_in numbers users = filter (λ u. has numbers u.number) users

-- The users whose numbers aren't among these.
abbrev pub users_not_in : List ℕ → List UserRec → List UserRec
users_not_in numbers users = filter (λ u. not (has numbers u.number)) users

-- What the store holds, given the texts, the kept users and the contents of the disc.
abbrev pub holding_of : (ℕ → List ℕ) → List UserRec → Contents → state.Holding
holding_of text kept c = record {
  tree = tree_by text c.users (recs_in c) c.head.next_stamp;
  places = places_of c.files;
  last = c.head.last_dump;
  intent = c.head.intent;
  kept = names_of kept;
}

-- A completed dump, in a state.
abbrev pub shelved_of : Dump → state.Shelved
shelved_of d = record { place = d.place; ends = ends d; number = d.number }

-- A reel, in a state.
abbrev pub row_of : (ℕ → List Dump) → Reel → state.ReelRow
row_of shelf r = record { serial = r.serial; capacity = r.capacity; mounted = r.mounted; used = nat_lt 0 r.len; dumps = map shelved_of (shelf r.serial) }

-- In a dump each non-empty version is on tape.
abbrev pub dumped_place : FileRec → state.Place
dumped_place r = record { online = r.len == 0; copy = r.tape }

-- The places of the versions in a dump, by stamp.
abbrev pub dumped_places : List FileRec → FinMap nat_cmp state.Place
dumped_places files = from_entries (map (λ r. (r.stamp, dumped_place r)) files)

-- The copies that a dump's own records name.
abbrev pub own_of : Dump → FinMap nat_cmp TapeCopy
own_of d = from_entries (flat_map (λ r. state.copy_entry r.stamp r.tape) d.files)

-- The last completed dump, in a state.
abbrev pub dumped_of : {dumps : List Dump} → (ℕ → List ℕ) → DumpedDirectory dumps → state.Dumped
dumped_of text t = record {
  number = t.last.number;
  tree = tree_by text t.last.users (files_in t) t.last.next;
  places = dumped_places (files_in t);
  own = own_of t.last;
}

-- The copies that the open dump's own records will name.
abbrev pub own_opened : Option Opened → FinMap nat_cmp TapeCopy
own_opened None = from_entries []
own_opened (Some o) = own_of o.dump

-- The pinned versions, by stamp, with their numbers of blocks.
abbrev pub waiting_of : Option (List Pin) → FinMap nat_cmp ℕ
waiting_of None = from_entries []
waiting_of (Some pins) = from_entries (map (λ p. (p.stamp, blocks_for p.len)) pins)

-- The tree of the open dump, and the places of its versions; empty if no dump is open.
abbrev pub open_tree : (ℕ → List ℕ) → Option Opened → Tree × FinMap nat_cmp state.Place
open_tree text None = (tree_by text [] [] 0, dumped_places [])
open_tree text (Some o) = (tree_by text o.directory.last.users (files_in o.directory) o.directory.last.next, dumped_places (files_in o.directory))

-- The open dump, in a state.
abbrev pub open_of : View → OnlineFacts → DumpFacts → state.OpenDump
open_of v o d = record {
  number = d.plan.number;
  serial = d.plan.serial;
  place = d.plan.place;
  needs = needs d.plan;
  done = d.done;
  tree = (open_tree v.text v.opened).0;
  places = (open_tree v.text v.opened).1;
  waiting = waiting_of o.pins;
  own = own_opened v.opened;
  touched = names_of (users_in o.touched o.contents.users);
}

-- The state that devices represent while no store is running on them.
abbrev pub state_down : View → List Reel → ℕ → Option Contents → state.State
state_down v reels size c = record {
  up = false;
  size = size;
  holding = option_map (holding_of v.text []) c;
  reels = map (row_of v.shelf) reels;
  dumped = option_map (dumped_of v.text) v.dumped;
  open_dump = None;
}

-- The state that a store represents while it is up.
abbrev pub state_up : View → List Reel → OnlineFacts → Option DumpFacts → state.State
state_up v reels o dump = record {
  up = true;
  size = o.disc.size;
  holding = Some (holding_of v.text (users_not_in o.changed o.contents.users) o.contents);
  reels = map (row_of v.shelf) reels;
  dumped = option_map (dumped_of v.text) v.dumped;
  open_dump = option_map (open_of v o) dump;
}

-- The state that devices represent: `contents` is what the disc holds, or none if it represents nothing.
pub record DevicesStandFor (size : ℕ) (held : Option (List (List ℕ))) (reels : List Reel) (s : state.State) : Type 0 where
  pub view : View
  pub contents : Option Contents
  pub is : IfSome contents (λ c. (blocks : List (List ℕ)) × (held ≡ Some blocks) × Holds blocks c × IsView held reels c view)
  pub none : is_some contents ≡ false → (blocks : List (List ℕ)) (c : Contents) → held ≡ Some blocks → Holds blocks c → ⊥
  pub rack : IsRackView held reels view
  pub state_is : s ≡ state_down view reels size contents

-- The state that a store represents: that of its memory, or, once a write has failed, that of its devices.
abbrev pub StandsForState : StoreFacts → state.State → Type 0
StandsForState s u = elim s.spent as (λ _. Type 0) [
  | true ↦ DevicesStandFor s.online.disc.size s.online.disc.held (told_reels s.rack) u
  | false ↦ (v : View) × IsView s.online.disc.held (told_reels s.rack) s.online.contents v × IsOpenView (told_reels s.rack) v s.online s.dump × (u ≡ state_up v (told_reels s.rack) s.online s.dump)
]
