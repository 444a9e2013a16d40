-- An opening takes the step of an opening: afterwards the store represents the state that the step makes of the previous
-- one.
use Rattle.std.specs.Prelude.{◌≡◌, ℕ, ◌+◌, ◌-◌, List, All, Contains, None, Some, Ok, map}
use Rattle.g_store_model.specs.State.{end_of}
use Rattle.g_store_model.specs.CallStep.{Plain}
use Rattle.g_store_model.specs.DumpSteps.{AreNoted, OpenStep, dump_needs, open_refuses, opening, own_copies, waiting, waiting_blocks}
use Rattle.g_disc_contents.specs.Facts.{Pin}
use Rattle.g_incr.specs.Plan.{Plan, first_content, waiting as waiting_files}
use Rattle.g_shelf.specs.CompletedDumps.{AreShelved}
use Rattle.g_store_meaning.specs.Meaning.{files_in, told_reels}
use Rattle.g_store_meaning.specs.Reading.{Opened, OpensTo, ReelsTold, View, dumped_places, own_of, state_up}
use Rattle.g_store_meaning.specs.StoreInvariant.{ArePinned, IsUp, StoreFacts, content_in}
use Rattle.g_laws_store.specs.Dumping.{AreDumpable, IsPlanOf, PinsText, opened_with}
use Rattle.g_laws_store.specs.Rooms.{held_in}

-- A dump is opened on reels that expose their contents: its plan is that of the store's records, its pins have the texts of
-- the versions that wait, and the view has what the completed dump will leave.
pub record IsOpening (v : View) (s : StoreFacts) (plan : Plan) (pins : List Pin) (content : List (List ℕ)) (opened : Opened) : Type 0 where
  pub none : s.dump ≡ None
  pub told : ReelsTold (told_reels s.rack)
  pub shelved : AreShelved v.shelf (told_reels s.rack)
  pub on : Contains (map (λ r. r.serial) (told_reels s.rack)) plan.serial
  pub dumpable : AreDumpable s.online.changed s.online.contents
  pub planned : IsPlanOf v.shelf s.online.changed s.online.contents plan
  pub pinned : ArePinned plan.serial (first_content plan) (waiting_files plan.files) pins
  pub texts : All (PinsText v.text) pins
  pub up : IsUp v.text v.shelf s
  pub content_is : content_in pins ≡ Some content
  pub opens : OpensTo (told_reels s.rack) v plan content opened

-- The places, the copies and the state after an opening are those of the step of an opening.
pub record OpeningIsStep : Type 0 where
  -- The places of the dumped versions are those of the step: the existing copies, and for each version that waits a place
  -- on the reel, among the blocks of the dump's content.
  pub noted : (v : View) (s : StoreFacts) (plan : Plan) (pins : List Pin) (content : List (List ℕ)) (opened : Opened) → IsOpening v s plan pins content opened
      → (let k = held_in v s.online in
      let ends = end_of (state_up v (told_reels s.rack) s.online s.dump) plan.serial + dump_needs k - 1 in
      AreNoted plan.serial (ends - waiting_blocks (waiting k)) ends k (dumped_places (files_in opened.directory)))
  -- the copies that its own records name are those of the files of changed users
  pub own : (v : View) (s : StoreFacts) (plan : Plan) (pins : List Pin) (content : List (List ℕ)) (opened : Opened) → IsOpening v s plan pins content opened
      → own_of opened.dump ≡ own_copies (held_in v s.online) (dumped_places (files_in opened.directory))
  -- and the state as a whole is that of the step
  pub state : (v : View) (s : StoreFacts) (plan : Plan) (pins : List Pin) (content : List (List ℕ)) (opened : Opened) → IsOpening v s plan pins content opened
      → (let new = opened_with plan pins s in
      state_up v (told_reels new.rack) new.online new.dump
      ≡ opening (state_up v (told_reels s.rack) s.online s.dump) (held_in v s.online) plan.serial (dumped_places (files_in opened.directory)))
  pub step : (v : View) (s : StoreFacts) (plan : Plan) (pins : List Pin) (content : List (List ℕ)) (opened : Opened) → IsOpening v s plan pins content opened
      → (let old = state_up v (told_reels s.rack) s.online s.dump in
      let new = opened_with plan pins s in
      open_refuses old (held_in v s.online) plan.serial Plain ≡ None
      → OpenStep old (held_in v s.online) plan.serial Plain (Ok (s.online.contents.head.last_dump + 1)) (state_up v (told_reels new.rack) new.online new.dump))
