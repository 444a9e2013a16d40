-- The state that both devices represent.
use Rattle.std.specs.Prelude.{◌≡◌, ℕ, false, List, [], map, Option, Some, None}
use Rattle.std.specs.Option.{option_map}
use Rattle.g_disc_contents.specs.Contents.{Contents, Holds}
use Rattle.g_incr.specs.Layout.{Dump}
use Rattle.g_shelf.specs.CompletedDumps.{AreShelved, all_dumps}
use Rattle.g_tape.specs.Reel.{Reel}
use Rattle.g_store_model.specs.State.{State}
use Rattle.g_store_meaning.specs.Meaning.{DumpedDirectory, told_reels}
use Rattle.g_store_meaning.specs.Belonging.{Belong, DiscBelongs, RackBelongs}
use Rattle.g_store_meaning.specs.Reading.{AllTold, DevicesStandFor, dumped_of, holding_of, row_of}
pub use Rattle.g_any_run.specs.Devices.{Devices}

-- The disc holds these contents, which belong to the reels; or it holds no filestore.
abbrev pub HoldsThis : Option (List (List ℕ)) → (ℕ → List ℕ) → (ℕ → List Dump) → List Reel → Option Contents → Type 0
HoldsThis held text shelf reels (Some c) = (blocks : List (List ℕ)) × (held ≡ Some blocks) × Holds blocks c × DiscBelongs text shelf reels c
HoldsThis held text shelf reels None = (blocks : List (List ℕ)) (c : Contents) → held ≡ Some blocks → Holds blocks c → ⊥

-- The devices represent a state, which is down: they expose their contents, disc and rack belong together, and the state is
-- theirs.
pub record StandFor (d : Devices) (s : State) : Type 0 where
  pub told : AllTold d.disc.held (told_reels d.rack)
  -- the bytes of every version that disc or tape names, by stamp, and the completed dumps of each reel, by serial
  pub text : ℕ → List ℕ
  pub shelf : ℕ → List Dump
  pub shelved : AreShelved shelf (told_reels d.rack)
  pub rack : RackBelongs text (all_dumps shelf (told_reels d.rack))
  -- what the disc holds, if anything
  pub contents : Option Contents
  pub disc : HoldsThis d.disc.held text shelf (told_reels d.rack) contents
  -- the directory of the completed dumps, unless there is none
  pub dumped : Option (DumpedDirectory (all_dumps shelf (told_reels d.rack)))
  pub undumped : dumped ≡ None → all_dumps shelf (told_reels d.rack) ≡ []
  pub is : s ≡ record {
    up = false;
    size = d.disc.size;
    holding = option_map (holding_of text []) contents;
    reels = map (row_of shelf) (told_reels d.rack);
    dumped = option_map (dumped_of text) dumped;
    open_dump = None;
  }

-- The same in two parts, as the crates below have them: the devices belong together, and the state is what they are read as
-- (`StandingIsReading` of `g_laws_runs`).
pub record AreReadAs (d : Devices) (s : State) : Type 0 where
  pub told : AllTold d.disc.held (told_reels d.rack)
  pub belong : Belong d.disc.held d.rack
  pub reads : DevicesStandFor d.disc.size d.disc.held (told_reels d.rack) s
