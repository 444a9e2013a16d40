-- For any store that the devices belong to: it preserves its invariant, its devices still expose their contents if they
-- did, and disc and rack still belong together. While they belong together no copy is lost.
use Rattle.std.specs.Prelude.{◌≡◌, ℕ, false, not}
use Rattle.g_name.specs.declared.full.Full.{Full}
use Rattle.g_entry.specs.declared.file_rec.TapeCopy.{TapeCopy}
use Rattle.g_tape.specs.Rack.{Rack}
use Rattle.g_tree.specs.Records.{full_of}
use Rattle.g_disc_contents.specs.Contents.{File}
use Rattle.g_disc_contents.specs.Facts.{OnlineFacts}
use Rattle.g_store_meaning.specs.Answers.{Belongs, IsLostCopy, IsStore, Told}
use Rattle.g_store_meaning.specs.StoreInvariant.{StoreFacts}
use Rattle.g_retrieve.specs.Retrieval.{IsNowhere}

-- The store with this filestore and this rack in place of its own. It is spent once a write has failed.
abbrev pub with_devices : OnlineFacts → Rack → StoreFacts → StoreFacts
with_devices o rack s = record s { online = o; rack = rack; spent = not o.live }

-- A store on these devices that isn't spent.
pub record IsOver (o : OnlineFacts) (rack : Rack) (s : StoreFacts) : Type 0 where
  pub online_is : s.online ≡ o
  pub rack_is : s.rack ≡ rack
  pub unspent : s.spent ≡ false

-- A store on these devices satisfies its invariant afterwards if it did before, its devices still expose their contents,
-- and they still belong together.
pub record KeepsDevices (old new : OnlineFacts) (before after : Rack) : Type 0 where
  pub store : (s : StoreFacts) → IsOver old before s → IsStore s → IsStore (with_devices new after s)
  pub told : (s : StoreFacts) → IsOver old before s → Told s → Told (with_devices new after s)
  pub belongs : (s : StoreFacts) → IsOver old before s → IsStore s → Told s → Belongs s → Belongs (with_devices new after s)

-- The copy of this file is lost, under the file's name and as a store reports it. This never happens if disc and rack
-- belong together.
pub record HasLostCopy (f : File) (c : TapeCopy) (name : Full) (serial : ℕ) (o : OnlineFacts) (rack : Rack) : Type 0 where
  pub name_is : name ≡ full_of o.contents.users f.rec
  pub serial_is : serial ≡ c.serial
  pub nowhere : IsNowhere c f.rec.len rack
  pub copy : (s : StoreFacts) → IsOver o rack s → IsLostCopy s name serial
  pub never : (s : StoreFacts) → IsOver o rack s → Told s → Belongs s → ⊥
