-- The parts of a slot: its head, its users and its files.
use Rattle.std.specs.Prelude.{◌≡◌, ℕ, ◌+◌, ◌<◌, ◌≤◌, List, length, All, Some, slice_get, IfSome, option_map}
use Rattle.g_entry.specs.declared.format.Format.{Format}
use Rattle.g_entry.specs.declared.head.Head.{Head}
use Rattle.g_entry.specs.declared.user_rec.UserRec.{UserRec}
use Rattle.g_entry.specs.FileFields.{ArePlaces, IsFile}
use Rattle.g_entry.specs.HeadFields.{IsHead, head_block}
use Rattle.g_entry.specs.Rules.{AreNumbered}
use Rattle.g_entry.specs.UserFields.{IsUser}
use Rattle.g_dirs.specs.Directory.{FileEntry, recs}
use Rattle.g_dirs.specs.Image.{entry_at, file_or_empty, user_or_empty}

-- the first block is this head's
pub record HoldsHead (format : Format) (head : Head) (blocks : List (List ℕ)) : Type 0 where
  pub limits : IsHead head
  pub block : slice_get blocks 0 ≡ Some (head_block format head)

-- users numbered by their places, each of whom can be encoded
pub record AreInOrder (format : Format) (users : List UserRec) : Type 0 where
  pub few : length users ≤ 63
  pub numbered : (i : ℕ) (u : UserRec) → slice_get users i ≡ Some u → u.number ≡ i
  pub limits : All (IsUser format) users

-- the next 63 blocks are these users'
pub record HoldsUsers (format : Format) (users : List UserRec) (blocks : List (List ℕ)) : Type 0 where
  pub are : AreInOrder format users
  pub block : (k : ℕ) → k < 63 → slice_get blocks (1 + k) ≡ Some (user_or_empty format (slice_get users k))

-- a file that can be encoded
pub record IsEntry (format : Format) (f : FileEntry) : Type 0 where
  pub file : IsFile f.0
  pub places : IfSome (option_map (λ c. c.blocks) f.1) (ArePlaces format f.0.len)
  pub len : IfSome f.1 (λ c. c.len ≡ f.0.len)

-- the next 1,024 blocks are these files'
pub record HoldsFiles (format : Format) (files : List FileEntry) (blocks : List (List ℕ)) : Type 0 where
  pub numbered : AreNumbered (recs files)
  pub entries : All (IsEntry format) files
  pub block : (k : ℕ) → k < 1024 → slice_get blocks (64 + k) ≡ Some (file_or_empty format (entry_at files k))
