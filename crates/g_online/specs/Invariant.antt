-- What an online filestore has in memory, and the invariant that relates it to the disc.
use Rattle.std.specs.Prelude.{◌≡◌, ◌≢◌, ◌⊎◌, ℕ, ◌<◌, ◌≤◌, ◌==◌, Bool, true, false, List, [], ◌++◌, map, length, filter, not, All, AllPairs, Option, Some, None, option_map, slice_index_or}
use Rattle.std.specs.Option.{ForSome}
use Rattle.std.specs.List.{flat_map, list_any}
use Rattle.g_base.specs.Block.{IsBlock, blocks_for}
use Rattle.g_blocks.specs.Pool.{HasGiven, IsFresh, IsInArea}
use Rattle.g_copy.specs.declared.copy.DiscCopy.{DiscCopy}
use Rattle.g_disc.specs.Disc.{DiscState}
use Rattle.g_entry.specs.declared.file_rec.FileRec.{FileRec}
use Rattle.g_entry.specs.declared.format.Format.TheVariants.{Two}
use Rattle.g_entry.specs.declared.head.Head.{Head}
use Rattle.g_entry.specs.declared.user_rec.UserRec.{UserRec}
use Rattle.g_slots.specs.declared.side.Side.{Side}
use Rattle.g_slots.specs.Layout.{GateNames}
use Rattle.g_dirs.specs.Directory.{AreCopies, AreRecords, Directory, FileEntry, IsDirectory, all_places, directory_of, places_of}
use Rattle.g_dirs.specs.Durable.{AreRememberedSyncable}
use Rattle.g_dirs.specs.Image.{StandsFor}
use Rattle.g_dirs.specs.Pages.{Covers, Remembered, Remembers}
use Rattle.g_disc_contents.specs.Contents.{contents_of, has}
use Rattle.g_disc_contents.specs.Facts.{AreNumbers, OnlineFacts, Pin}
use Rattle.g_online.specs.declared.pinned.Pinned.{Pinned}

-- Everything that is in memory.
pub record Memory : Type 0 where
  pub side : Side
  pub pages : Remembered
  pub pool : List Bool
  pub users : List UserRec
  pub files : List FileRec
  pub head : Head
  pub online : List (ℕ × DiscCopy)
  pub pins : Option (List Pinned)
  pub changed : List ℕ
  pub touched : List ℕ
  pub live : Bool

-- The directory that is in memory.
abbrev pub directory_in : Memory → Directory
directory_in m = directory_of m.head m.users m.files m.online

-- A pinned version as contracts see it: with the contents of its blocks, if the disc exposes them.
abbrev pub pin_of : Option (List (List ℕ)) → Pinned → Pin
pin_of held p = record {
  stamp = p.stamp;
  len = p.len;
  copy = p.copy;
  blocks = option_map (λ blocks. map (λ k. slice_index_or blocks k []) p.blocks) held;
}

-- The pinned versions as contracts see them, if there are any.
abbrev pub pins_of : Option (List (List ℕ)) → Option (List Pinned) → Option (List Pin)
pins_of held pins = option_map (map (pin_of held)) pins

-- The facts of an online filestore that contracts see.
abbrev pub facts_of : DiscState → Memory → OnlineFacts
facts_of disc m = record {
  disc = disc;
  live = m.live;
  contents = contents_of disc.held (directory_in m);
  pins = pins_of disc.held m.pins;
  changed = m.changed;
  touched = m.touched;
  layout = record { directory = directory_in m; side = m.side; pages = m.pages };
}

-- The disc represents the directory, each remembered block is right, and each block that may differ is marked.
pub record IsStored (disc : DiscState) (side : Side) (pages : Remembered) (d : Directory) : Type 0 where
  pub gate : GateNames side disc.held
  pub remembers : ForSome disc.held (Remembers pages)
  pub covers : (s : Side) → Covers d s pages
  pub stands : ForSome disc.held (λ blocks. StandsFor blocks d)
  pub records : AreRecords Two d
  pub rules : IsDirectory disc.size d

-- Whether some file has the version of this stamp.
abbrev pub is_current : List FileEntry → ℕ → Bool
is_current files stamp = list_any (λ f. f.0.stamp == stamp) files

-- The blocks of pinned versions that no file has any more.
abbrev pub orphans : Option (List Pinned) → List FileEntry → List ℕ
orphans None files = []
orphans (Some pins) files = flat_map (λ p. p.blocks) (filter (λ p. not (is_current files p.stamp)) pins)

-- The blocks in use: those of files, and those of pinned versions that no file has any more.
abbrev pub used_places : Option (List Pinned) → List FileEntry → List ℕ
used_places pins files = all_places files ++ orphans pins files

-- Exactly the blocks of files and of pinned versions are taken in the pool, and no block belongs to two of them.
pub record IsPooled (size : ℕ) (pins : Option (List Pinned)) (files : List FileEntry) (pool : List Bool) : Type 0 where
  pub fresh : IsFresh size (used_places pins files) pool
  pub area : All (IsInArea size) (used_places pins files)
  pub apart : AllPairs (λ j k. j ≢ k) (used_places pins files)

-- A file with the stamp of a pinned version has that version's number, length and blocks, and no copy on tape.
abbrev pub IsFileOf : Pinned → FileEntry → Type 0
IsFileOf p f = f.0.stamp ≡ p.stamp → (f.0.len ≡ p.len) × (f.0.tape ≡ None) × (places_of f ≡ p.blocks) × (f.0.number ≡ p.number)

-- A pinned version is older than the next stamp, isn't empty, and has its blocks in the copy area.
pub record IsPinned (size next : ℕ) (files : List FileEntry) (p : Pinned) : Type 0 where
  pub older : p.stamp < next
  pub filled : 0 < p.len
  pub count : length p.blocks ≡ blocks_for p.len
  pub area : All (IsInArea size) p.blocks
  pub current : All (IsFileOf p) files

-- Whether one of these versions has this stamp.
abbrev pub has_stamp : List Pinned → ℕ → Bool
has_stamp pins stamp = list_any (λ p. p.stamp == stamp) pins

-- Whether the version of this stamp is pinned.
abbrev pub is_pinned : Option (List Pinned) → ℕ → Bool
is_pinned None stamp = false
is_pinned (Some pins) stamp = has_stamp pins stamp

-- The blocks of a copy, or none.
abbrev pub copy_places : Option DiscCopy → List ℕ
copy_places None = []
copy_places (Some copy) = copy.blocks

-- The blocks are returned to the pool, unless they must stay.
abbrev pub GivesUnless : Bool → List ℕ → List Bool → List Bool → Type 0
GivesUnless true places old new = new ≡ old
GivesUnless false places old new = HasGiven places old new

-- A version without a copy on tape is pinned, or belongs to a user whose directory was touched since the dump began.
abbrev pub WaitsPinned : List Pinned → List ℕ → FileEntry → Type 0
WaitsPinned pins touched f = 0 < f.0.len → f.0.tape ≡ None → (has_stamp pins f.0.stamp ≡ true) ⊎ (has touched f.0.owner ≡ true)

-- The pinned versions satisfy their rules, no two have the same stamp, and each version without a copy on tape is among
-- them or belongs to a touched user.
pub record ArePinned (size next : ℕ) (files : List FileEntry) (touched : List ℕ) (pins : List Pinned) : Type 0 where
  pub each : All (IsPinned size next files) pins
  pub apart : AllPairs (λ p q. p.stamp ≢ q.stamp) pins
  pub waits : All (WaitsPinned pins touched) files

-- The owner of a version without a copy on tape is one of these users.
abbrev pub WaitsFor : List ℕ → FileRec → Type 0
WaitsFor changed r = 0 < r.len → r.tape ≡ None → has changed r.owner ≡ true

-- The lists of changed and touched users: both rise, each touched user is changed, and the owner of every version without a
-- copy on tape is changed.
pub record AreNoted (users : ℕ) (files : List FileEntry) (changed touched : List ℕ) : Type 0 where
  pub changed_are : AreNumbers users changed
  pub touched_are : AreNumbers users touched
  pub touched_changed : All (λ n. has changed n ≡ true) touched
  pub waits : All (λ f. WaitsFor changed f.0) files

-- The pins satisfy their rules. Without pins no user is touched.
abbrev pub PinsAre : Option (List Pinned) → ℕ → ℕ → List FileEntry → List ℕ → Type 0
PinsAre None size next files touched = touched ≡ []
PinsAre (Some pins) size next files touched = ArePinned size next files touched pins

-- Memory and disc agree.
pub record IsAgreed (disc : DiscState) (m : Memory) : Type 0 where
  pub stored : IsStored disc m.side m.pages (directory_in m)
  pub copies : AreCopies m.files m.online
  pub pool : IsPooled disc.size m.pins (directory_in m).files m.pool
  pub noted : AreNoted (length m.users) (directory_in m).files m.changed m.touched
  pub pins : PinsAre m.pins disc.size m.head.next_stamp (directory_in m).files m.touched
  pub remembered : AreRememberedSyncable m.pages disc

-- A disc of this size has that many blocks, each of 512 bytes.
abbrev pub AreWhole : ℕ → List (List ℕ) → Type 0
AreWhole size blocks = (length blocks ≡ size) × All IsBlock blocks

-- The head of the next commit: without an intent, unless versions are pinned.
abbrev pub head_after : Bool → Head → Head
head_after true h = h
head_after false h = record h { intent = None }

-- If all changes of a directory were marked, they are still marked after its head became another.
abbrev pub CoversHead : Head → Head → Remembered → Remembered → Type 0
CoversHead before after old new = (side : Side) (d e : Directory) → Covers d side old → d.head ≡ before → e.head ≡ after → e.users ≡ d.users → e.files ≡ d.files → Covers e side new

-- The invariant of an online filestore. Memory and disc agree until a write fails.
pub record IsKept (disc : DiscState) (m : Memory) : Type 0 where
  pub size : 2177 < disc.size
  pub most : disc.size ≤ 1_048_576
  pub whole : ForSome disc.held (AreWhole disc.size)
  pub agreed : m.live ≡ true → IsAgreed disc m
