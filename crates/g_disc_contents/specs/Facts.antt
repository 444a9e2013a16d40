-- A filestore that is online: the disc, what it holds, and what is in memory.
use Rattle.std.specs.Prelude.{◌≡◌, ℕ, ◌-◌, ◌<◌, ◌≤◌, ◌==◌, Bool, true, List, [], map, sum_by, length, All, Option, Some, None, IfSome, is_some, if◌then◌else◌}
use Rattle.std.specs.Option.{ForSome}
use Rattle.std.specs.List.{list_any}
use Rattle.std.specs.List.Sorted.{IsStrictlyIncreasing}
use Rattle.g_base.specs.Block.{IsBlock, blocks_for}
use Rattle.g_disc.specs.Disc.{DiscState}
use Rattle.g_entry.specs.declared.file_rec.TapeCopy.{TapeCopy}
use Rattle.g_slots.specs.declared.side.Side.{Side}
use Rattle.g_slots.specs.Layout.{GateNames}
use Rattle.g_dirs.specs.Directory.{AreRecords, Directory, IsDirectory}
use Rattle.g_dirs.specs.Image.{StandsFor}
use Rattle.g_dirs.specs.Pages.{Remembered, Remembers}
use Rattle.g_entry.specs.declared.format.Format.TheVariants.{Two}
use Rattle.g_disc_contents.specs.Contents.{File, Contents, contents_of, has}

-- A version that waits to be dumped: the copy that the dump will have of it, and its blocks on the disc, if the disc
-- exposes them. The blocks stay unchanged until the dump ends, whatever happens to the file.
pub record Pin : Type 0 where
  pub stamp : ℕ
  pub len : ℕ
  pub copy : TapeCopy
  pub blocks : Option (List (List ℕ))

-- How the contents are stored on the disc, and which slot blocks are cached. The layers above pass it on without using its
-- parts.
pub record Layout : Type 0 where
  pub directory : Directory
  pub side : Side
  pub pages : Remembered

-- An online filestore: the disc, whether memory still agrees with it, its contents, an open dump's pins, and the changed and touched users.
pub record OnlineFacts : Type 0 where
  pub disc : DiscState
  -- until a write fails
  pub live : Bool
  pub contents : Contents
  -- the versions of an open dump, in the order of their records
  pub pins : Option (List Pin)
  -- increasing numbers of the users whose directory may differ from that in the completed dumps
  pub changed : List ℕ
  -- the same for those whose directory was changed or created since the versions were pinned
  pub touched : List ℕ
  pub layout : Layout

-- The numbers of users are strictly increasing, and less than the number of users.
pub record AreNumbers (users : ℕ) (numbers : List ℕ) : Type 0 where
  pub rising : IsStrictlyIncreasing numbers
  pub there : All (λ n. n < users) numbers

-- A non-empty version without a copy on tape belongs to one of these users.
abbrev pub WaitsByUser : List ℕ → File → Type 0
WaitsByUser changed f = 0 < f.rec.len → f.rec.tape ≡ None → has changed f.rec.owner ≡ true

-- A pinned version is older than the next one and not empty. Its blocks are exposed if the disc's are. A file with its stamp, if there is
-- one, has its length.
pub record IsPinOf (told : Bool) (next : ℕ) (files : List File) (p : Pin) : Type 0 where
  pub older : p.stamp < next
  pub filled : 0 < p.len
  pub tells : is_some p.blocks ≡ told
  pub blocks : ForSome p.blocks (λ blocks. (length blocks ≡ blocks_for p.len) × All IsBlock blocks)
  pub current : All (λ f. f.rec.stamp ≡ p.stamp → f.rec.len ≡ p.len) files

-- Memory and disc agree, until a write fails.
pub record IsTied (o : OnlineFacts) : Type 0 where
  pub size : 2177 < o.disc.size
  pub most : o.disc.size ≤ 1_048_576
  pub contents : o.live ≡ true → o.contents ≡ contents_of o.disc.held o.layout.directory
  pub rules : o.live ≡ true → IsDirectory o.disc.size o.layout.directory
  pub records : o.live ≡ true → AreRecords Two o.layout.directory
  pub stands : o.live ≡ true → ForSome o.disc.held (λ blocks. StandsFor blocks o.layout.directory)
  pub pages : o.live ≡ true → ForSome o.disc.held (Remembers o.layout.pages)
  -- lists of user numbers; a touched user is changed; a version without a copy belongs to a changed user
  pub changed_are : o.live ≡ true → AreNumbers (length o.contents.users) o.changed
  pub touched_are : o.live ≡ true → AreNumbers (length o.contents.users) o.touched
  pub touched_changed : o.live ≡ true → All (λ n. has o.changed n ≡ true) o.touched
  pub waits : o.live ≡ true → All (WaitsByUser o.changed) o.contents.files
  pub pinned : o.live ≡ true → IfSome o.pins (All (IsPinOf (is_some o.disc.held) o.contents.head.next_stamp o.contents.files))
  -- the gate names the slot of the directory, and the disc has whole blocks, as many as it says
  pub gate : o.live ≡ true → GateNames o.layout.side o.disc.held
  pub whole : ForSome o.disc.held (λ blocks. (length blocks ≡ o.disc.size) × All IsBlock blocks)

-- The number of blocks of the files on the disc.
abbrev pub online_blocks : List File → ℕ
online_blocks files = sum_by (λ f. if f.online then blocks_for f.rec.len else 0) files

-- A file has this stamp.
abbrev pub is_current : List File → ℕ → Bool
is_current files stamp = list_any (λ f. f.rec.stamp == stamp) files

-- The number of blocks of the pinned versions that no longer belong to a file.
abbrev pub pinned_blocks : Option (List Pin) → List File → ℕ
pinned_blocks None files = 0
pinned_blocks (Some pins) files = sum_by (λ p. if is_current files p.stamp then 0 else blocks_for p.len) pins

-- The room on the disc if these were its files: the copy blocks, minus those of the files on the disc, minus those of
-- pinned versions that no longer belong to a file.
abbrev pub room_with : List File → OnlineFacts → ℕ
room_with files o = o.disc.size - 2177 - online_blocks files - pinned_blocks o.pins files

-- The number of free blocks on the disc.
abbrev pub room_of : OnlineFacts → ℕ
room_of o = room_with o.contents.files o

-- The copies that the dump has for the pinned versions, by stamp.
abbrev pub noted : Option (List Pin) → List (ℕ × TapeCopy)
noted None = []
noted (Some pins) = map (λ p. (p.stamp, p.copy)) pins
