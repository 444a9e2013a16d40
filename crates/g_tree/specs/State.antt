-- A tree in memory as contracts see it, and how its records change.
use Rattle.std.specs.Prelude.{◌≡◌, ℕ, ◌==◌, Bool, ◌&&◌, nat_lt, is_some, List, [], ◌∷◌, map, length, sum_by, slice_index_or, codes, Option, Some, None, if◌then◌else◌}
use Rattle.std.specs.Ordering.{eq_by_cmp}
use Rattle.std.specs.FinMap.{FinMap, get, insert, remove, from_entries}
use Rattle.g_base.specs.Block.{blocks_for}
use Rattle.g_name.specs.declared.full.Full.{Full}
use Rattle.g_name.specs.Order.{full_cmp}
use Rattle.g_entry.specs.declared.user_rec.UserRec.{UserRec}
use Rattle.g_entry.specs.declared.file_rec.FileRec.{FileRec}
use Rattle.g_table.specs.Files.{with_rec, without_rec}
use Rattle.g_plain.specs.PlainTree.{FileRow, is_version_of}
use Rattle.g_tree.specs.Records.{IsRecords, full_of, by_number}
use Rattle.g_tree.specs.Answers.{newest_of}
use Rattle.g_tree.specs.declared.index.NameEntry.{NameEntry}

-- The users and the files, each in order of number, and how many more of either can be added without allocating.
pub record TreeState : Type 0 where
  pub users : List UserRec
  pub files : List FileRec
  pub spare : ℕ

-- The number of files for which a box is reserved.
abbrev pub room_of : Option FileRec → ℕ
room_of room = elim room [ Some file ↦ 1 | None ↦ 0 ]

-- What the index has for each full name, and how many more names can be added without allocating.
pub record IndexState : Type 0 where
  pub entries : FinMap full_cmp NameEntry
  pub spare : ℕ

-- The name under which all versions of a file are found: that of generation 1.
abbrev pub versions_of : Full → Full
versions_of full = record full { generation = 1 }

-- The number of the file with a full name.
abbrev pub number_at : Option NameEntry → Option ℕ
number_at entry = elim entry [ Some e ↦ e.number | None ↦ None ]

-- The number of the file with this full name, according to the index.
abbrev pub number_in : FinMap full_cmp NameEntry → Full → Option ℕ
number_in entries full = number_at (get entries full)

-- The greatest generation of a file's versions, or 0. The index has it under the name of generation 1.
abbrev pub newest_at : Option NameEntry → ℕ
newest_at entry = elim entry [ Some e ↦ e.newest | None ↦ 0 ]

-- The greatest generation of the versions of this file, according to the index, or 0.
abbrev pub newest_in : FinMap full_cmp NameEntry → Full → ℕ
newest_in entries full = newest_at (get entries (versions_of full))

-- The generation if it is greater than 1, otherwise 0.
abbrev pub later : ℕ → ℕ
later generation = if nat_lt 1 generation then generation else 0

-- The number of the newest version. The index has it under the name of generation 1, too.
abbrev pub top_at : Option NameEntry → Option ℕ
top_at entry = elim entry [ Some e ↦ e.top | None ↦ None ]

-- The number of the newest version of this file, according to the index.
abbrev pub top_in : FinMap full_cmp NameEntry → Full → Option ℕ
top_in entries full = top_at (get entries (versions_of full))

-- The number of the newest version after generation 1 was removed.
abbrev pub later_top : ℕ → Option ℕ → Option ℕ
later_top newest top = if nat_lt 1 newest then top else None

-- The number of the newest version after a version with this generation and number was added.
abbrev pub risen : ℕ → Option ℕ → ℕ → ℕ → Option ℕ
risen newest top generation number = if nat_lt generation newest then top else Some number

-- The entry after a version with this generation and number was added.
abbrev pub lifted : NameEntry → ℕ → ℕ → NameEntry
lifted entry generation number = if nat_lt generation entry.newest then entry else record entry { newest = generation; top = Some number }

-- The index after a version with this generation and number was added, given the entry of the name; unchanged if there is none.
abbrev pub raised_at : FinMap full_cmp NameEntry → Full → ℕ → ℕ → Option NameEntry → FinMap full_cmp NameEntry
raised_at entries full generation number entry = elim entry [ Some e ↦ insert entries full (lifted e generation number) | None ↦ entries ]

-- The index after a version with this generation and number was added under an existing name.
abbrev pub raised : FinMap full_cmp NameEntry → Full → ℕ → ℕ → FinMap full_cmp NameEntry
raised entries full generation number = raised_at entries full generation number (get entries full)

-- The index after the newest version was set to this one, if the index has the name.
abbrev pub settled_at : FinMap full_cmp NameEntry → Full → ℕ → Option ℕ → Option NameEntry → FinMap full_cmp NameEntry
settled_at entries full generation number entry = elim entry [ Some e ↦ insert entries full (record e { newest = generation; top = number }) | None ↦ entries ]

-- The index after the newest version under an existing name was set.
abbrev pub settled : FinMap full_cmp NameEntry → Full → ℕ → Option ℕ → FinMap full_cmp NameEntry
settled entries full generation number = settled_at entries full generation number (get entries full)

-- The index after a generation 1 was removed: it keeps the name, without a number, if the entry's newest generation is
-- at least 2.
abbrev pub closed_at : FinMap full_cmp NameEntry → Full → Option NameEntry → FinMap full_cmp NameEntry
closed_at entries full entry = elim entry [ Some e ↦ if nat_lt e.newest 2 then remove entries full else insert entries full (record e { number = None }) | None ↦ entries ]

-- The index after generation 1 of this name was removed.
abbrev pub closed : FinMap full_cmp NameEntry → Full → FinMap full_cmp NameEntry
closed entries full = closed_at entries full (get entries full)

-- The entry has exactly the generations 1 and 2.
abbrev pub is_first_of_two : NameEntry → Bool
is_first_of_two entry = (entry.newest == 2) && is_some entry.number

-- The index after generation 2 was removed, given the entry of the name; unchanged unless there are exactly two.
abbrev pub fallen_at : FinMap full_cmp NameEntry → Full → Option NameEntry → FinMap full_cmp NameEntry
fallen_at entries full entry = elim entry [ Some e ↦ if is_first_of_two e then insert entries full (record e { newest = 1; top = e.number }) else entries | None ↦ entries ]

-- The index after generation 2 of this name was removed.
abbrev pub fallen : FinMap full_cmp NameEntry → Full → FinMap full_cmp NameEntry
fallen entries full = fallen_at entries full (get entries full)

-- Every full name has the same number as before.
abbrev pub HasNumbers : FinMap full_cmp NameEntry → FinMap full_cmp NameEntry → Type 0
HasNumbers old new = (other : Full) → number_in new other ≡ number_in old other

-- This full name has this number, or none; all others have the same as before.
abbrev pub HasNumber : FinMap full_cmp NameEntry → FinMap full_cmp NameEntry → Full → Option ℕ → Type 0
HasNumber old new full number = (other : Full) → number_in new other ≡ (if eq_by_cmp full_cmp other full then number else number_in old other)

-- The greatest generation of this file's versions is this one; all others are the same as before.
abbrev pub HasNewest : FinMap full_cmp NameEntry → FinMap full_cmp NameEntry → Full → ℕ → Type 0
HasNewest old new full newest = (other : Full) → newest_in new other ≡ (if is_version_of other full then newest else newest_in old other)

-- The number of the newest of this file's versions is this one; all others are the same as before.
abbrev pub HasTop : FinMap full_cmp NameEntry → FinMap full_cmp NameEntry → Full → Option ℕ → Type 0
HasTop old new full top = (other : Full) → top_in new other ≡ (if is_version_of other full then top else top_in old other)

-- The number of the newest version is that of its full name.
abbrev pub IsTopped : FinMap full_cmp NameEntry → Type 0
IsTopped entries = (full : Full) → top_in entries full ≡ number_in entries (record full { generation = newest_in entries full })

-- The number of blocks of an owner's files.
abbrev pub used_of : List FileRec → ℕ → ℕ
used_of files owner = sum_by (λ r. if r.owner == owner then blocks_for r.len else 0) files

-- The index has exactly the numbers of these files.
abbrev pub AreIndexed : List UserRec → List FileRec → FinMap full_cmp NameEntry → Type 0
AreIndexed users files entries = (full : Full) → number_in entries full ≡ get (from_entries {R = full_cmp} (map (λ r. (full_of users r, r.number)) files)) full

-- The index has the greatest generations of these files.
abbrev pub AreNewest : List UserRec → List FileRec → FinMap full_cmp NameEntry → Type 0
AreNewest users files entries = (full : Full) → newest_in entries full ≡ newest_of users full files

-- The list has the number of blocks of each owner's files.
pub record AreUsed (files : List FileRec) (blocks : List ℕ) : Type 0 where
  pub places : length blocks ≡ 63
  pub each : (owner : ℕ) → slice_index_or blocks owner 0 ≡ used_of files owner

-- The invariant of the records and of what is derived from them.
pub record IsKept (users : List UserRec) (files : List FileRec) (entries : FinMap full_cmp NameEntry) (blocks : List ℕ) : Type 0 where
  pub records : IsRecords users files
  pub index : AreIndexed users files entries
  pub newest : AreNewest users files entries
  pub topped : IsTopped entries
  pub used : AreUsed files blocks

-- The users of a new filestore.
abbrev pub first_user : ℕ → List ℕ → UserRec
first_user number name = record { number = number; user = name; superior = 0; space = 65535; time = 1000000; money = 1000000 }

-- MASTER and MACROS, the first two users.
abbrev pub first_users : List UserRec
first_users = first_user 0 (codes "MASTER") ∷ first_user 1 (codes "MACROS") ∷ []

-- The files, in order of number, after a file was added or replaced the one with its number.
abbrev pub with_file : FileRec → List FileRec → List FileRec
with_file r files = with_rec r files

-- The files without the one with this number.
abbrev pub without_file : ℕ → List FileRec → List FileRec
without_file number files = without_rec number files

-- The rows of files without that of the file with this number.
abbrev pub without_number : List UserRec → List FileRec → ℕ → FinMap full_cmp FileRow → FinMap full_cmp FileRow
without_number users files number rows = elim (get (by_number files) number) [ Some r ↦ remove rows (full_of users r) | None ↦ rows ]
