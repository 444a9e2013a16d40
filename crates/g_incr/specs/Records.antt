-- The records of a dump in the blocks between its header and its content, and the rules that they satisfy together.
use Rattle.std.specs.Prelude.{◌≡◌, ◌≢◌, ℕ, ◌+◌, ◌<◌, ◌≤◌, true, List, filter, length, map, take, drop, All, AllPairs, Some, is_some, slice_get}
use Rattle.std.specs.List.Sorted.{IsStrictlyIncreasing}
use Rattle.g_entry.specs.declared.format.Format.{Format}
use Rattle.g_entry.specs.declared.file_rec.FileRec.{FileRec}
use Rattle.g_entry.specs.declared.user_rec.UserRec.{UserRec}
use Rattle.g_entry.specs.FileFields.{IsFile, file_block}
use Rattle.g_entry.specs.Rules.{AreFiles, AreUsers, StampsBelow}
use Rattle.g_entry.specs.UserFields.{IsUser, held_byte, user_block}
use Rattle.g_incr.specs.declared.note.DumpNote.{DumpNote}
use Rattle.g_incr.specs.declared.note.Header.{Header}
use Rattle.g_incr.specs.Layout.{FollowOn, holds, is_between, numbers_in}

-- The blocks are those of these users, whose numbers are their positions. The held users are marked in them.
pub record AreUsersIn (format : Format) (users : List UserRec) (held : List ℕ) (blocks : List (List ℕ)) : Type 0 where
  pub blocks_are : blocks ≡ map (λ u. user_block format (held_byte (holds held u.number)) u) users
  pub numbered : (i : ℕ) (u : UserRec) → slice_get users i ≡ Some u → u.number ≡ i
  pub each : All (IsUser format) users
  pub rising : IsStrictlyIncreasing held
  pub held_users : All (λ n. n < length users) held

-- The blocks are those of these files, whose numbers are their positions.
pub record AreFilesIn (format : Format) (files : List FileRec) (blocks : List (List ℕ)) : Type 0 where
  pub blocks_are : blocks ≡ map (λ r. file_block format r (numbers_in r)) files
  pub numbered : (i : ℕ) (r : FileRec) → slice_get files i ≡ Some r → r.number ≡ i
  pub each : All IsFile files

-- The first block of the content.
abbrev pub content_from : DumpNote → ℕ
content_from n = n.place + 1 + n.users + n.files

-- The block after the content.
abbrev pub content_to : DumpNote → ℕ
content_to n = n.place + 1 + n.count

-- The files whose bytes are in the dump, according to its note.
abbrev pub own_in : ℕ → DumpNote → List FileRec → List FileRec
own_in serial n files = filter (λ r. is_between serial (content_from n) (content_to n) r.tape) files

-- The rules of a dump that concern its records.
pub record KeepRules (serial : ℕ) (n : DumpNote) (users : List UserRec) (held : List ℕ) (files : List FileRec) : Type 0 where
  pub users_are : AreUsers users
  pub owners : All (λ r. holds held r.owner ≡ true) files
  pub in_order : AllPairs (λ r s. r.owner ≤ s.owner) files
  pub files_are : AreFiles (length users) files
  pub dated : StampsBelow n.next_stamp files
  pub copied : All (λ r. r.len ≢ 0 → is_some r.tape ≡ true) files
  pub follow : FollowOn (content_from n) (content_to n) (own_in serial n files)

-- The blocks are the records of a dump with this header.
pub record HasRecords (serial : ℕ) (h : Header) (users : List UserRec) (held : List ℕ) (files : List FileRec) (blocks : List (List ℕ)) : Type 0 where
  pub users_long : length users ≡ h.note.users
  pub files_long : length files ≡ h.note.files
  pub long : length blocks ≡ h.note.users + h.note.files
  pub front : AreUsersIn h.format users held (take h.note.users blocks)
  pub back : AreFilesIn h.format files (drop h.note.users blocks)
  pub rules : KeepRules serial h.note users held files
