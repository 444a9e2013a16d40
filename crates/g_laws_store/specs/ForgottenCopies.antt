-- A filestore that has forgotten its tape copies. Every version of every user waits then, and PROCESS is the opening, the
-- writing and the closing of a dump of it, at block 0 of an empty reel. The disc still names the old copies until the
-- closing commit.
use Rattle.std.specs.Prelude.{◌≡◌, ℕ, List, map, None, Some}
use Rattle.g_entry.specs.declared.file_rec.FileRec.{FileRec}
use Rattle.g_entry.specs.declared.head.Intent.{Intent}
use Rattle.g_disc_contents.specs.Contents.{Contents, File, with_intent}
use Rattle.g_incr.specs.Layout.{Dump}
use Rattle.g_tape.specs.Reel.{Reel}
use Rattle.g_store_meaning.specs.Belonging.{DiscBelongs}
use Rattle.g_store_meaning.specs.StoreInvariant.{IsUp, StoreFacts, with_dump}
use Rattle.g_laws_store.specs.Dumping.{AreDumpable}

-- The record without its copy on tape.
abbrev pub bare_rec : FileRec → FileRec
bare_rec r = record r { tape = None }

-- The file without its copy on tape.
abbrev pub bare_file : File → File
bare_file f = record f { rec = bare_rec f.rec }

-- The contents without any copy on tape.
abbrev pub bare : Contents → Contents
bare c = record c { files = map bare_file c.files }

-- The numbers of all users.
abbrev pub every_user : Contents → List ℕ
every_user c = map (λ u. u.number) c.users

-- No record names a tape copy, and every user counts as changed.
abbrev pub forgotten : StoreFacts → StoreFacts
forgotten s = record s { online = record s.online { contents = bare s.online.contents; changed = every_user s.online.contents } }

-- The invariant of a store that is up is preserved when it forgets its copies, and a dump of all its versions may be opened
-- then.
pub record ForgettingStaysUp : Type 0 where
  -- the invariant of a store that is up is preserved
  pub up : (text : ℕ → List ℕ) (shelf : ℕ → List Dump) (s : StoreFacts) → s.dump ≡ None → IsUp text shelf s → IsUp text shelf (forgotten s)
  -- a dump of it may be opened
  pub dumpable : (changed : List ℕ) (c : Contents) → AreDumpable changed c → AreDumpable (every_user c) (bare c)
  -- the disc, which names the old copies, also belongs to the rack with that dump
  pub marked : (text : ℕ → List ℕ) (shelf : ℕ → List Dump) (reels : List Reel) (made : Dump) (c : Contents) (i : Intent)
      → DiscBelongs text shelf reels c → DiscBelongs text (with_dump made shelf) reels (with_intent (Some i) (bare c))
      → DiscBelongs text (with_dump made shelf) reels (with_intent (Some i) c)
