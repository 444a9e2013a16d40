-- The tree that the dumps give is the tree of the directories that they hold.
use Rattle.std.specs.Prelude.{◌≡◌, ℕ, List, Contains, map}
use Rattle.g_entry.specs.declared.file_rec.TapeCopy.{TapeCopy}
use Rattle.g_entry.specs.declared.user_rec.UserRec.{UserRec}
use Rattle.g_tree.specs.Records.{IsRecords}
use Rattle.g_disc_contents.specs.Contents.{Contents, recs_in, with_copies}
use Rattle.g_incr.specs.Layout.{Dump}
use Rattle.g_store_meaning.specs.Meaning.{DumpedDirectory, files_in, files_of}
use Rattle.g_store_meaning.specs.Reading.{tree_by}
use Rattle.g_store_meaning.specs.StoreInvariant.{IsKept}

-- No two dumps have the same number.
abbrev pub AreNumberedApart : List Dump → Type 0
AreNumberedApart dumps = (d e : Dump) → Contains dumps d → Contains dumps e → d.number ≡ e.number → d ≡ e

-- If the dumps have each user's directory of the disc, with the copies noted, then the dumped tree is that of the disc.
-- Therefore an open dump has the tree of its opening, although it leaves out some users.
abbrev pub DumpedTreeIs : Type 0
DumpedTreeIs = (text : ℕ → List ℕ) (dumps : List Dump) (t : DumpedDirectory dumps) (c : Contents) (copies : List (ℕ × TapeCopy)) → AreNumberedApart dumps
    → IsRecords c.users (recs_in c) → t.last.users ≡ c.users → t.last.next ≡ c.head.next_stamp
    → ((u : UserRec) → Contains c.users u → IsKept dumps u.number (files_of u.number (map (λ f. f.rec) (with_copies copies c.files))))
    → tree_by text t.last.users (files_in t) t.last.next ≡ tree_by text c.users (recs_in c) c.head.next_stamp
