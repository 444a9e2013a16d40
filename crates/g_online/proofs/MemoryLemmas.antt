-- What is in memory, from its parts in their order.
-- serves: add_user, adopt, erase_file, set_file, set_user, unload, with_new_copy, NotedLemmas, PinLemmas, PinLostLemmas, UnjamLemmas
use Rattle.std.proofs.Common.{◌≡◌, ℕ, Bool, true, List, length, Option}
use Rattle.g_copy.specs.declared.copy.DiscCopy.{DiscCopy}
use Rattle.g_entry.specs.declared.file_rec.FileRec.{FileRec}
use Rattle.g_entry.specs.declared.head.Head.{Head}
use Rattle.g_entry.specs.declared.user_rec.UserRec.{UserRec}
use Rattle.g_slots.specs.declared.side.Side.{Side}
use Rattle.g_dirs.specs.Pages.{Remembered}
use Rattle.g_online.specs.declared.pinned.Pinned.{Pinned}
use Rattle.g_online.specs.Invariant.{AreNoted, IsKept, IsPooled, Memory, PinsAre, directory_in}
use Rattle.g_disc.specs.Disc.{DiscState}

abbrev pub memory : Side → Remembered → List Bool → List UserRec → List FileRec → Head → List (ℕ × DiscCopy) → Option (List Pinned) → List ℕ → List ℕ → Bool → Memory
memory side pages pool users files head online pins changed touched live = record {
  side = side;
  pages = pages;
  pool = pool;
  users = users;
  files = files;
  head = head;
  online = online;
  pins = pins;
  changed = changed;
  touched = touched;
  live = live;
}

-- IT IS KEPT with another pool, other pins and other notes, if these are right
pub kept_anew : (disc : DiscState) (m : Memory) (pool : List Bool) (pins : Option (List Pinned)) (changed touched : List ℕ) → IsKept disc m
    → (m.live ≡ true → IsPooled disc.size pins (directory_in m).files pool) → (m.live ≡ true → AreNoted (length m.users) (directory_in m).files changed touched)
    → (m.live ≡ true → PinsAre pins disc.size m.head.next_stamp (directory_in m).files touched) → IsKept disc (record m { pool = pool; pins = pins; changed = changed; touched = touched })
kept_anew disc m pool pins changed touched kept pooled noted pinned = record {
  size = kept.size;
  most = kept.most;
  whole = kept.whole;
  agreed = λ live. let was = kept.agreed live in record { stored = was.stored; copies = was.copies; pool = pooled live; noted = noted live; pins = pinned live; remembered = was.remembered };
}
