-- WHAT A RESTORE WOULD LACK, judged by the dumps of the rack and by the last dump that the disc knows of.
use Rattle.std.specs.Prelude.{◌≡◌, ◌≢◌, ◌⊎◌, ℕ, ◌<◌, ◌≤◌, List, All, Contains, Option, Some, None, slice_get}
use Rattle.g_entry.specs.declared.format.Format.{Format}
use Rattle.g_entry.specs.declared.head.Head.{Head}
use Rattle.g_entry.specs.HeadFields.{IsHead, head_block}
use Rattle.g_slots.specs.Layout.{current}
use Rattle.g_dirs.specs.Directory.{Directory}
use Rattle.g_dirs.specs.Image.{StandsFor}
use Rattle.g_plain.specs.declared.faults.StoreFault.{StoreFault}
use Rattle.g_incr.specs.Layout.{Dump}
use Rattle.g_store_meaning.specs.Meaning.{DumpedDirectory, files_in}
use Rattle.g_restore.specs.declared.dumps.Found.{Found}
use Rattle.g_restore.specs.Losses.{AreApart, HasPlace}
use Rattle.g_look.specs.declared.outlook.Outlook.{Outlook}
use Rattle.g_look.specs.Gaps.{HoldsAll}
use Rattle.g_look.specs.Lists.{IsRefusal}

-- The first block of the current slot is that of this head.
pub record HasHead (blocks : List (List ℕ)) (h : Head) : Type 0 where
  pub format : Format
  pub valid : IsHead h
  pub block : slice_get (current blocks) 0 ≡ Some (head_block format h)

-- THE LAST DUMP THAT A DISC KNOWS OF: the number in its head, or 0 if it has no head.
pub record KnowsOf (blocks : List (List ℕ)) (last : ℕ) : Type 0 where
  pub head : (h : Head) → HasHead blocks h → last ≡ h.last_dump
  pub none : ((h : Head) → HasHead blocks h → ⊥) → last ≡ 0

-- No completed dump of the rack has the number, the disc knows of a dump of this number or a later one, or the rack has a later one, and none of the
-- later ones holds the directories of all its users.
pub record IsLacking (dumps : List Dump) (last n : ℕ) : Type 0 where
  pub number : 0 < n
  pub gone : (d : Dump) → Contains dumps d → d.number ≢ n
  pub known : (n ≤ last) ⊎ ((d : Dump) × Contains dumps d × (n < d.number))
  pub needed : (d : Dump) → Contains dumps d → n < d.number → HoldsAll d.users d.held → ⊥

-- THE LACKING DUMP THAT IS NAMED has the greatest number; none is named if and only if none is lacking.
abbrev pub NamesLacking : List Dump → ℕ → Option ℕ → Type 0
NamesLacking dumps last None = (n : ℕ) → IsLacking dumps last n → ⊥
NamesLacking dumps last (Some n) = IsLacking dumps last n × ((m : ℕ) → IsLacking dumps last m → m ≤ n)

-- The disc knows of no dump that is newer than all dumps in memory.
abbrev pub IsReached : List Found → ℕ → Type 0
IsReached found last = (last ≡ 0) ⊎ ((f : Found) × Contains found f × (last ≤ f.dir.note.number))

-- The disc knows of a dump that is newer than all dumps in memory.
abbrev pub IsBeyond : List Found → ℕ → Type 0
IsBeyond found last = (0 < last) × ((f : Found) → Contains found f → f.dir.note.number < last)

-- How a restore would end: with the dumped directory, whose bytes are all held; or with its refusal, if no two dumps have the same number.
abbrev pub EndsRestore : List Dump → Option StoreFault → Type 0
EndsRestore dumps None = (t : DumpedDirectory dumps) × All (HasPlace dumps) (files_in t)
EndsRestore dumps (Some fault) = AreApart dumps → IsRefusal dumps fault

-- THE OUTLOOK for a restore from these dumps, next to a disc that knows of this dump as the last one: how the restore would end, and which dump is
-- lacking.
pub record IsForeseen (dumps : List Dump) (last : ℕ) (o : Outlook) : Type 0 where
  pub ends : EndsRestore dumps o.refusal
  pub missing : NamesLacking dumps last o.missing

-- The outlook for a restore next to a disc with these blocks.
abbrev pub IsForeseenOn : List (List ℕ) → List Dump → Outlook → Type 0
IsForeseenOn blocks dumps o = (last : ℕ) × KnowsOf blocks last × IsForeseen dumps last o

-- A DISC KNOWS OF EXACTLY ONE LAST DUMP, and if it represents a directory, of the one in the directory's head.
abbrev pub KnownIsOne : Type 0
KnownIsOne = (blocks : List (List ℕ)) (last : ℕ) → KnowsOf blocks last
    → ((other : ℕ) → KnowsOf blocks other → other ≡ last) × ((d : Directory) → StandsFor blocks d → last ≡ d.head.last_dump)
