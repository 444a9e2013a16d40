-- The names of one user's files, which are full names without the user; and files with the same full name.
use Rattle.std.specs.Prelude.{ℕ, Bool, ◌==◌, ◌&&◌, List, filter, map, nat_eq}
use Rattle.std.specs.FinMap.{entries, from_entries}
use Rattle.std.specs.Ordering.{ordering_then, nat_cmp}
use Rattle.std.specs.declared.cmp.Ordering.{Ordering}
use Rattle.g_name.specs.Order.{text_cmp, same_text}
use Rattle.g_entry.specs.declared.file_rec.FileRec.{FileRec}
use Rattle.g_tree.specs.declared.sorted.LocalName.{LocalName}

-- The order of names: by local name, generation and language.
abbrev pub name_cmp : LocalName → LocalName → Ordering
name_cmp a b = ordering_then (text_cmp a.local b.local) (ordering_then (nat_cmp a.generation b.generation) (text_cmp a.lang b.lang))

-- The two files have the same full name, since different users have different names.
abbrev pub same_name : FileRec → FileRec → Bool
same_name a b = (a.owner == b.owner) && (same_text a.local b.local && (nat_eq a.generation b.generation && same_text a.lang b.lang))

-- The name of a file without its user.
abbrev pub name_in : FileRec → LocalName
name_in r = record { local = r.local; generation = r.generation; lang = r.lang }

-- The numbers of an owner's files in the order of their names.
abbrev pub numbers_by_name : ℕ → List FileRec → List ℕ
numbers_by_name owner files = map (λ e. e.1) (entries (from_entries {R = name_cmp} (map (λ r. (name_in r, r.number)) (filter (λ r. r.owner == owner) files))))
