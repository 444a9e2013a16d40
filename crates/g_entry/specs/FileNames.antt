-- The full name of a file, with the number of its owner.
use Rattle.std.specs.Prelude.{Bool, ◌&&◌, nat_eq}
use Rattle.std.specs.Cmp.Lexicographic.{pointwise}
use Rattle.g_entry.specs.declared.file_rec.FileRec.{FileRec}
use Rattle.g_entry.specs.declared.rules.FileName.{FileName}

-- The name of a file's record.
abbrev pub name_of : FileRec → FileName
name_of r = record { owner = r.owner; local = r.local; generation = r.generation; lang = r.lang }

-- The names are equal.
abbrev pub same_name : FileName → FileName → Bool
same_name a b = nat_eq a.owner b.owner && (pointwise nat_eq a.local b.local && (nat_eq a.generation b.generation && pointwise nat_eq a.lang b.lang))
