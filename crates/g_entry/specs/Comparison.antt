-- The result of comparing the fields of a block with those of a record.
use Rattle.std.specs.Prelude.{◌≡◌, ◌↔◌, ℕ, ◌+◌, Bool, IsTrue, List, [], ◌∷◌, ◌++◌, length, drop}
use Rattle.g_base.specs.Fields.{number, padded}
use Rattle.g_entry.specs.declared.file_rec.FileRec.{FileRec}
use Rattle.g_entry.specs.FileFields.{copy_fields, lang_field, pair_fields}

-- As many bytes as the field has were read, and `same` says whether they are the field's.
pub record Comes (field old new : List ℕ) (same : Bool) : Type 0 where
  pub left : new ≡ drop (length field) old
  pub long : length old ≡ length field + length new
  pub told : IsTrue same ↔ (old ≡ field ++ new)

-- The fields of a file up to its block numbers.
abbrev pub front_fields : FileRec → List ℕ
front_fields r = (1 ∷ r.owner ∷ []) ++ ((length r.local ∷ padded 12 r.local) ++ (number 2 r.generation ++ lang_field r.lang))

-- The fields of a file's stamp, length, traps and copy on tape.
abbrev pub back_fields : FileRec → List ℕ
back_fields r = number 8 r.stamp ++ (number 4 r.len ++ (r.traps.owner ∷ length r.traps.others ∷ (pair_fields r.traps.others ++ copy_fields r.tape)))

-- The fields of a file before its block numbers.
abbrev pub rec_fields : FileRec → List ℕ
rec_fields r = front_fields r ++ back_fields r
