-- THE BYTES OF A FILE by its record, if the rack exposes its blocks.
use Rattle.std.specs.Prelude.{◌≡◌, ℕ, ◌<◌, List, length, Option, Some, None}
use Rattle.std.specs.Option.{ForSome}
use Rattle.g_copy.specs.Copy.{bytes_at}
use Rattle.g_copy.specs.declared.copy.DiscCopy.{DiscCopy}
use Rattle.g_entry.specs.declared.file_rec.FileRec.{FileRec}
use Rattle.g_entry.specs.declared.file_rec.TapeCopy.{TapeCopy}
use Rattle.g_tape.specs.Rack.{Rack}
use Rattle.g_incr.specs.Layout.{Dump}
use Rattle.g_store_meaning.specs.Meaning.{IsContent}
use Rattle.g_look.specs.Looks.{OfDumps}

-- The dumps hold this text of the given length at a copy; an empty text needs no place.
pub record IsHeldAt (dumps : List Dump) (copy : TapeCopy) (len : ℕ) (text : List ℕ) : Type 0 where
  pub long : length text ≡ len
  pub content : 0 < len → IsContent dumps copy text

-- No text of this length is content of the dumps at this copy.
abbrev pub IsHeldNowhere : List Dump → TapeCopy → ℕ → Type 0
IsHeldNowhere dumps copy len = (text : List ℕ) → length text ≡ len → IsContent dumps copy text → ⊥

-- The text of a file's copy on tape, as the dumps hold it.
pub record IsHeldBy (dumps : List Dump) (r : FileRec) (text : List ℕ) : Type 0 where
  pub copy : TapeCopy
  pub copy_is : r.tape ≡ Some copy
  pub held : IsHeldAt dumps copy r.len text

-- The text is that of the file's copy on the disc, if it has one, otherwise that of its copy on tape, if the devices expose their blocks.
abbrev pub AreBytesAt : Option (List (List ℕ)) → Rack → FileRec → Option DiscCopy → List ℕ → Type 0
AreBytesAt held rack r None text = OfDumps rack (λ dumps. IsHeldBy dumps r text)
AreBytesAt held rack r (Some copy) text = ForSome held (λ blocks. text ≡ bytes_at copy.blocks copy.len blocks)
