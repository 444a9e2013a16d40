-- THE BYTES SHOWN FOR A FILE: those on the disc, if it is there, otherwise those of its copy on tape.
use Rattle.std.specs.Prelude.{◌≡◌, ℕ, List, length, false, Contains, Some, None, codes}
use Rattle.g_copy.specs.Copy.{bytes_at}
use Rattle.g_entry.specs.declared.file_rec.FileRec.{FileRec}
use Rattle.g_entry.specs.declared.file_rec.TapeCopy.{TapeCopy}
use Rattle.g_name.specs.declared.path.Path.{Path}
use Rattle.g_dirs.specs.Directory.{Directory, FileEntry, recs}
use Rattle.g_dirs.specs.Image.{StandsFor}
use Rattle.g_plain.specs.PlainTree.{has_file, input_name}
use Rattle.g_tree.specs.Records.{ForTree, full_of}
use Rattle.g_incr.specs.Layout.{Dump}
use Rattle.g_store_meaning.specs.Meaning.{IsContent}

-- THE FILE THAT A PATH NAMES for input; if the path has no user, the user is MASTER.
pub record IsInput (d : Directory) (path : Path) (f : FileEntry) : Type 0 where
  pub there : Contains d.files f
  pub named : ForTree d.users (recs d.files) (λ t. full_of d.users f.0 ≡ input_name t (codes "MASTER") path)

-- The bytes of a file's copy on tape, as completed dumps hold it.
pub record AreTaped (dumps : List Dump) (r : FileRec) (text : List ℕ) : Type 0 where
  pub copy : TapeCopy
  pub copy_is : r.tape ≡ Some copy
  pub long : length text ≡ r.len
  pub content : IsContent dumps copy text

-- THE BYTES of a file of a disc.
abbrev pub AreBytesOf : List (List ℕ) → List Dump → FileEntry → List ℕ → Type 0
AreBytesOf blocks dumps (r, Some copy) text = text ≡ bytes_at copy.blocks copy.len blocks
AreBytesOf blocks dumps (r, None) text = AreTaped dumps r text

-- The text is that of the file which the path names on this disc.
pub record IsShown (blocks : List (List ℕ)) (dumps : List Dump) (path : Path) (text : List ℕ) : Type 0 where
  pub directory : Directory
  pub stands : StandsFor blocks directory
  pub file : FileEntry
  pub input : IsInput directory path file
  pub bytes : AreBytesOf blocks dumps file text

-- No file has the name.
pub record IsNoFile (blocks : List (List ℕ)) (path : Path) : Type 0 where
  pub directory : Directory
  pub stands : StandsFor blocks directory
  pub none : ForTree directory.users (recs directory.files) (λ t. has_file t (input_name t (codes "MASTER") path) ≡ false)

-- No completed dump holds a copy of the file.
abbrev pub IsNowhere : List Dump → FileRec → Type 0
IsNowhere dumps r = (copy : TapeCopy) → r.tape ≡ Some copy → (text : List ℕ) → length text ≡ r.len → IsContent dumps copy text → ⊥

-- The file isn't on the disc, and its copy is nowhere.
pub record IsLost (blocks : List (List ℕ)) (dumps : List Dump) (path : Path) : Type 0 where
  pub directory : Directory
  pub stands : StandsFor blocks directory
  pub file : FileEntry
  pub input : IsInput directory path file
  pub offline : file.1 ≡ None
  pub nowhere : IsNowhere dumps file.0
