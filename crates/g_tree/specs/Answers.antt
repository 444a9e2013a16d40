-- The answers about records, in terms of the tree.
use Rattle.std.specs.Prelude.{◌≡◌, ℕ, ◌==◌, Bool, true, false, ◌&&◌, List, map, filter, fold, max, Some, None, is_none, unwrap_or}
use Rattle.std.specs.FinMap.{entries}
use Rattle.g_name.specs.declared.full.Full.{Full}
use Rattle.g_name.specs.declared.path.Path.{Path}
use Rattle.g_name.specs.Order.{same_text}
use Rattle.g_entry.specs.declared.user_rec.UserRec.{UserRec}
use Rattle.g_entry.specs.declared.file_rec.FileRec.{FileRec}
use Rattle.g_plain.specs.PlainTree.{Tree, has_file, is_version_of, newest, output_name}
use Rattle.g_tree.specs.Records.{full_of, number_of}
use Rattle.g_tree.specs.declared.output.Output.{Output}
use Rattle.g_tree.specs.declared.output.Output.TheVariants.{Replace, Fresh, NoGeneration}

-- The path has no generation, and the last possible one exists.
abbrev pub is_past_last : Tree → List ℕ → Path → Bool
is_past_last tree who path = is_none path.generation && (newest tree who path == 4095)

-- The file that a path names for output: an existing one, a new one, or none.
abbrev pub IsOutput : List UserRec → List FileRec → List ℕ → Path → Tree → Output → Type 0
IsOutput users files who path tree (Replace number) =
    let full = output_name tree who path in
    (is_past_last tree who path ≡ false) × (has_file tree full ≡ true) × (number_of users files full ≡ Some number)
IsOutput users files who path tree (Fresh generation) =
    let full = output_name tree who path in
    (is_past_last tree who path ≡ false) × (has_file tree full ≡ false) × (generation ≡ full.generation)
IsOutput users files who path tree NoGeneration = is_past_last tree who path ≡ true

-- The output is the file with this full name, or a new one if there is none.
abbrev pub IsFileOrNew : List UserRec → List FileRec → Full → Output → Type 0
IsFileOrNew users files full (Replace number) = number_of users files full ≡ Some number
IsFileOrNew users files full (Fresh generation) = (number_of users files full ≡ None) × (generation ≡ full.generation)
IsFileOrNew users files full NoGeneration = ⊥

-- The greatest generation of the files with this user, local name and language, or 0.
abbrev pub newest_of : List UserRec → Full → List FileRec → ℕ
newest_of users name files = fold max 0 (map (λ r. r.generation) (filter (λ r. is_version_of name (full_of users r)) files))

-- The numbers of a user's files, in the order of full names.
abbrev pub listed : List UserRec → List FileRec → List ℕ → Tree → List ℕ
listed users files user tree = map (λ e. unwrap_or (number_of users files e.0) 0) (filter (λ e. same_text e.0.user user) (entries tree.files))
