-- The tree of users and files, as maps from names.
use Rattle.std.specs.Prelude.{ℕ, ◌+◌, ◌==◌, Bool, not, ◌&&◌, List, [], map, filter, fold, max, sum_by, length, unwrap_or, is_some, bit_or, codes, if◌then◌else◌}
use Rattle.std.specs.FinMap.{FinMap, get, insert, remove, entries, empty}
use Rattle.g_base.specs.Block.{blocks_for}
use Rattle.g_name.specs.declared.full.Full.{Full}
use Rattle.g_name.specs.declared.path.Path.{Path}
use Rattle.g_name.specs.Order.{text_cmp, full_cmp, same_text}
use Rattle.g_trap.specs.declared.mode_set.Mode.{Mode}
use Rattle.g_trap.specs.ModeSet.{allows}

-- A user: the superior, who set the budgets, and the budgets.
pub record UserRow : Type 0 where
  pub superior : List ℕ
  pub space : ℕ
  pub time : ℕ
  pub money : ℕ

-- A file: the modes of each user who has any, including the owner; the bytes; the stamp of the version.
pub record FileRow : Type 0 where
  pub traps : FinMap text_cmp ℕ
  pub bytes : List ℕ
  pub stamp : ℕ

-- A tree: the users and the files by name, and the stamp of the next version.
pub record Tree : Type 0 where
  pub users : FinMap text_cmp UserRow
  pub files : FinMap full_cmp FileRow
  pub next : ℕ

-- The tree of a new filestore: MASTER, and MACROS below it.
abbrev pub formatted : Tree
formatted =
    let row : UserRow = record { superior = codes "MASTER"; space = 65535; time = 1000000; money = 1000000 } in
    record { users = insert (insert empty (codes "MASTER") row) (codes "MACROS") row; files = empty; next = 1 }

-- The user exists.
abbrev pub has_user : Tree → List ℕ → Bool
has_user tree user = is_some (get tree.users user)

-- The empty row of a user.
abbrev pub no_budgets : UserRow
no_budgets = record { superior = []; space = 0; time = 0; money = 0 }

-- The row of a user; an empty one if the user doesn't exist.
abbrev pub user_row : Tree → List ℕ → UserRow
user_row tree user = unwrap_or (get tree.users user) no_budgets

-- The file exists.
abbrev pub has_file : Tree → Full → Bool
has_file tree full = is_some (get tree.files full)

-- The empty row of a file.
unfoldable pub no_row : FileRow
no_row = record { traps = empty; bytes = []; stamp = 0 }

-- The row of a file; an empty one if the file doesn't exist.
abbrev pub file_row : Tree → Full → FileRow
file_row tree full = unwrap_or (get tree.files full) no_row

-- The number of blocks of a file if it is the user's, otherwise 0.
abbrev pub blocks_of : List ℕ → Full × FileRow → ℕ
blocks_of user e = if same_text e.0.user user then blocks_for (length e.1.bytes) else 0

-- The number of blocks of a user's files.
abbrev pub used_blocks : Tree → List ℕ → ℕ
used_blocks tree user = sum_by (blocks_of user) (entries tree.files)

-- The files of a user, with their lengths in bytes.
abbrev pub lengths : List ℕ → List (Full × FileRow) → List (Full × ℕ)
lengths user es = map (λ e. (e.0, length e.1.bytes)) (filter (λ e. same_text e.0.user user) es)

-- The owner of the file that a path names.
abbrev pub owner_of : List ℕ → Path → List ℕ
owner_of who path = unwrap_or path.user who

-- The full name of a path with a generation.
abbrev pub named : List ℕ → Path → ℕ → Full
named who path n = record { user = owner_of who path; local = path.local; generation = n; lang = unwrap_or path.lang [] }

-- The names have the same user, local name and language.
abbrev pub is_version_of : Full → Full → Bool
is_version_of f g = same_text f.user g.user && same_text f.local g.local && same_text f.lang g.lang

-- The generations of the files with the same user, local name and language.
abbrev pub generations : Full → List (Full × FileRow) → List ℕ
generations name es = map (λ e. e.0.generation) (filter (λ e. is_version_of name e.0) es)

-- The greatest existing generation of what a path names, or 0.
abbrev pub newest : Tree → List ℕ → Path → ℕ
newest tree who path = fold max 0 (generations (named who path 0) (entries tree.files))

-- The full name of a path for input: without a generation, the newest one.
abbrev pub input_name : Tree → List ℕ → Path → Full
input_name tree who path = named who path (unwrap_or path.generation (newest tree who path))

-- The full name of a path for output: without a generation, the one after the newest.
abbrev pub output_name : Tree → List ℕ → Path → Full
output_name tree who path = named who path (unwrap_or path.generation (newest tree who path + 1))

-- The modes that a user has for a file. All users may execute the files of MACROS.
abbrev pub modes_of : FileRow → Full → List ℕ → ℕ
modes_of row full user =
    let given = unwrap_or (get row.traps user) 0 in
    if same_text full.user (codes "MACROS") then bit_or given 2 else given

-- The user has this mode for the file.
abbrev pub is_allowed : FileRow → Full → List ℕ → Mode → Bool
is_allowed row full user mode = allows (modes_of row full user) mode

-- The traps after a user was given exactly these modes. A user without modes is removed, unless it is the owner.
abbrev pub with_modes : Full → List ℕ → ℕ → FinMap text_cmp ℕ → FinMap text_cmp ℕ
with_modes full user modes traps =
    if (modes == 0) && not (same_text user full.user) then remove traps user else insert traps user modes
