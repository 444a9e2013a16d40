-- The rules that every tree satisfies, and those of calls.
use Rattle.std.specs.Prelude.{◌≡◌, ◌≢◌, ℕ, zero, suc, ◌^◌, ◌<◌, ◌≤◌, true, List, length, Some, is_some, codes}
use Rattle.std.specs.FinMap.{get, len}
use Rattle.g_name.specs.declared.full.Full.{Full}
use Rattle.g_name.specs.Grammar.{is_word, is_lang}
use Rattle.g_name.specs.Names.{IsName, path_name}
use Rattle.g_plain.specs.declared.calls.BudgetKind.{BudgetKind}
use Rattle.g_plain.specs.declared.calls.BudgetKind.TheVariants.{Space, Time, Money}
use Rattle.g_plain.specs.declared.calls.StoreCall.{StoreCall}
use Rattle.g_plain.specs.declared.calls.StoreCall.TheVariants.{NewUser, Budget, Put, Rename, TrapGo}
use Rattle.g_plain.specs.PlainTree.{Tree, UserRow, FileRow, has_user, user_row}

-- The user's name is a valid name, the superior exists, and the budgets are within their limits.
pub record IsUserRow (tree : Tree) (user : List ℕ) (row : UserRow) : Type 0 where
  pub name : is_word user ≡ true
  pub superior : has_user tree row.superior ≡ true
  pub space : row.space ≤ 65535
  pub time : row.time ≤ 1000000000
  pub money : row.money ≤ 1000000000

-- The parts of the name are valid. The owner exists and is among the traps, with at most 8 other users; each of these
-- exists and has a mode. Each set of modes is a number below 32. The file has at most 65,536 bytes, and its stamp is at
-- least 1 and less than the next one.
pub record IsFileRow (tree : Tree) (full : Full) (row : FileRow) : Type 0 where
  pub owner : has_user tree full.user ≡ true
  pub local : is_word full.local ≡ true
  pub generation : (1 ≤ full.generation) × (full.generation ≤ 4095)
  pub lang : is_lang full.lang ≡ true
  pub bytes : length row.bytes ≤ 65536
  pub owner_stands : is_some (get row.traps full.user) ≡ true
  pub others : (user : List ℕ) (modes : ℕ) → get row.traps user ≡ Some modes → user ≢ full.user → (has_user tree user ≡ true) × (0 < modes)
  pub modes : (user : List ℕ) (modes : ℕ) → get row.traps user ≡ Some modes → modes < 32
  pub few : len row.traps ≤ 9
  pub stamp : (1 ≤ row.stamp) × (row.stamp < tree.next)

-- The user exists, and MASTER is its superior.
pub record IsFirst (tree : Tree) (user : List ℕ) : Type 0 where
  pub there : has_user tree user ≡ true
  pub superior : (user_row tree user).superior ≡ codes "MASTER"

-- The user's superior's superior and so on, that many levels up.
abbrev pub superior_of : Tree → ℕ → List ℕ → List ℕ
superior_of tree zero user = user
superior_of tree (suc n) user = superior_of tree n (user_row tree user).superior

-- The superiors of the user lead up to MASTER.
abbrev pub LeadsUp : Tree → List ℕ → Type 0
LeadsUp tree user = (n : ℕ) × (superior_of tree n user ≡ codes "MASTER")

-- The rules of a tree.
pub record IsTree (tree : Tree) : Type 0 where
  pub users : (user : List ℕ) (row : UserRow) → get tree.users user ≡ Some row → IsUserRow tree user row
  pub few_users : len tree.users ≤ 63
  pub master : IsFirst tree (codes "MASTER")
  pub macros : IsFirst tree (codes "MACROS")
  pub above : (user : List ℕ) → has_user tree user ≡ true → LeadsUp tree user
  pub files : (full : Full) (row : FileRow) → get tree.files full ≡ Some row → IsFileRow tree full row
  pub few_files : len tree.files ≤ 1024
  -- no two versions have the same stamp
  pub stamps : (f g : Full) (r s : FileRow) → get tree.files f ≡ Some r → get tree.files g ≡ Some s → r.stamp ≡ s.stamp → f ≡ g
  pub next : (1 ≤ tree.next) × (tree.next ≤ 2 ^ 62)

-- The maximum amount of a budget.
abbrev pub most_of : BudgetKind → ℕ
most_of Space = 65535
most_of Time = 1000000000
most_of Money = 1000000000

-- The budgets in a call are within their limits.
abbrev pub IsWithinLimits : StoreCall → Type 0
IsWithinLimits (NewUser user space time money) = (space ≤ 65535) × (time ≤ 1000000000) × (money ≤ 1000000000)
IsWithinLimits (Budget user kind amount) = amount ≤ most_of kind
IsWithinLimits call = Unit {0}

-- The new names in a call are valid, and the modes that it opens are a number below 32.
abbrev pub IsNamed : StoreCall → Type 0
IsNamed (NewUser user space time money) = is_word user ≡ true
IsNamed (Put path bytes) = IsName (path_name path)
IsNamed (Rename path to) = is_word to ≡ true
IsNamed (TrapGo path user modes) = modes < 32
IsNamed call = Unit {0}
