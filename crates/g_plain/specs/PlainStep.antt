-- The plain step: the effect of each call on a tree, and its answer.
use Rattle.std.specs.Prelude.{◌≡◌, ℕ, ◌+◌, ◌-◌, ◌^◌, ◌==◌, Bool, not, ◌&&◌, ◌||◌, nat_lt, nat_le, List, [], ◌∷◌, ◌++◌, length, Option, Some, None, Result, Ok, Err, unwrap_or, is_none, bit_and, bit_or, if◌then◌else◌}
use Rattle.std.specs.FinMap.{get, insert, remove, len, entries, empty}
use Rattle.g_base.specs.Block.{blocks_for}
use Rattle.g_name.specs.declared.full.Full.{Full}
use Rattle.g_name.specs.declared.path.Path.{Path}
use Rattle.g_name.specs.Order.{same_text}
use Rattle.g_trap.specs.declared.mode_set.Mode.TheVariants as mode
use Rattle.g_plain.specs.declared.calls.BudgetKind.{BudgetKind}
use Rattle.g_plain.specs.declared.calls.BudgetKind.TheVariants.{Space, Time, Money}
use Rattle.g_plain.specs.declared.calls.StoreCall.{StoreCall}
use Rattle.g_plain.specs.declared.calls.StoreCall.TheVariants.{NewUser, Budget, Put, Append, Fetch, Erase, Rename, List as ListFiles, TrapGo, TrapStop, TrapCheck, Retrieve}
use Rattle.g_plain.specs.declared.calls.StoreReply.{StoreReply}
use Rattle.g_plain.specs.declared.calls.StoreReply.TheVariants.{Done, Made, Appended, Bytes, Erased, Renamed, Listing, Modes, Retrieved}
use Rattle.g_plain.specs.declared.faults.StoreFault.{StoreFault}
use Rattle.g_plain.specs.declared.faults.StoreFault.TheVariants.{NoUser, NoFile, Exists, Trapped, NoGeneration, OverSpace, TooLong, DirectoryFull, UsersFull, TrapsFull, NotOwner, CountersSpent, NoMemory}
use Rattle.g_plain.specs.PlainTree.{Tree, UserRow, has_user, user_row, has_file, file_row, used_blocks, lengths, owner_of, newest, input_name, output_name, modes_of, is_allowed, with_modes}

-- Conditions, each with the fault that is returned if it holds.
abbrev pub Checks : Type 0
Checks = List (Bool × StoreFault)

-- The fault of the first condition that holds, if one does.
abbrev pub first_fault : Checks → Option StoreFault
first_fault [] = None
first_fault (check ∷ checks) = if check.0 then Some check.1 else first_fault checks

-- The SPACE that the owner has left for a file of this name, in blocks. The blocks of the file's present version count
-- as free.
abbrev pub space_left : Tree → Full → ℕ
space_left tree full = (user_row tree full.user).space - (used_blocks tree full.user - blocks_for (length (file_row tree full).bytes))

-- The checks of a version's size: it has too many bytes; it has too many blocks for its owner.
abbrev pub size_checks : Tree → Full → ℕ → Checks
size_checks tree full size =
    (nat_lt 65536 size, TooLong size)
    ∷ (nat_lt (space_left tree full) (blocks_for size), OverSpace (blocks_for size) (space_left tree full))
    ∷ []

-- The checks of a name for input: the user must exist, and the file.
abbrev pub input_checks : Tree → List ℕ → Path → Checks
input_checks tree who path =
    (not (has_user tree (owner_of who path)), NoUser)
    ∷ (not (has_file tree (input_name tree who path)), NoFile)
    ∷ []

-- The check that a stamp is left.
abbrev pub spent_check : Tree → Bool × StoreFault
spent_check tree = (nat_le (2 ^ 62) tree.next, CountersSpent)

-- The checks of a Put, whose path gives this full name.
abbrev pub put_checks : Tree → List ℕ → Path → List ℕ → Full → Checks
put_checks tree who path bytes full =
    (not (has_user tree full.user), NoUser)
    ∷ (is_none path.generation && (newest tree who path == 4095), NoGeneration)
    ∷ (has_file tree full && not (is_allowed (file_row tree full) full who mode.Write), Trapped mode.Write)
    ∷ (not (has_file tree full) && not (same_text who full.user), NotOwner)
    ∷ size_checks tree full (length bytes)
    ++ (not (has_file tree full) && nat_le 1024 (len tree.files), DirectoryFull)
    ∷ spent_check tree
    ∷ []

-- The checks of each call, in order.
abbrev pub checks : Tree → List ℕ → StoreCall → Checks
checks tree who (NewUser user space time money) =
    (has_user tree user, Exists) ∷ (nat_le 63 (len tree.users), UsersFull) ∷ []
checks tree who (Budget user kind amount) =
    (not (has_user tree user), NoUser) ∷ (not (same_text (user_row tree user).superior who), NotOwner) ∷ []
checks tree who (ListFiles user) =
    (not (has_user tree user), NoUser)
    ∷ (not (same_text user who || same_text (user_row tree user).superior who), NotOwner)
    ∷ []
checks tree who (Put path bytes) = put_checks tree who path bytes (output_name tree who path)
checks tree who (Append path bytes) =
    let full = input_name tree who path in
    input_checks tree who path
    ++ (not (is_allowed (file_row tree full) full who mode.Append), Trapped mode.Append)
    ∷ size_checks tree full (length (file_row tree full).bytes + length bytes)
    ++ spent_check tree
    ∷ []
checks tree who (Fetch path m) =
    let full = input_name tree who path in
    input_checks tree who path ++ (not (is_allowed (file_row tree full) full who m), Trapped m) ∷ []
checks tree who (Retrieve path) =
    let full = input_name tree who path in
    input_checks tree who path ++ (not (is_allowed (file_row tree full) full who mode.Read), Trapped mode.Read) ∷ []
checks tree who (Erase path) =
    let full = input_name tree who path in
    input_checks tree who path ++ (not (is_allowed (file_row tree full) full who mode.Erase), Trapped mode.Erase) ∷ []
checks tree who (Rename path to) =
    let full = input_name tree who path in
    input_checks tree who path
    ++ (not (same_text who full.user), NotOwner)
    ∷ (has_file tree (record full { local = to }), Exists)
    ∷ []
checks tree who (TrapGo path user modes) =
    let full = input_name tree who path in
    let traps = (file_row tree full).traps in
    input_checks tree who path
    ++ (not (has_user tree user), NoUser)
    ∷ (not (same_text who full.user), NotOwner)
    ∷ (not (modes == 0) && is_none (get traps user) && nat_le 9 (len traps), TrapsFull)
    ∷ []
checks tree who (TrapStop path user modes) =
    let full = input_name tree who path in
    input_checks tree who path ++ (not (has_user tree user), NoUser) ∷ (not (same_text who full.user), NotOwner) ∷ []
checks tree who (TrapCheck path user) =
    let full = input_name tree who path in
    input_checks tree who path
    ++ (not (has_user tree user), NoUser)
    ∷ (not (same_text who full.user || same_text who user), NotOwner)
    ∷ []

-- The tree with a new version of a file, which keeps its traps, or with a new file, for which its owner has all modes.
abbrev pub with_version : Tree → Full → List ℕ → Tree
with_version tree full bytes =
    let traps = if has_file tree full then (file_row tree full).traps else insert empty full.user 31 in
    record tree { files = insert tree.files full (record { traps = traps; bytes = bytes; stamp = tree.next }); next = tree.next + 1 }

-- The tree after a user was given exactly these modes for a file.
abbrev pub with_traps : Tree → Full → List ℕ → ℕ → Tree
with_traps tree full user modes =
    let row = file_row tree full in
    record tree { files = insert tree.files full (record row { traps = with_modes full user modes row.traps }) }

-- The row with another amount of one budget.
abbrev pub with_budget : UserRow → BudgetKind → ℕ → UserRow
with_budget row Space amount = record row { space = amount }
with_budget row Time amount = record row { time = amount }
with_budget row Money amount = record row { money = amount }

-- The tree after a call that has no fault.
abbrev pub tree_after : Tree → List ℕ → StoreCall → Tree
tree_after tree who (NewUser user space time money) =
    record tree { users = insert tree.users user (record { superior = who; space = space; time = time; money = money }) }
tree_after tree who (Budget user kind amount) =
    record tree { users = insert tree.users user (with_budget (user_row tree user) kind amount) }
tree_after tree who (Put path bytes) = with_version tree (output_name tree who path) bytes
tree_after tree who (Append path bytes) =
    let full = input_name tree who path in
    with_version tree full ((file_row tree full).bytes ++ bytes)
tree_after tree who (Erase path) = record tree { files = remove tree.files (input_name tree who path) }
tree_after tree who (Rename path to) =
    let full = input_name tree who path in
    record tree { files = insert (remove tree.files full) (record full { local = to }) (file_row tree full) }
tree_after tree who (TrapGo path user modes) =
    let full = input_name tree who path in
    with_traps tree full user (bit_or (unwrap_or (get (file_row tree full).traps user) 0) modes)
tree_after tree who (TrapStop path user modes) =
    let full = input_name tree who path in
    let had = unwrap_or (get (file_row tree full).traps user) 0 in
    with_traps tree full user (had - bit_and had modes)
tree_after tree who (Fetch path m) = tree
tree_after tree who (Retrieve path) = tree
tree_after tree who (ListFiles user) = tree
tree_after tree who (TrapCheck path user) = tree

-- The reply to a call that has no fault.
abbrev pub reply_to : Tree → List ℕ → StoreCall → StoreReply
reply_to tree who (NewUser user space time money) = Done
reply_to tree who (Budget user kind amount) = Done
reply_to tree who (Put path bytes) = Made (output_name tree who path)
reply_to tree who (Append path bytes) = Appended (input_name tree who path)
reply_to tree who (Fetch path m) = Bytes (input_name tree who path) (file_row tree (input_name tree who path)).bytes
reply_to tree who (Erase path) = Erased (input_name tree who path)
reply_to tree who (Rename path to) = Renamed (record (input_name tree who path) { local = to })
reply_to tree who (ListFiles user) = Listing (lengths user (entries tree.files))
reply_to tree who (TrapGo path user modes) = Done
reply_to tree who (TrapStop path user modes) = Done
reply_to tree who (TrapCheck path user) =
    let full = input_name tree who path in
    Modes (modes_of (file_row tree full) full user)
reply_to tree who (Retrieve path) = Retrieved (input_name tree who path)

-- The fault of a call by an existing user, if it has one.
abbrev pub fault_in : Tree → List ℕ → StoreCall → Option StoreFault
fault_in tree who call = first_fault (checks tree who call)

-- The fault of a call, if it has one.
abbrev pub fault_of : Tree → List ℕ → StoreCall → Option StoreFault
fault_of tree who call = first_fault ((not (has_user tree who), NoUser) ∷ checks tree who call)

-- The answer of the plain step.
abbrev pub plain_answer : Tree → List ℕ → StoreCall → Result StoreReply StoreFault
plain_answer tree who call = elim (fault_of tree who call) [ Some fault ↦ Err fault | None ↦ Ok (reply_to tree who call) ]

-- The tree after the plain step.
abbrev pub plain_tree : Tree → List ℕ → StoreCall → Tree
plain_tree tree who call = elim (fault_of tree who call) [ Some fault ↦ tree | None ↦ tree_after tree who call ]

-- Answer and tree are those of the plain step; or memory ran out, and the tree is unchanged.
abbrev pub IsPlainAnswer : Tree → List ℕ → StoreCall → Result StoreReply StoreFault → Tree → Type 0
IsPlainAnswer old who call (Err NoMemory) new = new ≡ old
IsPlainAnswer old who call answer new = (answer ≡ plain_answer old who call) × (new ≡ plain_tree old who call)

-- The result of a call without a fault: the reply and the tree after it, or an error and the unchanged tree.
abbrev pub IsGranted : {E : Type 0} → Tree → List ℕ → StoreCall → Result StoreReply E → Tree → Type 0
IsGranted old who call (Ok reply) new = (reply ≡ reply_to old who call) × (new ≡ tree_after old who call)
IsGranted old who call (Err e) new = new ≡ old
