-- What is replied and refused, by records only: what the plain step says of the tree that they represent, for any bytes of
-- the right lengths.
use Rattle.std.specs.Prelude.{◌≡◌, ℕ, true, List, [], Option, Some, None, is_some}
use Rattle.std.specs.FinMap.{entries, get}
use Rattle.g_name.specs.declared.full.Full.{Full}
use Rattle.g_entry.specs.declared.file_rec.FileRec.{FileRec}
use Rattle.g_entry.specs.declared.user_rec.UserRec.{UserRec}
use Rattle.g_plain.specs.declared.calls.StoreCall.{StoreCall}
use Rattle.g_plain.specs.declared.faults.StoreFault.{StoreFault}
use Rattle.g_plain.specs.PlainStep.{fault_of}
use Rattle.g_plain.specs.PlainTree.{lengths}
use Rattle.g_tree.specs.Records.{HasLengths, by_number, full_of, tree_of}

-- The call is refused for this reason, or not, exactly as the plain step says of every tree that the records represent.
abbrev pub RefusesAs : List UserRec → List FileRec → ℕ → List ℕ → StoreCall → Option StoreFault → Type 0
RefusesAs users files next who call refusal = (bytes : FileRec → List ℕ) → HasLengths files bytes → refusal ≡ fault_of (tree_of users files bytes next) who call

-- The file of this number exists.
abbrev pub IsThere : List FileRec → ℕ → Type 0
IsThere files number = is_some (get (by_number files) number) ≡ true

-- The name and the length of a file; an empty name and 0 if it doesn't exist.
abbrev pub row_by : List UserRec → Option FileRec → Full × ℕ
row_by users None = (record { user = []; local = []; generation = 0; lang = [] }, 0)
row_by users (Some r) = (full_of users r, r.len)

-- The name and the length of the file of this number.
abbrev pub row_of : List UserRec → List FileRec → ℕ → Full × ℕ
row_of users files number = row_by users (get (by_number files) number)

-- The files of a user with their lengths.
abbrev pub AreLengths : List UserRec → List FileRec → List ℕ → List (Full × ℕ) → Type 0
AreLengths users files user rows = (bytes : FileRec → List ℕ) (next : ℕ) → HasLengths files bytes → rows ≡ lengths user (entries (tree_of users files bytes next).files)
