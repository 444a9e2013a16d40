-- The file name that a call without a fault is granted.
use Rattle.std.specs.Prelude.{ℕ, List, Option, Some, None, Result, Ok, Err}
use Rattle.g_name.specs.declared.full.Full.{Full}
use Rattle.g_plain.specs.declared.calls.StoreCall.{StoreCall}
use Rattle.g_plain.specs.declared.calls.StoreCall.TheVariants.{NewUser, Budget, Put, List as ListFiles, Append, Fetch, Erase, Rename, TrapGo, TrapStop, TrapCheck, Retrieve}
use Rattle.g_plain.specs.declared.faults.StoreFault.{StoreFault}
use Rattle.g_plain.specs.declared.names.NamedFile.{NamedFile}
use Rattle.g_plain.specs.declared.refusals.CallName.{CallName}
use Rattle.g_plain.specs.declared.refusals.CallName.TheVariants.{Nothing, Input, Output}
use Rattle.g_plain.specs.declared.refusals.GrantedName.{GrantedName}
use Rattle.g_plain.specs.PlainTree.{Tree, input_name, output_name}
use Rattle.g_plain.specs.PlainStep.{Checks, first_fault, fault_of}

-- The fault, if there is one, otherwise this value.
abbrev pub fault_or : {A : Type 0} → Option StoreFault → A → Result A StoreFault
fault_or (Some fault) value = Err fault
fault_or None value = Ok value

-- The fault of the first check that applies, otherwise this value.
abbrev pub granted_by : {A : Type 0} → Checks → A → Result A StoreFault
granted_by checks value = fault_or (first_fault checks) value

-- The full name of the file that a call names, for output or for input; `Nothing` if it names no file.
abbrev pub name_in : Tree → List ℕ → StoreCall → CallName
name_in tree who (NewUser user space time money) = Nothing
name_in tree who (Budget user kind amount) = Nothing
name_in tree who (ListFiles user) = Nothing
name_in tree who (Put path bytes) = Output (output_name tree who path)
name_in tree who (Append path bytes) = Input (input_name tree who path)
name_in tree who (Fetch path m) = Input (input_name tree who path)
name_in tree who (Erase path) = Input (input_name tree who path)
name_in tree who (Rename path to) = Input (input_name tree who path)
name_in tree who (TrapGo path user modes) = Input (input_name tree who path)
name_in tree who (TrapStop path user modes) = Input (input_name tree who path)
name_in tree who (TrapCheck path user) = Input (input_name tree who path)
name_in tree who (Retrieve path) = Input (input_name tree who path)

-- A full name, with the number of the file that has it.
abbrev pub file_named : (Full → Option ℕ) → Full → NamedFile
file_named numbers full = record { full = full; number = numbers full }

-- The number of the file that has the name of a call.
abbrev pub number_in : (Full → Option ℕ) → CallName → Option ℕ
number_in numbers Nothing = None
number_in numbers (Input full) = numbers full
number_in numbers (Output full) = numbers full

-- The grant for a call that names this file.
abbrev pub name_granted : (Full → Option ℕ) → CallName → GrantedName
name_granted numbers name = record { name = name; number = number_in numbers name }

-- What a call is granted if it has no fault: the full name of its file, and the number of the file that has it.
abbrev pub granted_of : (Full → Option ℕ) → Tree → List ℕ → StoreCall → Result GrantedName StoreFault
granted_of numbers tree who call = fault_or (fault_of tree who call) (name_granted numbers (name_in tree who call))
