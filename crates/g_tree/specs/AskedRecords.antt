-- Queries on records about whether a call is refused, and what the records grant.
use Rattle.std.specs.Prelude.{◌≡◌, ℕ, List, Some, replicate}
use Rattle.g_entry.specs.declared.file_rec.FileRec.{FileRec}
use Rattle.g_entry.specs.declared.user_rec.UserRec.{UserRec}
use Rattle.g_plain.specs.declared.refusals.CallName.{CallName}
use Rattle.g_plain.specs.declared.refusals.CallName.TheVariants as name
use Rattle.g_tree.specs.Records.{number_of}
use Rattle.g_tree.specs.declared.asked.Granted.{Granted}
use Rattle.g_tree.specs.declared.asked.Granted.TheVariants.{Nothing, Input, Output}

-- As many zeros as a file has bytes. No fault depends on the bytes themselves.
abbrev pub zeros : FileRec → List ℕ
zeros r = replicate r.len 0

-- What is granted to a call with this name: for input, the file that has it; for output, that file, if there is one; and nothing if the call names no
-- file.
abbrev pub IsGranted : List UserRec → List FileRec → CallName → Granted → Type 0
IsGranted users files name.Nothing Nothing = Unit {0}
IsGranted users files (name.Input called) (Input number full) = (full ≡ called) × (number_of users files called ≡ Some number)
IsGranted users files (name.Output called) (Output number full) = (full ≡ called) × (number ≡ number_of users files called)
IsGranted users files called granted = ⊥
