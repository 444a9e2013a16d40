-- What the disc names after each of the two commits.
use Rattle.std.specs.Prelude.{ℕ, ◌+◌, List, Some}
use Rattle.g_entry.specs.declared.file_rec.TapeCopy.{TapeCopy}
use Rattle.g_entry.specs.declared.head.Intent.{Intent}
use Rattle.g_disc_contents.specs.Contents.{Contents, with_intent}
use Rattle.g_disc_contents.specs.Facts.{OnlineFacts}
use Rattle.g_incr.specs.Plan.{first_content}
use Rattle.g_online.specs.ReadyCopies.{adopted}
use Rattle.g_process.specs.ProcessPlan.{copies_from, process_plan, versions}

-- The new intent; and after the dump the copies of all versions in it and its number, without an intent.
abbrev pub process_intent : ℕ → OnlineFacts → Intent
process_intent serial o = record { serial = serial; place = 0; number = o.contents.head.last_dump + 1 }

-- The contents with the new intent.
abbrev pub intended_by : ℕ → OnlineFacts → Contents
intended_by serial o = with_intent (Some (process_intent serial o)) o.contents

-- The copies of all versions in the new dump, by stamp.
abbrev pub process_copies : ℕ → OnlineFacts → List (ℕ × TapeCopy)
process_copies serial o = copies_from serial (first_content (process_plan serial o)) (versions o.contents)

-- The contents with the new copies and the number of their dump, without an intent.
abbrev pub moved_by : ℕ → OnlineFacts → Contents
moved_by serial o = adopted (o.contents.head.last_dump + 1) (process_copies serial o) o.contents
