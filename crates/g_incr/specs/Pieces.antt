-- The records of a plan at their places in the dump.
use Rattle.std.specs.Prelude.{ℕ, ◌+◌, List, take, if◌then◌else◌}
use Rattle.g_entry.specs.declared.file_rec.FileRec.{FileRec}
use Rattle.g_entry.specs.declared.user_rec.UserRec.{UserRec}
use Rattle.g_incr.specs.Plan.{Plan, blocks_of, first_content, noted_rec, waiting, waits, with_number}

-- The plan with these parts.
abbrev pub plan_from : ℕ → ℕ → ℕ → ℕ → List UserRec → List ℕ → List FileRec → Plan
plan_from serial number place next users held files =
    record { serial = serial; place = place; number = number; next = next; users = users; held = held; files = files }

-- The record of file i in the dump: with the number i and, if the version waits, with its place in the dump.
abbrev pub dumped_rec : Plan → ℕ → FileRec → FileRec
dumped_rec p i r =
    with_number i (if waits r then noted_rec p.serial (first_content p + blocks_of (waiting (take i p.files))) r else r)
