use Rattle.g_dirs.proofs.QuietLemmas.{quiet_bytes, quiet_copy, quiet_slot}
use Rattle.g_dirs.proofs.laws.quiet_writes.Goals as goal

-- src/laws.rt:5:1
pub returns-clause-slot : goal.returns-clause-slot
returns-clause-slot c = quiet_slot

-- src/laws.rt:5:1
pub returns-clause-copy : goal.returns-clause-copy
returns-clause-copy c = quiet_copy

-- src/laws.rt:5:1
pub returns-clause-bytes : goal.returns-clause-bytes
returns-clause-bytes c = quiet_bytes
