use Rattle.std.proofs.Common.{◌≡◌, arith}
use Rattle.g_incr.specs.declared.note.DumpDir.{DumpDir}
use Rattle.g_incr.specs.Finding.{HoldsRecords}
use Rattle.g_incr.specs.Records.{HasRecords}
use Rattle.g_incr.proofs.DumpLemmas.{holds_records, some_found}
use Rattle.g_incr.proofs.read.read_records.Goals as goal

pub returns-in-Ok-records_in-clause-found : goal.returns-in-Ok-records_in-clause-found
returns-in-Ok-records_in-clause-found g c =
    let old = g.T.Tapes.rack c.args.tapes.now in
    let new = g.T.Tapes.rack c.read_blocks.new.tapes in
    let h = c.args.h.now in
    let blocks = c.as_slice.result.now in
    some_found c.in-Ok-records_in.found (λ (dir : DumpDir). (dir.note ≡ h.note) × HasRecords c.args.serial h dir.users.items dir.held.items dir.files.items blocks) (HoldsRecords c.args.serial h old new)
    (λ dir has. holds_records c.args.serial h old new dir blocks c.in-Ok.blocks.items _ has.0 has.1 c.as_slice.ensures.value (omega arith) c.in-Ok.ensures.found c.in-Ok.ensures.read)
    c.in-Ok-records_in.ensures.found
