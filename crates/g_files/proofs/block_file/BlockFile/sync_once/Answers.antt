use Rattle.g_files.proofs.FaultLemmas.{counted}
use Rattle.g_files.proofs.RiskLemmas.{left_none}
use Rattle.g_files.proofs.block_file.BlockFile.sync_once.Goals as goal

pub returns-clause-no_more : goal.returns-clause-no_more
returns-clause-no_more g c =
    let f = c.args.self.now in
    left_none f.len (g.F.RawFile.durability f.file).remnants (g.F.RawFile.durability c.sync.new.self).remnants c.sync.ensures.durability.no_other

pub returns-clause-cause : goal.returns-clause-cause
returns-clause-cause g c = counted c.sync.result _ _ c.sync.ensures.cause
