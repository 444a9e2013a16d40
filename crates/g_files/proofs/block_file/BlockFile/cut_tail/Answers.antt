use Rattle.std.proofs.Common.{◌*◌}
use Rattle.g_files.proofs.BlockFileLemmas.{cut_front, made_same}
use Rattle.g_files.proofs.RiskLemmas.{left_set}
use Rattle.g_files.proofs.block_file.BlockFile.cut_tail.Goals as goal

pub returns-clause-same : goal.returns-clause-same
returns-clause-same g c =
    let f = c.args.self.now in
    let content = g.F.RawFile.content in
    made_same f.len (content f.file) (content c.cut_at.new.file) (cut_front (512 * f.len) (content f.file) (content c.cut_at.new.file) c.cut_at.ensures.cut)

pub returns-clause-no_more : goal.returns-clause-no_more
returns-clause-no_more g c =
    let f = c.args.self.now in
    let d = g.F.RawFile.durability f.file in
    let d' = g.F.RawFile.durability c.cut_at.new.file in
    left_set f.len d.remnants d'.remnants (λ left there. c.cut_at.ensures.durability.sectors left there)

pub returns-clause-sized : goal.returns-clause-sized
returns-clause-sized g c = c.cut_at.ensures.durability.sized
