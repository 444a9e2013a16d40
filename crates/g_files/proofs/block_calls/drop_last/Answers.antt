use Rattle.std.proofs.Common.{◌*◌, sym, arith, ◌∙◌}
use Rattle.g_files.proofs.BlockFileLemmas.{bytes_front, cut_front, on_is_ok}
use Rattle.g_files.proofs.SectorLemmas.{grows_set}
use Rattle.g_files.proofs.block_calls.drop_last.Goals as goal

pub returns-then-is_ok-clause-bytes : goal.returns-then-is_ok-clause-bytes
returns-then-is_ok-clause-bytes g c =
    let content = g.F.RawFile.content in
    bytes_front (512 * c.args.k) (content c.args.file.now) (content c.cut_at.new.file) c.requires.bytes c.cut_at.ensures.cut
    (on_is_ok c.cut_at.result (sym c.is_ok.ensures.value ∙ c.if-is_ok.true) c.cut_at.ensures.done)

pub returns-then-is_ok-clause-front : goal.returns-then-is_ok-clause-front
returns-then-is_ok-clause-front g c =
    let content = g.F.RawFile.content in
    cut_front (512 * c.args.k) (content c.args.file.now) (content c.cut_at.new.file) c.cut_at.ensures.cut

pub returns-then-is_ok-clause-grows : goal.returns-then-is_ok-clause-grows
returns-then-is_ok-clause-grows g c =
    let content = g.F.RawFile.content in
    let durability = g.F.RawFile.durability in
    grows_set c.args.k (512 * c.args.k) (content c.args.file.now) (content c.cut_at.new.file) (durability c.args.file.now) (durability c.cut_at.new.file)
    c.cut_at.result (omega arith) (omega arith) c.cut_at.ensures.durability

pub returns-then-has_blocks-clause-grows : goal.returns-then-has_blocks-clause-grows
returns-then-has_blocks-clause-grows g c =
    let content = g.F.RawFile.content in
    let durability = g.F.RawFile.durability in
    rw c.has_blocks.ensures.as_durable (grows_set c.args.k (512 * c.args.k) (content c.args.file.now) (content c.cut_at.new.file) (durability c.args.file.now)
    (durability c.cut_at.new.file) c.cut_at.result (omega arith) (omega arith) c.cut_at.ensures.durability)

pub returns-else-has_blocks-clause-grows : goal.returns-else-has_blocks-clause-grows
returns-else-has_blocks-clause-grows g c =
    let content = g.F.RawFile.content in
    let durability = g.F.RawFile.durability in
    rw c.has_blocks.ensures.as_durable (grows_set c.args.k (512 * c.args.k) (content c.args.file.now) (content c.cut_at.new.file) (durability c.args.file.now)
    (durability c.cut_at.new.file) c.cut_at.result (omega arith) (omega arith) c.cut_at.ensures.durability)
