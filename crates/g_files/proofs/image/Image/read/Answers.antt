use Rattle.std.proofs.Common.{◌*◌, arith}
use Rattle.std.proofs.lemmas.Result.{on_ok_weaker}
use Rattle.g_files.proofs.ImageLemmas.{read_held, read_beside}
use Rattle.g_files.proofs.image.Image.read.Goals as goal

pub returns-then-copy-clause-block : goal.returns-then-copy-clause-block
returns-then-copy-clause-block g c =
    let i = c.args.self.now in
    let w = c.copy.ensures.within c.if-copy.true in
    read_held i.buffered.at (512 * c.args.k) (512 * i.size) i.buffered.bytes c.copy.new.into (g.F.RawFile.content i.file) i.sized i.within w.0 w.1
    (c.copy.ensures.copied c.if-copy.true)

pub returns-clause-block : goal.returns-clause-block
returns-clause-block g c =
    let i = c.args.self.now in
    on_ok_weaker c.read_file.result (λ read. read_beside i.buffered.at (512 * c.args.k) (512 * i.size) i.buffered.bytes c.read_file.new.into
    (g.F.RawFile.content i.file) i.sized i.within (omega arith) (c.copy.ensures.outside c.if-copy.false) read)
    c.read_file.ensures.block
