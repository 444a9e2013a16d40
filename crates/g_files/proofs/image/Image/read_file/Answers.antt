use Rattle.std.proofs.Common.{◌*◌, ◌∙◌}
use Rattle.g_files.proofs.ImageLemmas.{read_ahead}
use Rattle.g_files.proofs.image.Image.read_file.Goals as goal

pub returns-then-copy-clause-block : goal.returns-then-copy-clause-block
returns-then-copy-clause-block g c =
    let i = c.args.self.now in
    let w = c.copy.ensures.within c.if-copy.true in
    read_ahead i.ahead.at (512 * c.args.k) i.ahead.bytes c.copy.new.into (g.F.RawFile.content i.file) i.fresh w.0 w.1 (c.copy.ensures.copied c.if-copy.true)

pub returns-then-copy-2-clause-block : goal.returns-then-copy-2-clause-block
returns-then-copy-2-clause-block g c =
    let i = c.look_ahead.new.self in
    let w = c.copy-2.ensures.within c.if-copy-2.true in λ b is.
    read_ahead i.ahead.at (512 * c.args.k) i.ahead.bytes c.copy-2.new.into (g.F.RawFile.content i.file) i.fresh w.0 w.1
    (c.copy-2.ensures.copied c.if-copy-2.true) b (c.look_ahead.ensures.file ∙ is)
