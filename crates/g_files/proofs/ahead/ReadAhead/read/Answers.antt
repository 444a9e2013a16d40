use Rattle.std.proofs.Common.{◌*◌}
use Rattle.g_files.proofs.ImageLemmas.{read_ahead}
use Rattle.g_files.proofs.ahead.ReadAhead.read.Goals as goal

pub returns-then-copy-clause-block : goal.returns-then-copy-clause-block
returns-then-copy-clause-block g c =
    let a = c.turn_to-in_order.new.self in
    let w = c.copy.ensures.within c.if-copy.true in
    read_ahead a.blocks.at (512 * c.args.k) a.blocks.bytes c.copy.new.into (g.F.RawFile.content c.args.file.now)
    (λ b is. c.turn_to-in_order.ensures.kept b (λ same. c.requires.fresh same b is)) w.0 w.1 (c.copy.ensures.copied c.if-copy.true)

pub returns-then-copy-2-clause-block : goal.returns-then-copy-2-clause-block
returns-then-copy-2-clause-block g c =
    let a = c.look_ahead.new.self in
    let w = c.copy-then-in_order.ensures.within c.if-copy-2.true in
    read_ahead a.blocks.at (512 * c.args.k) a.blocks.bytes c.copy-then-in_order.new.into (g.F.RawFile.content c.args.file.now)
    c.look_ahead.ensures.fresh w.0 w.1 (c.copy-then-in_order.ensures.copied c.if-copy-2.true)
