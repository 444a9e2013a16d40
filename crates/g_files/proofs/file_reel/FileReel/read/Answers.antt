use Rattle.std.proofs.lemmas.Result.{on_ok_weaker}
use Rattle.g_files.proofs.FileReelLemmas.{block_read}
use Rattle.g_files.proofs.file_reel.FileReel.read.Goals as goal

pub returns-clause-block : goal.returns-clause-block
returns-clause-block g c =
    let blocks = c.args.self.now.blocks in
    on_ok_weaker c.read.result (λ told. block_read blocks.len c.args.k c.read.new.into (g.F.RawFile.content blocks.file) c.requires.within told)
    c.read.ensures.block
