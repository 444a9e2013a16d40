use Rattle.g_process.proofs.SourceLemmas.{failed_at}
use Rattle.g_process.proofs.write.write_block.Goals as goal

pub returns-in-Err-write-clause-writes : goal.returns-in-Err-write-clause-writes
returns-in-Err-write-clause-writes g c =
    let (same, is, only, kept) = c.in-Ok.ensures.fills in (
      same,
      failed_at c.args.job.now.serial c.args.job.now.writer c.args.job.now.versions.items c.args.online.now c.args.k c.fill.new.into (g.T.Tapes.rack c.args.tapes.now) (g.T.Tapes.rack c.fill.new.tapes) (g.T.Tapes.rack c.write.new.self) c.in-Err-write.field-0
          is c.requires.free only kept c.in-Err-write.ensures.written c.in-Err-write.ensures.durable,
    )
