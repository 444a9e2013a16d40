use Rattle.std.proofs.Common.{arith, refl}
use Rattle.g_process.proofs.SourceLemmas.{filled_in, version_at, version_is}
use Rattle.g_process.proofs.WriteLemmas.{element_below}
use Rattle.g_process.proofs.write.fill.Goals as goal

pub index-requires : goal.index-requires
index-requires g c =
    let found = version_at c.args.job.now.serial c.args.job.now.writer c.args.job.now.versions.items c.args.online.now (g.T.Tapes.rack c.args.tapes.now) c.args.k c.in-Content.version c.in-Content.part
    c.requires.readable (c.in-Content.ensures.content _ _ refl) in
    let below = element_below c.args.job.now.versions.items c.in-Content.version found.0 found.1 in
    let long = c.args.job.now.versions.ok.0 in
    omega (arith, below, long)

pub read_source-requires-clause-readable : goal.read_source-requires-clause-readable
read_source-requires-clause-readable g c =
    let found = version_is c.args.job.now.serial c.args.job.now.writer c.args.job.now.versions.items c.args.online.now (g.T.Tapes.rack c.args.tapes.now) c.args.k c.in-Content.version c.in-Content.part
    c.index.result.now c.requires.readable (c.in-Content.ensures.content _ _ refl) c.index.ensures in
    (c.args.job.now.serial, found.2)

pub read_source-requires-clause-within : goal.read_source-requires-clause-within
read_source-requires-clause-within g c =
    let found = version_is c.args.job.now.serial c.args.job.now.writer c.args.job.now.versions.items c.args.online.now (g.T.Tapes.rack c.args.tapes.now) c.args.k c.in-Content.version c.in-Content.part
    c.index.result.now c.requires.readable (c.in-Content.ensures.content _ _ refl) c.index.ensures in
    found.1

pub returns-in-Content-clause-fills : goal.returns-in-Content-clause-fills
returns-in-Content-clause-fills g c =
    filled_in c.args.job.now.serial c.args.job.now.writer c.args.job.now.versions.items c.args.online.now (g.T.Tapes.rack c.args.tapes.now) c.args.k c.in-Content.version c.in-Content.part
    c.index.result.now c.read_source.result c.read_source.new.into c.read_source.new.online (g.T.Tapes.rack c.read_source.new.tapes) c.requires.readable (c.in-Content.ensures.content _ _ refl)
    c.index.ensures c.read_source.ensures.read
