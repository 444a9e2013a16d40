use Rattle.std.proofs.Common.{◌<◌, ℕ, ◌∙◌, refl, subst, sym}
use Rattle.g_disc_contents.specs.Facts.{OnlineFacts}
use Rattle.g_process.specs.Progress.{AreReadable, WroteAt}
use Rattle.g_process.proofs.WriteLemmas.{next_free, nothing_written, readable_then, wrote_one}
use Rattle.g_process.proofs.write.write_blocks.Goals as goal

pub loop-k-init : goal.loop-k-init
loop-k-init g c = (refl, nothing_written c.args.job.now.serial c.args.job.now.writer c.args.job.now.versions.items c.args.online.now (g.T.Tapes.rack c.args.tapes.now))

pub write_block-requires-clause-readable : goal.write_block-requires-clause-readable
write_block-requires-clause-readable g c =
    let (same, so) = c.loop-k.invariant in
    subst (λ (o : OnlineFacts). AreReadable c.args.job.now.serial c.args.job.now.writer c.args.job.now.versions.items o (g.T.Tapes.rack c.loop-k.tapes)) (sym same)
    (readable_then c.args.job.now.serial c.args.job.now.writer c.args.job.now.versions.items c.args.online.now (g.T.Tapes.rack c.args.tapes.now) (g.T.Tapes.rack c.loop-k.tapes) so.written so.rack
    c.requires.may.readable)

pub write_block-requires-clause-free : goal.write_block-requires-clause-free
write_block-requires-clause-free g c =
    let (same, so) = c.loop-k.invariant in
    next_free c.args.job.now.serial c.args.job.now.writer c.args.job.now.versions.items c.args.online.now c.loop-k.k (g.T.Tapes.rack c.args.tapes.now) (g.T.Tapes.rack c.loop-k.tapes) c.requires.may so
    (subst (λ (n : ℕ). c.loop-k.k < n) c.needs-k-end.ensures c.loop-k-test.true)

pub loop-k-preserved : goal.loop-k-preserved
loop-k-preserved g c =
    let (same, so) = c.loop-k.invariant in
    let (step, wrote) = c.in-Ok.ensures.writes in (
      step ∙ same,
      wrote_one c.args.job.now.serial c.args.job.now.writer c.args.job.now.versions.items c.args.online.now c.loop-k.k (g.T.Tapes.rack c.args.tapes.now) (g.T.Tapes.rack c.loop-k.tapes)
          (g.T.Tapes.rack c.write_block.new.tapes) c.requires.may.readable so
          (subst (λ (o : OnlineFacts). WroteAt c.args.job.now.serial c.args.job.now.writer c.args.job.now.versions.items o c.loop-k.k (g.T.Tapes.rack c.loop-k.tapes) (g.T.Tapes.rack c.write_block.new.tapes)) same wrote),
    )
