use Rattle.std.proofs.Common.{◌≡◌}
use Rattle.g_process.specs.Progress.{HasWritten}
use Rattle.g_process.proofs.write.write_blocks.Given as goal

abbrev pub invariant-loop-k : goal.invariant-loop-k
invariant-loop-k g l =
    (l.online ≡ l.initial.online)
    × HasWritten l.job.serial l.job.writer l.job.versions.items l.initial.online l.k (g.T.Tapes.rack l.initial.tapes) (g.T.Tapes.rack l.tapes)
