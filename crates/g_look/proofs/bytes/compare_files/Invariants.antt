use Rattle.g_look.proofs.bytes.compare_files.Given as goal
use Rattle.g_look.proofs.ReadLemmas.{ComparedSoFar, AreReadUpto}

abbrev pub invariant-loop-file : goal.invariant-loop-file
invariant-loop-file g l =
    ComparedSoFar (g.D.Disc.state l.initial.disc) (g.D.Disc.state l.disc) (g.T.Tapes.rack l.initial.tapes) (g.T.Tapes.rack l.tapes) l.dirs.online.items l.dumped l.dirs.files.items l.file-index
    × AreReadUpto (g.T.Tapes.rack l.initial.tapes) (g.T.Tapes.rack l.tapes) l.dumped l.dirs.files.items l.file-index
