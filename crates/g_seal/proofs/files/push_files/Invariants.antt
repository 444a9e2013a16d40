use Rattle.g_seal.proofs.LineLemmas.{FileLines}
use Rattle.g_seal.proofs.files.push_files.Given as goal

abbrev pub invariant-loop-file : goal.invariant-loop-file
invariant-loop-file g l =
    FileLines l.dirs.users.items l.dirs.online.items l.dirs.files.items l.file-index l.fn.text l.text (g.D.Disc.state l.initial.disc) (g.D.Disc.state l.disc) (g.T.Tapes.rack l.initial.tapes) (g.T.Tapes.rack l.tapes)
