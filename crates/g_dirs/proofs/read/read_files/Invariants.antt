use Rattle.g_dirs.proofs.ReadLemmas.{FilesRead}
use Rattle.g_dirs.proofs.read.read_files.Given as goal

abbrev pub invariant-loop-number : goal.invariant-loop-number
invariant-loop-number g l = FilesRead l.format l.number l.files.items l.online.items (g.D.Disc.state l.initial.disc) (g.D.Disc.state l.disc)
