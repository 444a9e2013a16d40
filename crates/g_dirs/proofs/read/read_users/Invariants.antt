use Rattle.g_dirs.proofs.ReadLemmas.{UsersRead}
use Rattle.g_dirs.proofs.read.read_users.Given as goal

abbrev pub invariant-loop-number : goal.invariant-loop-number
invariant-loop-number g l = UsersRead l.format l.number l.users.items (g.D.Disc.state l.initial.disc) (g.D.Disc.state l.disc)
