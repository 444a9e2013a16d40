-- The program of a turn is a program of calls.
use Rattle.g_job.specs.Turns.{turn_work}
use Rattle.g_plain.proofs.PlainlyLemmas.{ran_plainly}
use Rattle.g_job.proofs.laws.turns_are_asked_of_a_plain_tree.Goals as goal

pub returns : goal.returns
returns g c = λ j old work new t has r. ran_plainly g.S.Filestore.answers j.user g.S.HoldsTree.holds (λ s u call answer n. g.met.S.HoldsTree.plainly s u j.user call answer n) old (turn_work j) work new t has r
