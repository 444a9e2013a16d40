-- Each call is one of the plain tree.
use Rattle.g_plain.proofs.PlainlyLemmas.{ran_plainly}
use Rattle.g_plain.proofs.runs.runs_are_plain.Goals as goal

pub returns : goal.returns
returns g c = λ who old p given new t has r. ran_plainly g.S.Filestore.answers who g.S.HoldsTree.holds (λ s u call answer n. g.met.S.HoldsTree.plainly s u who call answer n) old p given new t has r
