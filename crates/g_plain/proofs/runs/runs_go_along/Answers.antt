-- Each call goes along.
use Rattle.g_plain.proofs.AskLemmas.{Ran-along, RanInPart-along}
use Rattle.g_plain.proofs.runs.runs_go_along.Goals as goal

pub returns : goal.returns
returns g c = record {
  whole = λ who old p given new r. Ran-along g.S.Filestore.answers g.T.Filestore.answers g.S.StandsFor.stands g.met.S.StandsFor.along who old p given new r;
  part = λ who old p new r. RanInPart-along g.S.Filestore.answers g.T.Filestore.answers g.S.StandsFor.stands g.met.S.StandsFor.along who old p new r;
}
