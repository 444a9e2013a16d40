-- The answers of a run are read off it.
use Rattle.g_plain.proofs.RanByLemmas.{ran_of, ran_by}
use Rattle.g_plain.proofs.runs.runs_have_answers.Goals as goal

pub returns : goal.returns
returns g c = record {
  some = λ who p old given new r. ran_by g.S.Filestore.answers who p old given new r;
  ran = λ who p told old given new r. ran_of g.S.Filestore.answers who p told old given new r;
}
