-- From the reader's state on, the rest of the parameters goes wrong where all of them do.
use Rattle.std.proofs.Common.{◌+◌, ◌≡◌, ◌≤◌, drop}
use Rattle.g_lang.specs.LineReader.{Params, wrong_from}
use Rattle.g_lang.proofs.reader.wrong_in_params.Given as goal

abbrev pub invariant-loop-at : goal.invariant-loop-at
invariant-loop-at l = record {
  same : wrong_from (Params 0) l.from l.params ≡ wrong_from (Params l.depth) (l.from + l.at) (drop l.at l.params);
  deep : l.depth ≤ l.at;
}
