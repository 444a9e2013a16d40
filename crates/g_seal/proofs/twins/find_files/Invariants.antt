use Rattle.g_seal.proofs.TwinLemmas.{HasLooked}
use Rattle.g_seal.proofs.twins.find_files.Given as goal

abbrev pub invariant-loop-file : goal.invariant-loop-file
invariant-loop-file g l = HasLooked l.files l.file-index l.fn.twins l.twins (g.T.Tapes.rack l.initial.second) (g.T.Tapes.rack l.second)
