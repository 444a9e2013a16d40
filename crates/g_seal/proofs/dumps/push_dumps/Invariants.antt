use Rattle.g_seal.proofs.LineLemmas.{DumpLines}
use Rattle.g_seal.proofs.dumps.push_dumps.Given as goal

abbrev pub invariant-loop-one : goal.invariant-loop-one
invariant-loop-one g l = DumpLines l.found l.one-index l.fn.text l.text (g.T.Tapes.rack l.initial.tapes) (g.T.Tapes.rack l.tapes)
