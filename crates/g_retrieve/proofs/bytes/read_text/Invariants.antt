use Rattle.g_retrieve.proofs.TextLemmas.{HasText}
use Rattle.g_retrieve.proofs.bytes.read_text.Given as goal

abbrev pub invariant-loop-k : goal.invariant-loop-k
invariant-loop-k g l = HasText l.serial l.first l.k l.len l.bytes.items (g.T.Tapes.rack l.initial.tapes) (g.T.Tapes.rack l.tapes)
