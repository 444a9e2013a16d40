use Rattle.g_entry.proofs.FieldLemmas.{PairsSo}
use Rattle.g_entry.proofs.take.pairs_of.Given as goal

abbrev pub invariant-loop-pair : goal.invariant-loop-pair
invariant-loop-pair l = PairsSo l.count l.field l._pair l.reader l.pairs.items
