use Rattle.g_look.specs.Looks.{ReadsRackByCause}
use Rattle.g_look.proofs.bytes.read_others.Given as goal
use Rattle.g_look.proofs.ReadLemmas.{OthersUpto}

abbrev pub invariant-loop-of : goal.invariant-loop-of
invariant-loop-of g l =
    ReadsRackByCause ⊥ (g.T.Tapes.rack l.initial.tapes) (g.T.Tapes.rack l.tapes) × OthersUpto (g.T.Tapes.rack l.initial.tapes) (g.T.Tapes.rack l.tapes) l.files l.dumped l.of-index
