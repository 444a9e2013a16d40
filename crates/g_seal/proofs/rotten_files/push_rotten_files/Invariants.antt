use Rattle.g_seal.proofs.VersionLemmas.{VersionLines}
use Rattle.g_seal.proofs.rotten_files.push_rotten_files.Given as goal

abbrev pub invariant-loop-sealed : goal.invariant-loop-sealed
invariant-loop-sealed g l =
    VersionLines (record { rotten = l.sought.rotten.now; twins = l.sought.twins.now }) l.dirs l.sought.files.now l.sealed-index l.fn.text l.text (g.D.Disc.state l.initial.disc) (g.D.Disc.state l.disc) (g.T.Tapes.rack l.initial.tapes) (g.T.Tapes.rack l.tapes)
