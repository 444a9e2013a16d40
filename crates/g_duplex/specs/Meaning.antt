-- Paired racks, as contracts see them.
use Rattle.g_tape.specs.declared.tapes.Tapes.{Ghosts}
use Rattle.g_duplex.specs.Pair.{Pair}
use Rattle.g_duplex.specs.declared.duplex.Duplex.{Duplex}

-- The pair of two racks, as contracts see it.
abbrev pub pair_of : {T : Type 0} {g : Ghosts T} → Duplex T g → Pair
pair_of {T} {g} d = record {
  first = g.rack d.first;
  second = g.rack d.second;
  standings = d.standings;
  read_faults = d.read_faults;
  write_faults = d.write_faults;
  fuse = d.fuse;
  arms = d.arms;
}
