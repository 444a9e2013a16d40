use Rattle.std.proofs.Common.{◌∙◌, List, ap, length, subst, sym}
use Rattle.std.proofs.lemmas.List.{length-map}
use Rattle.g_base.proofs.FuseLemmas.{unfailed_never}
use Rattle.g_tape.specs.Reel.{Reel}
use Rattle.g_duplex.specs.declared.twin.Standing.{Standing}
use Rattle.g_duplex.specs.Pair.{ArePaired, Pair}
use Rattle.g_duplex.specs.Places.{standing_by}
use Rattle.g_duplex.proofs.duplex.Duplex.new.Goals as goal

pub lost_among-lost-requires : goal.lost_among-lost-requires
lost_among-lost-requires g c =
    ap (λ (ts : List Standing). length ts) c.standings_by-standings.ensures ∙ length-map (g.T.Tapes.rack c.args.first).reels (λ (r : Reel). standing_by r.serial c.args.lost.now)

pub invariant_of-result : goal.invariant_of-result
invariant_of-result g c = record {
  paired = subst (λ (ts : List Standing). ArePaired ts (g.T.Tapes.rack c.args.first).reels (g.T.Tapes.rack c.args.second).reels) (sym c.standings_by-standings.ensures) c.requires;
  told = c.lost_among-lost.ensures;
  fused = unfailed_never 0 c.new-2.result c.new.result c.new-2.ensures c.new.ensures;
}

pub returns : goal.returns
returns g c = λ i.
    let p : Pair = record {
      first = g.T.Tapes.rack c.args.first;
      second = g.T.Tapes.rack c.args.second;
      standings = c.standings_by-standings.ensures i;
      read_faults = 0;
      write_faults = 0;
      fuse = c.new.ensures i;
      arms = c.new-2.ensures i;
    } in p
