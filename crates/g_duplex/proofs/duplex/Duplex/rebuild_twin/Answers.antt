use Rattle.std.proofs.Common.{◌∙◌, ap, sym}
use Rattle.std.proofs.Math.ListN.{set}
use Rattle.g_duplex.specs.declared.twin.Standing.{Standing}
use Rattle.g_duplex.specs.Meaning.{pair_of}
use Rattle.g_duplex.specs.Rebuild.{stands_rebuilt}
use Rattle.g_duplex.proofs.PlaceLemmas.{changed-first, long_standings, first_within}
use Rattle.g_duplex.proofs.RebuildLemmas.{pair_rebuilds_as, same_room}
use Rattle.g_duplex.proofs.duplex.Duplex.rebuild_twin.Goals as goal

pub invariant_of-self : goal.invariant_of-self
invariant_of-self g c = record { paired = c.args.self.now.paired; told = c.args.self.now.told; fused = c.args.self.now.fused }

pub copy_twin-answer-requires-clause-room : goal.copy_twin-answer-requires-clause-room
copy_twin-answer-requires-clause-room g c =
    same_room c.args.serial c.args.self.now.standings (g.T.Tapes.rack c.args.self.now.first).reels (g.T.Tapes.rack c.args.self.now.second).reels c.args.self.now.paired

pub set-requires : goal.set-requires
set-requires g c = first_within _ _ _ _ _ c.args.self.now.paired c.in-Some.ensures

pub lost_among-self-requires : goal.lost_among-self-requires
lost_among-self-requires g c =
    let first = c.in-Some.ensures in
    let long = long_standings c.args.self.now.standings (g.T.Tapes.rack c.args.self.now.first).reels (g.T.Tapes.rack c.args.self.now.second).reels c.args.self.now.paired in
    let same = c.set.ensures ∙ ap (λ (u : Standing). set c.args.self.now.standings c.in-Some.place u) c.stands_rebuilt.ensures
    ∙ sym (changed-first c.args.serial (g.T.Tapes.rack c.args.self.now.first).reels c.args.self.now.standings c.in-Some.place (stands_rebuilt c.args.twin c.copy_twin-answer.result) first long) in
    let done = pair_rebuilds_as c.args.serial c.args.twin (pair_of c.args.self.now) (g.T.Tapes.rack c.copy_twin-answer.new.first) (g.T.Tapes.rack c.copy_twin-answer.new.second) c.copy_twin-answer.result c.set.new.self
    c.args.self.now.paired (sym c.refuses_rebuild.ensures ∙ c.in_default-refuses_rebuild.is) c.copy_twin-answer.ensures same in
    long_standings c.set.new.self (g.T.Tapes.rack c.copy_twin-answer.new.first).reels (g.T.Tapes.rack c.copy_twin-answer.new.second).reels done.1

pub invariant_of-self-2 : goal.invariant_of-self-2
invariant_of-self-2 g c =
    let first = c.in-Some.ensures in
    let long = long_standings c.args.self.now.standings (g.T.Tapes.rack c.args.self.now.first).reels (g.T.Tapes.rack c.args.self.now.second).reels c.args.self.now.paired in
    let same = c.set.ensures ∙ ap (λ (u : Standing). set c.args.self.now.standings c.in-Some.place u) c.stands_rebuilt.ensures
    ∙ sym (changed-first c.args.serial (g.T.Tapes.rack c.args.self.now.first).reels c.args.self.now.standings c.in-Some.place (stands_rebuilt c.args.twin c.copy_twin-answer.result) first long) in
    let done = pair_rebuilds_as c.args.serial c.args.twin (pair_of c.args.self.now) (g.T.Tapes.rack c.copy_twin-answer.new.first) (g.T.Tapes.rack c.copy_twin-answer.new.second) c.copy_twin-answer.result c.set.new.self
    c.args.self.now.paired (sym c.refuses_rebuild.ensures ∙ c.in_default-refuses_rebuild.is) c.copy_twin-answer.ensures same in
    record { paired = done.1; told = c.lost_among-self.ensures; fused = c.args.self.now.fused }

pub returns : goal.returns
returns g c =
    let first = c.in-Some.ensures in
    let long = long_standings c.args.self.now.standings (g.T.Tapes.rack c.args.self.now.first).reels (g.T.Tapes.rack c.args.self.now.second).reels c.args.self.now.paired in
    let same = c.set.ensures ∙ ap (λ (u : Standing). set c.args.self.now.standings c.in-Some.place u) c.stands_rebuilt.ensures
    ∙ sym (changed-first c.args.serial (g.T.Tapes.rack c.args.self.now.first).reels c.args.self.now.standings c.in-Some.place (stands_rebuilt c.args.twin c.copy_twin-answer.result) first long) in
    (pair_rebuilds_as c.args.serial c.args.twin (pair_of c.args.self.now) (g.T.Tapes.rack c.copy_twin-answer.new.first) (g.T.Tapes.rack c.copy_twin-answer.new.second) c.copy_twin-answer.result c.set.new.self
    c.args.self.now.paired (sym c.refuses_rebuild.ensures ∙ c.in_default-refuses_rebuild.is) c.copy_twin-answer.ensures same).0
