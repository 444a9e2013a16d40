use Rattle.std.proofs.Common.{◌∙◌, refl, sym}
use Rattle.g_tape.proofs.FuseLemmas.{fused_then}
use Rattle.g_duplex.specs.Meaning.{pair_of}
use Rattle.g_duplex.specs.Pair.{shown}
use Rattle.g_duplex.proofs.MountLemmas.{none_seen}
use Rattle.g_duplex.proofs.PlaceLemmas.{changed-first, long_standings, standing-first, first_within}
use Rattle.g_duplex.proofs.WriteLemmas.{pair_writes_as, pair_writes_none}
use Rattle.g_duplex.proofs.calls.DuplexTapes.write.Goals as goal

pub returns-in_default : goal.returns-in_default
returns-in_default g c =
    pair_writes_none c.args.serial c.args.k c.args.from.now (pair_of c.args.self.now)
    (none_seen c.args.serial c.args.self.now.standings (g.T.Tapes.rack c.args.self.now.first).reels (g.T.Tapes.rack c.args.self.now.second).reels c.args.self.now.paired c.in_default.ensures).1

pub invariant_of-self : goal.invariant_of-self
invariant_of-self g c = record { paired = c.args.self.now.paired; told = c.args.self.now.told; fused = c.args.self.now.fused }

pub get-standing-requires : goal.get-standing-requires
get-standing-requires g c = first_within _ _ _ _ _ c.args.self.now.paired c.in-Some.ensures

pub set-requires : goal.set-requires
set-requires g c = first_within _ _ _ _ _ c.args.self.now.paired c.in-Some.ensures

pub lost_among-self-requires : goal.lost_among-self-requires
lost_among-self-requires g c =
    let first = c.in-Some.ensures in
    let long = long_standings c.args.self.now.standings (g.T.Tapes.rack c.args.self.now.first).reels (g.T.Tapes.rack c.args.self.now.second).reels c.args.self.now.paired in
    let stands = standing-first c.args.serial (g.T.Tapes.rack c.args.self.now.first).reels c.args.self.now.standings c.in-Some.place c.get-standing.result first long c.get-standing.ensures in
    let same = c.set.ensures ∙ sym (changed-first c.args.serial (g.T.Tapes.rack c.args.self.now.first).reels c.args.self.now.standings c.in-Some.place c.write_twins-answer.result.1 first long) in
    let done = pair_writes_as c.args.serial c.args.k c.args.from.now (pair_of c.args.self.now) c.get-standing.result (g.T.Tapes.rack c.write_twins-answer.new.first) (g.T.Tapes.rack c.write_twins-answer.new.second)
    c.write_twins-answer.result.0 c.write_twins-answer.result.1 c.burn-fires.result c.set.new.self _ c.burn-fires.new.self (g.met.T.Tapes.well_formed c.args.self.now.first)
    (g.met.T.Tapes.well_formed c.args.self.now.second) c.args.self.now.paired stands (sym c.refuses_write.ensures ∙ c.in_default-refuses_write.is) c.burn-fires.ensures.fires c.write_twins-answer.ensures.written
    c.write_twins-answer.ensures.durable c.write_twins-answer.ensures.others
    same refl c.burn-fires.ensures.left in
    long_standings c.set.new.self (g.T.Tapes.rack c.write_twins-answer.new.first).reels (g.T.Tapes.rack c.write_twins-answer.new.second).reels done.1

pub invariant_of-self-2 : goal.invariant_of-self-2
invariant_of-self-2 g c =
    let first = c.in-Some.ensures in
    let long = long_standings c.args.self.now.standings (g.T.Tapes.rack c.args.self.now.first).reels (g.T.Tapes.rack c.args.self.now.second).reels c.args.self.now.paired in
    let stands = standing-first c.args.serial (g.T.Tapes.rack c.args.self.now.first).reels c.args.self.now.standings c.in-Some.place c.get-standing.result first long c.get-standing.ensures in
    let same = c.set.ensures ∙ sym (changed-first c.args.serial (g.T.Tapes.rack c.args.self.now.first).reels c.args.self.now.standings c.in-Some.place c.write_twins-answer.result.1 first long) in
    let done = pair_writes_as c.args.serial c.args.k c.args.from.now (pair_of c.args.self.now) c.get-standing.result (g.T.Tapes.rack c.write_twins-answer.new.first) (g.T.Tapes.rack c.write_twins-answer.new.second)
    c.write_twins-answer.result.0 c.write_twins-answer.result.1 c.burn-fires.result c.set.new.self c.counted-self.result c.burn-fires.new.self (g.met.T.Tapes.well_formed c.args.self.now.first)
    (g.met.T.Tapes.well_formed c.args.self.now.second) c.args.self.now.paired stands (sym c.refuses_write.ensures ∙ c.in_default-refuses_write.is) c.burn-fires.ensures.fires c.write_twins-answer.ensures.written
    c.write_twins-answer.ensures.durable c.write_twins-answer.ensures.others
    same c.counted-self.ensures c.burn-fires.ensures.left in
    record {
      paired = done.1;
      told = c.lost_among-self.ensures;
      fused = fused_then c.args.serial c.args.k c.args.from.now (shown (pair_of c.args.self.now)) c.write_twins-answer.result.0 _ done.0.writing c.args.self.now.fused;
    }

pub returns : goal.returns
returns g c =
    let first = c.in-Some.ensures in
    let long = long_standings c.args.self.now.standings (g.T.Tapes.rack c.args.self.now.first).reels (g.T.Tapes.rack c.args.self.now.second).reels c.args.self.now.paired in
    let stands = standing-first c.args.serial (g.T.Tapes.rack c.args.self.now.first).reels c.args.self.now.standings c.in-Some.place c.get-standing.result first long c.get-standing.ensures in
    let same = c.set.ensures ∙ sym (changed-first c.args.serial (g.T.Tapes.rack c.args.self.now.first).reels c.args.self.now.standings c.in-Some.place c.write_twins-answer.result.1 first long) in
    (pair_writes_as c.args.serial c.args.k c.args.from.now (pair_of c.args.self.now) c.get-standing.result (g.T.Tapes.rack c.write_twins-answer.new.first) (g.T.Tapes.rack c.write_twins-answer.new.second)
    c.write_twins-answer.result.0 c.write_twins-answer.result.1 c.burn-fires.result c.set.new.self c.counted-self.result c.burn-fires.new.self (g.met.T.Tapes.well_formed c.args.self.now.first)
    (g.met.T.Tapes.well_formed c.args.self.now.second) c.args.self.now.paired stands (sym c.refuses_write.ensures ∙ c.in_default-refuses_write.is) c.burn-fires.ensures.fires c.write_twins-answer.ensures.written
    c.write_twins-answer.ensures.durable c.write_twins-answer.ensures.others
    same c.counted-self.ensures c.burn-fires.ensures.left).0
