-- The pair of this serial is made durable, or the rack has no such serial.
use Rattle.std.proofs.Common.{◌∙◌, refl, sym}
use Rattle.g_duplex.specs.Meaning.{pair_of}
use Rattle.g_duplex.proofs.MountLemmas.{none_seen}
use Rattle.g_duplex.proofs.PlaceLemmas.{changed-first, first_within, long_standings, standing-first, standing_none}
use Rattle.g_duplex.proofs.SecureLemmas.{pair_secures_as, pair_secures_none}
use Rattle.g_duplex.proofs.calls.DuplexTapes.secure.Goals as goal

pub returns-in_default : goal.returns-in_default
returns-in_default g c =
    pair_secures_none c.args.serial (pair_of c.args.self.now)
    (none_seen c.args.serial c.args.self.now.standings (g.T.Tapes.rack c.args.self.now.first).reels (g.T.Tapes.rack c.args.self.now.second).reels c.args.self.now.paired c.in_default.ensures).1
    (standing_none c.args.serial (g.T.Tapes.rack c.args.self.now.first).reels c.args.self.now.standings c.in_default.ensures)

pub get-standing-requires : goal.get-standing-requires
get-standing-requires g c = first_within _ _ _ _ _ c.args.self.now.paired c.in-Some.ensures

pub set-requires : goal.set-requires
set-requires g c = first_within _ _ _ _ _ c.args.self.now.paired c.in-Some.ensures

pub lost_among-self-requires : goal.lost_among-self-requires
lost_among-self-requires g c =
    let first = c.in-Some.ensures in
    let long = long_standings c.args.self.now.standings (g.T.Tapes.rack c.args.self.now.first).reels (g.T.Tapes.rack c.args.self.now.second).reels c.args.self.now.paired in
    let stands = standing-first c.args.serial (g.T.Tapes.rack c.args.self.now.first).reels c.args.self.now.standings c.in-Some.place c.get-standing.result first long c.get-standing.ensures in
    let same = c.set.ensures ∙ sym (changed-first c.args.serial (g.T.Tapes.rack c.args.self.now.first).reels c.args.self.now.standings c.in-Some.place c.secure_twins-secured.result.1 first long) in
    let done = pair_secures_as c.args.serial (pair_of c.args.self.now) c.get-standing.result c.secure_twins-secured.result.1 (g.T.Tapes.rack c.secure_twins-secured.new.first)
    (g.T.Tapes.rack c.secure_twins-secured.new.second) c.secure_twins-secured.result.0 c.set.new.self _ c.args.self.now.paired stands c.secure_twins-secured.ensures.secured c.secure_twins-secured.ensures.durable c.secure_twins-secured.ensures.others same refl in
    long_standings c.set.new.self (g.T.Tapes.rack c.secure_twins-secured.new.first).reels (g.T.Tapes.rack c.secure_twins-secured.new.second).reels done.1

pub invariant_of-self-2 : goal.invariant_of-self-2
invariant_of-self-2 g c =
    let first = c.in-Some.ensures in
    let long = long_standings c.args.self.now.standings (g.T.Tapes.rack c.args.self.now.first).reels (g.T.Tapes.rack c.args.self.now.second).reels c.args.self.now.paired in
    let stands = standing-first c.args.serial (g.T.Tapes.rack c.args.self.now.first).reels c.args.self.now.standings c.in-Some.place c.get-standing.result first long c.get-standing.ensures in
    let same = c.set.ensures ∙ sym (changed-first c.args.serial (g.T.Tapes.rack c.args.self.now.first).reels c.args.self.now.standings c.in-Some.place c.secure_twins-secured.result.1 first long) in
    let done = pair_secures_as c.args.serial (pair_of c.args.self.now) c.get-standing.result c.secure_twins-secured.result.1 (g.T.Tapes.rack c.secure_twins-secured.new.first)
    (g.T.Tapes.rack c.secure_twins-secured.new.second) c.secure_twins-secured.result.0 c.set.new.self c.counted-self.result c.args.self.now.paired stands c.secure_twins-secured.ensures.secured c.secure_twins-secured.ensures.durable c.secure_twins-secured.ensures.others same
    c.counted-self.ensures in
    record { paired = done.1; told = c.lost_among-self.ensures; fused = c.args.self.now.fused }

pub returns : goal.returns
returns g c =
    let first = c.in-Some.ensures in
    let long = long_standings c.args.self.now.standings (g.T.Tapes.rack c.args.self.now.first).reels (g.T.Tapes.rack c.args.self.now.second).reels c.args.self.now.paired in
    let stands = standing-first c.args.serial (g.T.Tapes.rack c.args.self.now.first).reels c.args.self.now.standings c.in-Some.place c.get-standing.result first long c.get-standing.ensures in
    let same = c.set.ensures ∙ sym (changed-first c.args.serial (g.T.Tapes.rack c.args.self.now.first).reels c.args.self.now.standings c.in-Some.place c.secure_twins-secured.result.1 first long) in
    (pair_secures_as c.args.serial (pair_of c.args.self.now) c.get-standing.result c.secure_twins-secured.result.1 (g.T.Tapes.rack c.secure_twins-secured.new.first)
    (g.T.Tapes.rack c.secure_twins-secured.new.second) c.secure_twins-secured.result.0 c.set.new.self c.counted-self.result c.args.self.now.paired stands c.secure_twins-secured.ensures.secured c.secure_twins-secured.ensures.durable c.secure_twins-secured.ensures.others same
    c.counted-self.ensures).0
