use Rattle.std.proofs.Common.{sym, arith}
use Rattle.g_duplex.proofs.PlaceLemmas.{long_standings, standing-first, standing_none}
use Rattle.g_duplex.proofs.duplex.Duplex.standing.Goals as goal

pub get-requires : goal.get-requires
get-requires g c = let first = c.in-Some.ensures in omega (arith, first.within, long_standings _ _ _ c.args.self.now.paired)

pub returns-in-Some : goal.returns-in-Some
returns-in-Some g c = sym (standing-first _ _ _ _ _ c.in-Some.ensures (long_standings _ _ _ c.args.self.now.paired) c.get.ensures)

pub returns-in-None : goal.returns-in-None
returns-in-None g c = sym (standing_none c.args.serial (g.T.Tapes.rack c.args.self.now.first).reels c.args.self.now.standings c.in-None.ensures)
