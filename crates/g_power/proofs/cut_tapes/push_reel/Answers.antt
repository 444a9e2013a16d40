use Rattle.std.proofs.Common.{rules, arith, ◌≡◌, ◌<◌, [], ◌∷◌, ◌++◌, length, map, subst, sym}
use Rattle.std.specs.Prelude.{All}
use Rattle.g_power.specs.CutReel.{reel_of}
use Rattle.g_files.proofs.FileRackLemmas.{reels_push}
use Rattle.g_power.proofs.ReelLemmas.{is_reel}
use Rattle.g_tape.specs.Rack.{AreReels}
use Rattle.g_power.proofs.cut_tapes.push_reel.Goals as goal

pub returns : goal.returns
returns c =
    let room : length c.args.reels.now.items < 16 = search (rules, arith) in
    let above : All (λ other. (reel_of other).serial < (reel_of c.args.reel).serial) c.args.reels.now.items = search (rules, arith) in
    let items : c.push.new.self.items ≡ c.args.reels.now.items ++ c.args.reel ∷ [] = search (rules, arith) in
    record { rack = subst (λ xs. AreReels (map reel_of xs)) (sym items) (reels_push reel_of c.args.reels.now.items c.args.reel c.requires.rack room (is_reel c.args.reel) above) }
