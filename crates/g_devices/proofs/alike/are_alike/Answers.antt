use Rattle.std.proofs.Common.{◌≡◌, ◌<◌, get_or, length, map, subst, arith, sym, ap, ◌∙◌}
use Rattle.std.proofs.lemmas.List.{get_or-map, length-map}
use Rattle.g_tape.specs.Reel.{Reel}
use Rattle.g_duplex.specs.Twins.{AreTwins}
use Rattle.g_duplex.specs.Places.{standing_by}
use Rattle.g_files.specs.FileReel.{reel_of}
use Rattle.g_devices.proofs.AlikeReels.{paired_more}
use Rattle.g_devices.proofs.alike.are_alike.Goals as goal

pub loop-i-preserved : goal.loop-i-preserved
loop-i-preserved c =
    let reels = map reel_of c.args.reels.now in
    let others = map reel_of c.args.beside.now in
    let i = c.loop-i.i in
    let one = c.index-reels-i.result in
    let two = c.index-beside-i.result in
    let within = c.loop-i-test.true in
    let inside : i < length c.args.beside.now = let same = c.if-reels-beside.false in omega (arith, same, within) in
    let first : get_or reels i (reel_of one) ≡ reel_of one = get_or-map reel_of c.args.reels.now i one (reel_of one) within ∙ sym (ap reel_of c.index-reels-i.is) in
    let second : get_or others i (reel_of two) ≡ reel_of two =
    get_or-map reel_of c.args.beside.now i two (reel_of two) inside ∙ sym (ap reel_of c.index-beside-i.is) in
    paired_more c.args.lost.now reels others i (reel_of one) (reel_of two) (omega (arith, within, length-map c.args.reels.now reel_of))
    (omega (arith, inside, length-map c.args.beside.now reel_of)) c.loop-i.invariant
    (subst (λ (r : Reel). AreTwins (standing_by r.serial c.args.lost.now) r (get_or others i (reel_of two))) (sym first)
    (subst (λ (r : Reel). AreTwins (standing_by (reel_of one).serial c.args.lost.now) (reel_of one) r) (sym second) (c.is_alike.ensures c.if-not-is_alike.false)))
