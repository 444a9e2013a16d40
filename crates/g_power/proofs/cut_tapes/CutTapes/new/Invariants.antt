use Rattle.std.specs.Prelude.{map}
use Rattle.g_tape.specs.Rack.{AreReels}
use Rattle.g_power.specs.CutReel.{reel_of}
use Rattle.g_power.proofs.cut_tapes.CutTapes.new.Given as goal

-- the reels so far are those of a rack
abbrev pub invariant-loop-serial : goal.invariant-loop-serial
invariant-loop-serial l = AreReels (map reel_of l.reels.items)
