use Rattle.std.specs.Prelude.{map}
use Rattle.g_tape.specs.Rack.{AreReels}
use Rattle.g_power.specs.CutReel.{reel_of}
use Rattle.g_power.proofs.cut_tapes.CutTapes.reopened.Given as goal

-- the reels so far are those of a rack
abbrev pub invariant-loop-reel : goal.invariant-loop-reel
invariant-loop-reel l =
    (goal.iterator-loop-reel).can_next l.reel-iterator ×
    (goal.iterator-loop-reel).is_finite l.reel-iterator ×
    AreReels (map reel_of l.left.items)
