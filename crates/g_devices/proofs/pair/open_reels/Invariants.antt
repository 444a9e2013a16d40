use Rattle.std.specs.Prelude.{map}
use Rattle.g_files.specs.FileReel.{reel_of}
use Rattle.g_tape.specs.Rack.{AreReels}
use Rattle.g_devices.proofs.pair.open_reels.Given as goal

abbrev pub invariant-loop-serial : goal.invariant-loop-serial
invariant-loop-serial l =
    (goal.iterator-loop-serial).can_next l.serial-iterator ×
    (goal.iterator-loop-serial).is_finite l.serial-iterator ×
    AreReels (map reel_of l.reels.items) × AreReels (map reel_of l.beside.items)
