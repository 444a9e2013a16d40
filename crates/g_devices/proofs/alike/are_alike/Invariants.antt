use Rattle.std.proofs.Common.{map, take}
use Rattle.g_duplex.specs.Pair.{ArePaired}
use Rattle.g_duplex.specs.Places.{standings_by}
use Rattle.g_files.specs.FileReel.{reel_of}
use Rattle.g_devices.proofs.alike.are_alike.Given as goal

abbrev pub invariant-loop-i : goal.invariant-loop-i
invariant-loop-i l = ArePaired (standings_by l.lost (take l.i (map reel_of l.reels))) (take l.i (map reel_of l.reels)) (take l.i (map reel_of l.beside))
