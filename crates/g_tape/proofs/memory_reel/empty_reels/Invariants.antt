use Rattle.std.proofs.Common.{◌≡◌, map, take}
use Rattle.g_tape.specs.Reel.{empty_reel_of}
use Rattle.g_tape.proofs.memory_reel.empty_reels.Given as goal

abbrev pub invariant-loop-label : goal.invariant-loop-label
invariant-loop-label l = l.reels.items ≡ map empty_reel_of (take l.label-index l.labels)
