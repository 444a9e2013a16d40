use Rattle.std.proofs.Common.{◌≡◌}
use Rattle.g_files.specs.FileReel.{reel_of}
use Rattle.g_devices.proofs.pair.hold_same.Given as goal

abbrev pub invariant-loop-k : goal.invariant-loop-k
invariant-loop-k l = record {
  reel : (reel_of l.reel).len ≡ (reel_of l.fn.reel).len;
  other : (reel_of l.other).len ≡ (reel_of l.fn.other).len;
}
