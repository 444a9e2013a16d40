-- A rack that loses power.
use Rattle.std.specs.Prelude.{[], map}
use Rattle.g_tape.specs.Rack.{Rack}
use Rattle.g_power.specs.CutReel.{reel_of}
use Rattle.g_power.specs.declared.cut_tapes.CutTapes.{CutTapes}

-- the rack, whose blocks aren't observable
abbrev pub rack_of : CutTapes → Rack
rack_of t = record {
  reels = map reel_of t.reels.items;
  read_faults = t.read_faults;
  write_faults = t.write_faults;
  fuse = t.fuse;
  arms = t.arms;
  risks = [];
}
