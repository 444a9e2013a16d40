-- A reel that loses power.
use Rattle.std.specs.Prelude.{None}
use Rattle.g_tape.specs.Reel.{Reel}
use Rattle.g_power.specs.declared.cut_reel.CutReel.{CutReel}

-- the reel, whose blocks aren't observable
abbrev pub reel_of : CutReel → Reel
reel_of r = record r.state { blocks = None; times_read = None }
