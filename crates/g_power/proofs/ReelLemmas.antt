-- A reel that loses power is a reel.
-- serves: mount, push_reel, read, secure, unmount, write
use Rattle.std.proofs.lemmas.Option.{none-some}
use Rattle.g_tape.specs.Reel.{IsReel}
use Rattle.g_power.specs.CutReel.{reel_of}
use Rattle.g_power.specs.declared.cut_reel.CutReel.{CutReel}

pub is_reel : (r : CutReel) → IsReel (reel_of r)
is_reel r = record {
  numbered = r.label.numbered;
  numbered_most = r.label.numbered_most;
  sized = r.label.sized;
  sized_most = r.label.sized_most;
  within = r.within;
  told = λ bs is. absurd (none-some bs is);
  whole = λ bs is. absurd (none-some bs is);
  counted = λ ts is. absurd (none-some ts is);
}
