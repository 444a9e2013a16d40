-- What a failing write of a rack in memory leaves, for each setting.
use Rattle.std.specs.Prelude.{ℕ, List, ◌++◌, take, replicate}
use Rattle.g_tape.specs.declared.leave.TapeLeave.{TapeLeave}
use Rattle.g_tape.specs.declared.leave.TapeLeave.TheVariants.{Old, Cut, Half, Whole, These}
use Rattle.g_tape.specs.Reel.{Remains, Unchanged, Shortened, Torn}

-- What a failing write of this block leaves of its reel.
abbrev pub remains_of : TapeLeave → List ℕ → Remains
remains_of Old block = Unchanged
remains_of Cut block = Shortened
remains_of Half block = Torn (take 256 block ++ replicate 256 0)
remains_of Whole block = Torn block
remains_of (These bytes) block = Torn bytes
