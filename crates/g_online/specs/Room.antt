-- What is in use fits on the disc, so the count of free copy blocks never falls below zero.
use Rattle.std.specs.Prelude.{◌+◌, ◌-◌, ◌≤◌}
use Rattle.g_disc_contents.specs.Facts.{OnlineFacts, online_blocks, pinned_blocks}

-- The blocks of files and of pinned versions aren't more than the disc's copy blocks.
abbrev pub FitsDisc : OnlineFacts → Type 0
FitsDisc o = online_blocks o.contents.files + pinned_blocks o.pins o.contents.files ≤ o.disc.size - 2177
