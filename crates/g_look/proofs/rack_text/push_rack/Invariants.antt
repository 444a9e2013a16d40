use Rattle.std.proofs.Common.{◌≡◌, ◌++◌, ℕ, List, take}
use Rattle.g_incr.specs.Layout.{Dump}
use Rattle.g_lines.specs.Lines.{text_of}
use Rattle.g_store_meaning.specs.Meaning.{told_reels}
use Rattle.g_look.specs.SeenDumps.{IsSeen}
use Rattle.g_look.specs.Text.{rack_lines}
use Rattle.g_look.proofs.rack_text.push_rack.Given as goal

abbrev pub invariant-loop-i : goal.invariant-loop-i
invariant-loop-i g l = (shelf : ℕ → List Dump) → IsSeen (told_reels (g.T.Tapes.rack l.tapes)) shelf l.found
    → l.text ≡ l.fn.text ++ text_of (rack_lines shelf (take l.i (told_reels (g.T.Tapes.rack l.tapes))))
