-- Held blocks: those that are content of completed dumps.
use Rattle.std.specs.Prelude.{◌≡◌, ℕ, ◌+◌, ◌<◌, ◌≤◌, List, length, Contains}
use Rattle.g_entry.specs.declared.file_rec.TapeCopy.{TapeCopy}
use Rattle.g_incr.specs.Layout.{Dump, content_at}
use Rattle.g_shelf.specs.CompletedDumps.{AreCompleted}

-- Block k of the reel is content of one of the dumps.
pub record IsContentBlock (dumps : List Dump) (serial k : ℕ) : Type 0 where
  pub dump : Dump
  pub there : Contains dumps dump
  pub on : dump.serial ≡ serial
  pub from : content_at dump ≤ k
  pub to : k < content_at dump + length dump.content

-- Each of the blocks of a copy is held, where the copy has that many blocks.
abbrev pub AreHeld : List Dump → TapeCopy → ℕ → Type 0
AreHeld dumps copy blocks = (k : ℕ) → k < blocks → IsContentBlock dumps copy.serial (copy.first + k)

-- All blocks of the copy are content of one dump.
pub record AreInOne (dumps : List Dump) (copy : TapeCopy) (blocks : ℕ) : Type 0 where
  pub dump : Dump
  pub there : Contains dumps dump
  pub on : dump.serial ≡ copy.serial
  pub from : content_at dump ≤ copy.first
  pub to : copy.first + blocks ≤ content_at dump + length dump.content

-- Held blocks that are consecutive lie in one dump, since there is a mark between the content of two dumps.
abbrev pub HeldInOne : Type 0
HeldInOne = (serial : ℕ) (reel : List (List ℕ)) (dumps : List Dump) (copy : TapeCopy) (blocks : ℕ)
    → AreCompleted serial reel dumps → 0 < blocks → AreHeld dumps copy blocks → AreInOne dumps copy blocks
