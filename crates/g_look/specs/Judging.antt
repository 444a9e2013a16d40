-- A DISC NEXT TO A RACK without a broken rule.
use Rattle.std.specs.Prelude.{◌≡◌, ℕ, ◌≤◌, List, Option, Some, None}
use Rattle.g_entry.specs.declared.file_rec.FileRec.{FileRec}
use Rattle.g_tape.specs.Reel.{Reel}
use Rattle.g_dirs.specs.declared.dirs.Dirs.{Dirs}
use Rattle.g_disc_contents.specs.Contents.{Contents, contents_of}
use Rattle.g_incr.specs.Layout.{Dump}
use Rattle.g_shelf.specs.CompletedDumps.{all_dumps}
use Rattle.g_restore.specs.declared.dumps.Found.{Found}
use Rattle.g_look.specs.declared.broken.Broken.{Broken}
use Rattle.g_look.specs.Rules.{BreaksDisc, DiscFits, rule_of}
use Rattle.g_look.specs.SeenDumps.{IsRackPassed, IsSeen}
use Rattle.g_look.specs.Standing.{directory_in}

-- This is the first rule of the disc that is broken.
pub record IsFirstOfDisc (shelf : ℕ → List Dump) (reels : List Reel) (c : Contents) (b : Broken) : Type 0 where
  pub breaks : BreaksDisc shelf reels c b
  pub first : (e : Broken) → BreaksDisc shelf reels c e → rule_of b ≤ rule_of e

-- This is the first rule of the disc that is broken, or none is.
abbrev pub IsJudgedOn : (ℕ → List Dump) → List Reel → Contents → Option Broken → Type 0
IsJudgedOn shelf reels c None = DiscFits shelf reels c
IsJudgedOn shelf reels c (Some b) = IsFirstOfDisc shelf reels c b

-- The verdict on a disc is right, next to a rack that breaks no rule.
abbrev pub IsDiscJudged : Option (List (List ℕ)) → List Reel → List Found → Dirs → List FileRec → Option Broken → Type 0
IsDiscJudged held reels found dirs dumped verdict = (shelf : ℕ → List Dump) (blocks : List (List ℕ)) → IsSeen reels shelf found
    → IsRackPassed (all_dumps shelf reels) dumped → held ≡ Some blocks → IsJudgedOn shelf reels (contents_of (Some blocks) (directory_in dirs)) verdict
