-- The end of a check against a seal with a second rack, by the blocks of both racks.
use Rattle.std.specs.Prelude.{◌≡◌, ◌⊎◌, ◌↔◌, ℕ, List, [], ◌∷◌, ◌++◌, Option, Bool, IsTrue}
use Rattle.g_lines.specs.Lines.{text_of}
use Rattle.g_store_meaning.specs.Meaning.{told_reels}
use Rattle.g_tape.specs.Rack.{Rack}
use Rattle.g_look.specs.declared.broken.Broken.{Broken}
use Rattle.g_look.specs.Text.{IsChecked}
use Rattle.g_seal.specs.declared.entries.SealedDump.{SealedDump}
use Rattle.g_seal.specs.declared.entries.SealedFile.{SealedFile}
use Rattle.g_seal.specs.declared.twins.Twins.{Twins}
use Rattle.g_seal.specs.Rotten.{AreTwins, IsReport, twin_lines}
use Rattle.g_twins.specs.Twins.{twin_text}
use Rattle.g_look_program.specs.declared.status.Status.{Status}
use Rattle.g_look_program.specs.declared.status.Status.TheVariants as status
use Rattle.g_look_program.specs.Telling.{HoldsOne, IsReadLine, IsWhole, Puts, Written, verdict}

-- The parts of what is printed: the text of a check, the report on the first rack, the lines of reels that differ, and those of sealed dumps that are
-- rotten in the second rack. With them the verdict of the check, and whether the disc holds a filestore.
pub record Parts : Type 0 where
  pub broken : Option Broken
  pub missing : Option ℕ
  pub filestore : Bool
  pub check : List ℕ
  pub report : List ℕ
  pub twins : List ℕ
  pub rotten : List ℕ

-- THE PARTS for a disc and two racks that expose their blocks, and a seal with these dumps and files. The report names the copies of files that the second
-- rack has.
pub record AreParts (size : ℕ) (held : Option (List (List ℕ))) (first second : Rack) (dumps : List SealedDump) (files : List SealedFile) (p : Parts) : Type 0 where
  pub checked : IsChecked size held (told_reels first) p.broken p.missing p.check
  pub holds : IsTrue p.filestore ↔ HoldsOne held
  pub found : Twins
  pub found_is : AreTwins (told_reels second) dumps files found
  pub reported : IsReport held (told_reels first) found dumps files p.report
  pub twins_are : p.twins ≡ twin_text first second
  pub rotten_is : p.rotten ≡ text_of (twin_lines found)

-- What is printed after the text of the check.
abbrev pub added : Parts → List ℕ
added p = p.report ++ p.twins ++ p.rotten

-- The status of a check after which this is printed.
abbrev pub status_with : List ℕ → Status → Status
status_with [] so_far = so_far
status_with (byte ∷ more) so_far = status.No

-- THE WHOLE TEXT IS PRINTED. The status is No if anything follows the text of the check, and otherwise that of the check.
abbrev pub IsPrinted : Parts → Status → Written → Type 0
IsPrinted p ended w = Puts (status_with (added p) (verdict p.broken p.missing p.filestore)) (p.check ++ added p) ended w

-- What was printed before a failure: nothing, or the first parts.
abbrev pub IsBegun : (Parts → Type 0) → List ℕ → Type 0
IsBegun Are text = (text ≡ []) ⊎ ((p : Parts) × Are p × ((text ≡ p.check ++ p.report) ⊎ (text ≡ p.check ++ p.report ++ p.twins)))

-- A device couldn't be read, or memory ran out.
abbrev pub IsBrokenOff : List ℕ → Status → Written → Type 0
IsBrokenOff begun ended w = ((line : List ℕ) × IsReadLine line × Puts status.Unread (begun ++ line) ended w) ⊎ ((ended ≡ status.NoMemory) × IsWhole begun w)

-- THE END OF A CHECK AGAINST A SEAL of a disc and two racks that expose their blocks.
abbrev pub EndsInBoth : Status → ℕ → Option (List (List ℕ)) → Rack → Rack → List SealedDump → List SealedFile → Written → Type 0
EndsInBoth ended size held first second dumps files w =
    ((p : Parts) × AreParts size held first second dumps files p × IsPrinted p ended w)
    ⊎ ((begun : List ℕ) × IsBegun (AreParts size held first second dumps files) begun × IsBrokenOff begun ended w)
