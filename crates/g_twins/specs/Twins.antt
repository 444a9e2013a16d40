-- Two racks whose reels should be twins, and the text that names those that differ.
use Rattle.std.specs.Prelude.{◌≡◌, ℕ, suc, List, [], ◌∷◌, ◌++◌, codes, map, nat_eq, All, Option, Some, None, is_some, if◌then◌else◌, true}
use Rattle.std.specs.Cmp.Lexicographic.{pointwise}
use Rattle.std.specs.List.{flat_map}
use Rattle.std.specs.Option.{option_map}
use Rattle.g_lines.specs.Lines.{text_of}
use Rattle.g_monitor.specs.Parts.{with_number}
use Rattle.g_tape.specs.Rack.{Rack, reel}
use Rattle.g_tape.specs.Reads.{blocks_of}
use Rattle.g_tape.specs.Reel.{Reel}

-- Each reel of the rack exposes its blocks.
abbrev pub AreExposed : Rack → Type 0
AreExposed rack = All (λ r. is_some r.blocks ≡ true) rack.reels

-- Each reel of the rack is mounted.
abbrev pub AreMounted : Rack → Type 0
AreMounted rack = (s : ℕ) (r : Reel) → reel s rack.reels ≡ Some r → r.mounted ≡ true

-- THE FIRST BLOCK IN WHICH TWO REELS DIFFER: it isn't the same, or only one of them has it. None if they hold the same blocks.
abbrev pub difference : List (List ℕ) → List (List ℕ) → Option ℕ
difference [] [] = None
difference [] (y ∷ ys) = Some 0
difference (x ∷ xs) [] = Some 0
difference (x ∷ xs) (y ∷ ys) = if pointwise nat_eq x y then option_map suc (difference xs ys) else Some 0

-- The line of the first block in which the reels of a serial differ.
abbrev pub difference_text : ℕ → ℕ → List ℕ
difference_text s k = with_number (codes "TWINS OF TAPE ") s ++ with_number (codes " DIFFER AT ") k

-- The line of a reel that one of the racks lacks.
abbrev pub alone_text : List ℕ → ℕ → List ℕ
alone_text lacks s = with_number (codes "TAPE ") s ++ lacks

-- The line of the difference, if there is one.
abbrev pub difference_lines : ℕ → Option ℕ → List (List ℕ)
difference_lines s None = []
difference_lines s (Some k) = difference_text s k ∷ []

-- The lines of a serial of the first rack, by the blocks that each rack has of it.
abbrev pub twin_lines : ℕ → Option (List (List ℕ)) → Option (List (List ℕ)) → List (List ℕ)
twin_lines s None other = []
twin_lines s (Some xs) None = alone_text (codes " HAS NO TWIN IN THE SECOND RACK") s ∷ []
twin_lines s (Some xs) (Some ys) = difference_lines s (difference xs ys)

-- The line of a serial of the second rack, if the first rack has no reel of it.
abbrev pub alone_lines : ℕ → Option (List (List ℕ)) → List (List ℕ)
alone_lines s None = alone_text (codes " HAS NO TWIN IN THE FIRST RACK") s ∷ []
alone_lines s (Some xs) = []

-- The serials of a rack, in increasing order.
abbrev pub serials : Rack → List ℕ
serials rack = map (λ r. r.serial) rack.reels

-- The lines of the reels of the first rack.
abbrev pub lines_of_first : Rack → Rack → List (List ℕ)
lines_of_first p q = flat_map (λ s. twin_lines s (blocks_of s p) (blocks_of s q)) (serials p)

-- The lines of the reels that only the second rack has.
abbrev pub lines_alone : Rack → Rack → List (List ℕ)
lines_alone p q = flat_map (λ s. alone_lines s (blocks_of s p)) (serials q)

-- THE TEXT of two racks.
abbrev pub twin_text : Rack → Rack → List ℕ
twin_text p q = text_of (lines_of_first p q) ++ text_of (lines_alone p q)
