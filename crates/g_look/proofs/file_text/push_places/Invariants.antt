use Rattle.std.proofs.Common.{◌≡◌, ◌++◌, drop}
use Rattle.std.specs.List.{flat_map}
use Rattle.g_look.specs.FileLines.{place_text}
use Rattle.g_look.proofs.file_text.push_places.Given as goal

abbrev pub invariant-loop-place : goal.invariant-loop-place
invariant-loop-place l = l.text ++ flat_map place_text (drop l.place-index l.places) ≡ l.fn.text ++ flat_map place_text l.places
