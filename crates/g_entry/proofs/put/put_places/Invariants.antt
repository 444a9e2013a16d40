use Rattle.std.proofs.Common.{◌≡◌, ◌+◌, ◌*◌, ◌≤◌, ◌++◌, length, take}
use Rattle.std.specs.List.{flat_map}
use Rattle.g_base.specs.Fields.{number}
use Rattle.g_entry.specs.Formats.{place_width}
use Rattle.g_entry.proofs.put.put_places.Given as goal

-- the numbers so far, of up to three bytes each
abbrev pub invariant-loop-place : goal.invariant-loop-place
invariant-loop-place l = record {
  fields : l.writer ≡ l.initial.writer ++ flat_map (number (place_width l.format)) (take l.place-index l.places);
  len : length l.writer ≤ length l.initial.writer + 3 * l.place-index;
}
