use Rattle.std.proofs.Common.{take}
use Rattle.g_disc_contents.specs.Contents.{copied_rec}
use Rattle.g_online.specs.DumpedVersions.{MarksMade, noted_in}
use Rattle.g_online.proofs.CloseNoteLemmas.{IsNoting}
use Rattle.g_online.proofs.closing.note_copies.Given as goal

abbrev pub invariant-loop-pin : goal.invariant-loop-pin
invariant-loop-pin l = IsNoting l.pins l.pin-index l.fn.tree l.tree × MarksMade (copied_rec (noted_in (take l.pin-index l.pins))) l.fn.tree.files l.fn.pages l.pages
