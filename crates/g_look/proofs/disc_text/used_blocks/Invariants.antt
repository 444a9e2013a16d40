use Rattle.std.proofs.Common.{◌≡◌, ◌*◌, ◌≤◌, take}
use Rattle.g_look.specs.MemoryLines.{used_by}
use Rattle.g_look.proofs.disc_text.used_blocks.Given as goal

abbrev pub invariant-loop-file : goal.invariant-loop-file
invariant-loop-file l = (l.used ≡ used_by (take l.file-index l.files) l.online) × (l.used ≤ 4294967296 * l.file-index)
