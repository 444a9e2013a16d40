use Rattle.std.proofs.Common.{◌≡◌, ◌≤◌, ◌+◌, length, take}
use Rattle.g_restore.specs.Gathering.{behind}
use Rattle.g_restore.proofs.gather.add_files.Given as goal

abbrev pub invariant-loop-r : goal.invariant-loop-r
invariant-loop-r l = record {
  items : l.files.items ≡ behind l.fn.files.items l.user (take l.r-index l.from);
  low : length l.files.items ≤ length l.fn.files.items + l.r-index;
}
