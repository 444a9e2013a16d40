use Rattle.std.proofs.Common.{◌≡◌, take}
use Rattle.g_store.specs.Starting.{copies_named}
use Rattle.g_store.proofs.starting.copies_named.Given as goal

abbrev pub invariant-loop-file : goal.invariant-loop-file
invariant-loop-file l = l.copies.items ≡ copies_named l.files (take l.file-index l.dumped)
