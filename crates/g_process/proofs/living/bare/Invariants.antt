use Rattle.std.proofs.Common.{◌≡◌, map, take}
use Rattle.g_laws_store.specs.ForgottenCopies.{bare_rec}
use Rattle.g_process.proofs.living.bare.Given as goal

abbrev pub invariant-loop-file : goal.invariant-loop-file
invariant-loop-file l = l.all.items ≡ map bare_rec (take l.file-index l.files)
