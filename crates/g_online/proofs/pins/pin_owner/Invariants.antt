-- The versions of the files so far were pinned, and the remaining files follow.
use Rattle.g_online.proofs.PinPutLemmas.{IsPutting}
use Rattle.g_online.proofs.pins.pin_owner.Given as goal

abbrev pub invariant-loop-file : goal.invariant-loop-file
invariant-loop-file l = IsPutting l.serial l.owner l.online l.files l.file-iterator l.fn.pins.items l.fn.at l.pins.items l.at
