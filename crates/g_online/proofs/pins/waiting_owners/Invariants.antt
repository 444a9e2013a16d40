-- The owners of waiting files so far are noted, and the remaining files follow.
use Rattle.g_online.proofs.PinPutLemmas.{AreWaitingNoted}
use Rattle.g_online.proofs.pins.waiting_owners.Given as goal

abbrev pub invariant-loop-file : goal.invariant-loop-file
invariant-loop-file l = AreWaitingNoted l.files l.file-iterator l.waiting
