-- The lines so far follow the text.
use Rattle.std.proofs.Common.{◌≡◌, ◌++◌, take}
use Rattle.g_session.specs.Standing.{reels_text}
use Rattle.g_session.proofs.answering.push_reels.Given as goal

abbrev pub invariant-loop-serial : goal.invariant-loop-serial
invariant-loop-serial g l = l.text ≡ l.fn.text ++ reels_text (g.T.Tapes.rack l.tapes) (take l.serial-index l.serials)
