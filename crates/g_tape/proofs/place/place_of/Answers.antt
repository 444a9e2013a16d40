-- The reel that was found is the first with its serial; if the loop ends, no reel has the serial.
use Rattle.std.proofs.Common.{sym, ap, ◌∙◌, arith}
use Rattle.std.proofs.lemmas.List.{get_or_default}
use Rattle.g_tape.specs.Reel.{Reel}
use Rattle.g_tape.proofs.PlaceLemmas.{reel-none, reel-first}
use Rattle.g_tape.proofs.place.place_of.Goals as goal

pub returns-then-serial : goal.returns-then-serial
returns-then-serial c =
    reel-first _ _ _ c.loop-i-test.true
    (λ d. ap (λ (r : Reel). r.serial) (get_or_default _ _ d _ c.loop-i-test.true ∙ sym c.index-reels-i.is) ∙ sym (c.serial.ensures ∙ ap (λ (r : Reel). r.serial) c.state.ensures)
    ∙ c.if-serial.true)
    c.loop-i.invariant

pub returns : goal.returns
returns c = reel-none _ _ (λ k d h. c.loop-i.invariant k d (omega (arith, h, c.loop-i-test.false)))
