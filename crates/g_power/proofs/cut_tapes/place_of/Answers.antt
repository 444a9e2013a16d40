-- The reel found is the first of its serial; where the loop ends none has it.
use Rattle.std.proofs.Common.{sym, ap, ◌∙◌, arith}
use Rattle.g_power.specs.CutReel.{reel_of}
use Rattle.g_files.proofs.FileRackLemmas.{first_mapped, none_mapped}
use Rattle.g_tape.specs.Reel.{Reel}
use Rattle.g_power.proofs.cut_tapes.place_of.Goals as goal

pub returns-then-serial : goal.returns-then-serial
returns-then-serial c =
    first_mapped reel_of c.args.serial c.args.reels.now c.loop-i.i c.index-reels-i.result c.loop-i-test.true
    (ap (λ r. (reel_of r).serial) (sym c.index-reels-i.is) ∙ sym (c.serial.ensures ∙ ap (λ (r : Reel). r.serial) c.state.ensures.value) ∙ c.if-serial.true)
    c.loop-i.invariant

pub returns : goal.returns
returns c = none_mapped reel_of c.args.serial c.args.reels.now (λ k d h. c.loop-i.invariant k d (omega (arith, h, c.loop-i-test.false)))
