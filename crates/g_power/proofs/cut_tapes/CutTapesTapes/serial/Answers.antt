use Rattle.std.proofs.Common.{ℕ, Some, ap, sym, ◌∙◌, arith}
use Rattle.std.proofs.lemmas.List.{length-map}
use Rattle.g_power.specs.CutReel.{reel_of}
use Rattle.g_files.proofs.FileRackLemmas.{serial_at}
use Rattle.g_tape.specs.Reel.{Reel}
use Rattle.g_power.proofs.cut_tapes.CutTapesTapes.serial.Goals as goal

pub returns : goal.returns
returns c =
    let number = λ (r : Reel). r.serial in
    serial_at reel_of c.args.self.now.reels.items c.args.i c.index.result.now (omega (arith, c.requires, length-map c.args.self.now.reels.items reel_of))
    ∙ ap (λ (n : ℕ). Some n) (sym (c.serial.ensures ∙ ap number c.state.ensures.value ∙ ap (λ r. (reel_of r).serial) c.index.ensures))
