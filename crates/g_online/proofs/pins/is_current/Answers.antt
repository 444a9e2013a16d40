-- The test of the file of the version's number.
use Rattle.std.proofs.Common.{Option, ap, sym, ◌∙◌}
use Rattle.g_entry.specs.declared.file_rec.FileRec.{FileRec}
use Rattle.g_online.proofs.NumberedLemmas.{current_is, has_it}
use Rattle.g_online.proofs.pins.is_current.Goals as goal

pub returns-in-Some : goal.returns-in-Some
returns-in-Some c =
    ap (λ (o : Option FileRec). has_it o c.args.pin.now.stamp) c.in-Some.ensures ∙ sym (current_is c.args.files.now c.args.pin.now.number c.args.pin.now.stamp c.requires.rising c.requires.numbered)

pub returns-in-None : goal.returns-in-None
returns-in-None c =
    ap (λ (o : Option FileRec). has_it o c.args.pin.now.stamp) c.in-None.ensures ∙ sym (current_is c.args.files.now c.args.pin.now.number c.args.pin.now.stamp c.requires.rising c.requires.numbered)
