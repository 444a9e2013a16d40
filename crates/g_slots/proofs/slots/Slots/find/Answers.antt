use Rattle.std.proofs.Common.{◌∙◌, sym}
use Rattle.g_slots.proofs.OneWrite.{gate_side-named}
use Rattle.g_slots.proofs.slots.Slots.find.Goals as goal

pub returns-clause-ok : goal.returns-clause-ok
returns-clause-ok g c = λ blocks told. gate_side-named blocks _ (c.in_ok-read.ensures.block blocks told) ∙ sym c.named_by.ensures
