use Rattle.std.proofs.Common.{sym, ◌∙◌}
use Rattle.g_plan.proofs.SourceLemmas.{noted-new}
use Rattle.g_plan.proofs.source.note_label.Goals as goal

pub returns-in_ok-insert : goal.returns-in_ok-insert
returns-in_ok-insert c = λ label.
    noted-new c.args.places.now.entries c.insert.new.self.entries c.args.line.now _ c.copy.result label c.in-Some.is c.copy.ensures
    (sym c.contains_key.ensures ∙ c.if-not-contains_key.true) (c.in_ok-insert.ensures.updates.0 label)
