use Rattle.std.proofs.Common.{List, ap, subst, sym, ◌∙◌}
use Rattle.std.specs.Option.{option_or}
use Rattle.g_plan.specs.LineIndex.{IsIndexed}
use Rattle.g_plan.specs.declared.source.Line.{Line}
use Rattle.g_plan.proofs.SourceLemmas.{indexed-one}
use Rattle.g_plan.proofs.source.Source.with.Goals as goal

pub invariant_of-result : goal.invariant_of-result
invariant_of-result c =
    subst (λ (ls : List Line). IsIndexed ls c.note_label.new.places.entries c.or-size.result) (sym c.in_ok-push.ensures.items)
    (indexed-one c.self.inside.lines.items c.self.inside.places.entries c.note_label.new.places.entries c.self.inside.size c.or-size.result c.args.line c.self.invariant
    c.in_ok-note_label.ensures (c.or-size.ensures ∙ ap (option_or c.self.inside.size) c.size_of.ensures))
