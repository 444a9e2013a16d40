-- The version before is the first, which is known, or another.
use Rattle.std.proofs.Common.{◌-◌, sym, ap, ◌∙◌}
use Rattle.g_tree.specs.State.{number_at, number_in}
use Rattle.g_tree.proofs.EntryLemmas.{at_generation, first_itself}
use Rattle.g_tree.proofs.counts.Counts.number_before.Goals as goal

pub returns-then-before-eq1 : goal.returns-then-before-eq1
returns-then-before-eq1 c =
    let entries = c.args.self.now.names.entries in
    let first = c.args.first.now in
    ap (λ o. number_at o) (sym c.requires.entry) ∙ ap (λ f. number_in entries f) (sym (first_itself first c.requires.first))
    ∙ ap (λ n. number_in entries (at_generation first n)) (sym c.if-before-eq1.true)

pub returns : goal.returns
returns c = c.find.ensures ∙ ap (λ f. number_in c.args.self.now.names.entries (at_generation f (c.args.generation - 1))) c.copy.ensures
