use Rattle.std.proofs.Common.{ap, sym, ◌∙◌}
use Rattle.std.specs.List.{list_any}
use Rattle.g_macro.specs.Levels.{Stack, fired, has_entry}
use Rattle.g_macro.proofs.QuietLemmas.{none_fired}
use Rattle.g_macro.proofs.levels.Levels.have_entries.Goals as goal

pub returns : goal.returns
returns c = λ none outcome.
    ap (λ (s : Stack). fired outcome s.levels) (sym c.self.view_is)
    ∙ none_fired outcome c.self.inside.levels.items (ap (list_any has_entry) (sym c.as_slice.ensures.value) ∙ sym c.some_wait.ensures ∙ none)
