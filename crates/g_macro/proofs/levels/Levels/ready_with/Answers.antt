-- The document is the first level in the code's list.
use Rattle.std.proofs.Common.{List, ap, slice_get, ◌∙◌}
use Rattle.g_macro.proofs.HoldingLemmas.{typed_first}
use Rattle.g_macro.specs.Levels.{Level}
use Rattle.g_macro.proofs.levels.Levels.ready_with.Goals as goal

pub is_ready_with-requires : goal.is_ready_with-requires
is_ready_with-requires c =
    (typed_first c.self.inside.levels.items c.self.inside.held c.in-Some.document.now c.args.line.now c.args.self.now c.self.view_is
    (c.in-Some.ensures.value ∙ ap (λ (ls : List Level). slice_get ls 0) c.deref.ensures.value) c.requires).0

pub returns-in-Some : goal.returns-in-Some
returns-in-Some c =
    c.is_ready_with.ensures
    ∙ (typed_first c.self.inside.levels.items c.self.inside.held c.in-Some.document.now c.args.line.now c.args.self.now c.self.view_is
    (c.in-Some.ensures.value ∙ ap (λ (ls : List Level). slice_get ls 0) c.deref.ensures.value) c.requires).1
