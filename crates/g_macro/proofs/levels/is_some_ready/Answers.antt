use Rattle.std.proofs.Common.{Bool, List, ap, reverse, sym, ◌||◌, ◌∙◌, ◌≡◌}
use Rattle.std.specs.List.{list_any}
use Rattle.g_macro.proofs.HoldingLemmas.{ready_last}
use Rattle.g_macro.specs.Holding.{line_ready, some_ready}
use Rattle.g_macro.specs.Levels.{Level, has_line}
use Rattle.g_macro.proofs.levels.is_some_ready.Goals as goal

pub returns-then-have_line : goal.returns-then-have_line
returns-then-have_line c =
    let document = c.in-Some.document.now in
    let above = c.in-Some.above.now in
    let ready : some_ready (reverse c.args.all.now) ≡ (list_any has_line above || line_ready document) =
    ap (λ (ls : List Level). some_ready (reverse ls)) c.in-Some.ensures.cases.0 ∙ ready_last document above in
    c.if-have_line.true ∙ ap (λ (b : Bool). b || line_ready document) (sym c.if-have_line.true ∙ c.have_line.ensures) ∙ sym ready

pub returns-else-have_line : goal.returns-else-have_line
returns-else-have_line c =
    let document = c.in-Some.document.now in
    let above = c.in-Some.above.now in
    let ready : some_ready (reverse c.args.all.now) ≡ (list_any has_line above || line_ready document) =
    ap (λ (ls : List Level). some_ready (reverse ls)) c.in-Some.ensures.cases.0 ∙ ready_last document above in
    c.is_ready.ensures ∙ ap (λ (b : Bool). b || line_ready document) (sym c.if-have_line.false ∙ c.have_line.ensures) ∙ sym ready
