use Rattle.std.proofs.Common.{◌∙◌, ◌-◌, ap, sym}
use Rattle.g_lines.specs.Lines.{text_of}
use Rattle.g_macro.specs.Levels.{Level, before_closing, lines_left, past_document}
use Rattle.g_macro.proofs.StackLemmas.{top-changed, top-current, top-place}
use Rattle.g_macro.proofs.levels.Levels.document.Goals as goal

pub returns : goal.returns
returns c =
    let items = c.self.inside.levels.items in
    let held = c.self.inside.held in
    let last = top-place items held c.len-top.result c.args.self.now c.self.view_is (c.len-top.ensures ∙ c.self.inside.levels.ok.0) c.requires in
    let same = top-current items held (c.len-top.result - 1) c.index_mut.result.now c.args.self.now c.self.view_is last c.index_mut.ensures.value in (
      c.in_ok-text.ensures.text ∙ ap (λ (l : Level). text_of (before_closing (lines_left l))) (sym same),
      top-changed items held (c.len-top.result - 1) c.index_mut.result.now c.take_document.new.self past_document c.args.self.now c.self.view_is last c.index_mut.ensures.value c.in_ok-text.ensures.ok,
    )
