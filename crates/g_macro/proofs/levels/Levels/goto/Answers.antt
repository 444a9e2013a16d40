use Rattle.std.proofs.Common.{◌∙◌, ◌-◌, ap}
use Rattle.g_macro.specs.Levels.{Level, line_of_label, at_line}
use Rattle.g_macro.proofs.StackLemmas.{top-changed, top-current, top-place}
use Rattle.g_macro.proofs.levels.Levels.goto.Goals as goal

pub returns-in-Some : goal.returns-in-Some
returns-in-Some c =
    let last = top-place c.self.inside.levels.items c.self.inside.held c.len-top.result c.args.self.now c.self.view_is (c.len-top.ensures ∙ c.self.inside.levels.ok.0) c.requires in
    let same = top-current c.self.inside.levels.items c.self.inside.held (c.len-top.result - 1) c.index.result.now c.args.self.now c.self.view_is last c.index.ensures in (
      c.in-Some.place.lines,
      ap (λ (l : Level). line_of_label c.args.label.now l.lines) same ∙ c.in-Some.ensures.line,
      top-changed c.self.inside.levels.items c.self.inside.held (c.len-top.result - 1) c.index_mut.result.now c.go_to.new.self (at_line c.in-Some.place.lines)
          c.args.self.now c.self.view_is last c.index_mut.ensures.value c.go_to.ensures,
    )
