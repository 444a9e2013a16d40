use Rattle.std.proofs.Common.{◌∙◌, ◌-◌}
use Rattle.g_macro.proofs.StackLemmas.{keeps-top, top-place}
use Rattle.g_macro.proofs.levels.Levels.whenever.Goals as goal

pub returns : goal.returns
returns c =
    let last = top-place c.self.inside.levels.items c.self.inside.held c.len-top.result c.args.self.now c.self.view_is (c.len-top.ensures ∙ c.self.inside.levels.ok.0) c.requires.some in
    keeps-top c.self.inside.levels.items c.self.inside.held (c.len-top.result - 1) c.index_mut.result.now c.keep.new.self c.args.cond c.args.command c.args.self.now c.keep.result
    c.self.view_is last c.index_mut.ensures.value c.keep.ensures
