use Rattle.std.proofs.Common.{◌∙◌, ◌-◌}
use Rattle.g_macro.specs.Levels.{param_set}
use Rattle.g_macro.proofs.StackLemmas.{top-changed, top-place}
use Rattle.g_macro.proofs.levels.Levels.set_param.Goals as goal

pub returns : goal.returns
returns c =
    let last = top-place c.self.inside.levels.items c.self.inside.held c.len-top.result c.args.self.now c.self.view_is (c.len-top.ensures ∙ c.self.inside.levels.ok.0) c.requires.some in
    top-changed c.self.inside.levels.items c.self.inside.held (c.len-top.result - 1) c.index_mut.result.now c.set_param.new.self (param_set c.args.letter c.args.value)
    c.args.self.now c.self.view_is last c.index_mut.ensures.value c.set_param.ensures
