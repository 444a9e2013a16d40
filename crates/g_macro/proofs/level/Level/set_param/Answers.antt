use Rattle.std.proofs.Common.{List, ap, length-set, length, ℕ, ◌-◌, ◌∙◌}
use Rattle.g_macro.specs.Levels.{Level, param_set}
use Rattle.g_macro.proofs.level.Level.set_param.Goals as goal

pub invariant_of-self : goal.invariant_of-self
invariant_of-self c = record {
  params = ap length c.set.ensures ∙ length-set c.self.inside.params (c.args.letter - 65) c.args.value ∙ c.self.invariant.params;
  taken = c.self.invariant.taken;
  entries = c.self.invariant.entries;
  commands = c.self.invariant.commands;
}

pub returns : goal.returns
returns c =
    ap (λ (params : List (List ℕ)). let l : Level = record { lines = c.self.inside.cursor.lines; params = params; taken = c.self.inside.cursor.taken; entries = c.self.inside.entries.items } in l) c.set.ensures
    ∙ ap (param_set c.args.letter c.args.value) c.self.view_is
