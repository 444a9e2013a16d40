-- The empty parameters after the given ones aren't observable.
use Rattle.std.proofs.Common.{List, ap, length, sym, ℕ, ◌-◌, ◌∙◌}
use Rattle.g_macro.specs.Expansion.{param_of}
use Rattle.g_macro.proofs.ParamLemmas.{padded_at}
use Rattle.g_macro.proofs.params.Params.get.Goals as goal

pub returns : goal.returns
returns c =
    let given = c.self.inside.given.items in
    c.param.ensures ∙ ap (λ (params : List (List ℕ)). param_of params c.args.letter) c.as_slice.ensures.value
    ∙ sym (padded_at given (24 - length given) (c.args.letter - 65))
    ∙ ap (λ (params : List (List ℕ)). param_of params c.args.letter) c.self.view_is
