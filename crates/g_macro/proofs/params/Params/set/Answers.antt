-- All 24 parameters are stored before one of them is set.
use Rattle.std.proofs.Common.{List, ap, arith, length, refl, set, ℕ, ◌-◌, ◌∙◌, ◌≡◌, ◌<◌}
use Rattle.g_macro.proofs.FrontLemmas.{letter-inside}
use Rattle.g_macro.proofs.ParamLemmas.{padded_long, padded_set}
use Rattle.g_macro.proofs.params.Params.set.Goals as goal

pub index_mut-requires : goal.index_mut-requires
index_mut-requires c =
    let long : length c.fill_up.new.params.items ≡ 24 = ap length c.fill_up.ensures.items ∙ padded_long c.self.inside.given.items c.self.invariant.0 in
    let inside : c.args.letter - 65 < 24 = letter-inside c.args.letter 24 c.requires refl in
    omega (arith, long, inside, c.fill_up.new.params.ok.0)

pub returns : goal.returns
returns c =
    let place = c.args.letter - 65 in
    padded_set c.self.inside.given.items (set c.fill_up.new.params.items place c.args.value) place c.args.value c.self.invariant.0
    (ap (λ (params : List (List ℕ)). set params place c.args.value) c.fill_up.ensures.items)
    ∙ ap (λ (params : List (List ℕ)). set params place c.args.value) c.self.view_is
