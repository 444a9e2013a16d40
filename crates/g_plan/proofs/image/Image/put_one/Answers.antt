use Rattle.std.proofs.Common.{Option, subst, sym, ℕ, ◌∷◌, []}
use Rattle.std.specs.Option.{option_map}
use Rattle.g_plan.specs.SecondPass.{IsPut}
use Rattle.g_plan.proofs.image.Image.put_one.Goals as goal

pub returns-in-Some : goal.returns-in-Some
returns-in-Some c =
    subst (λ (o : Option ℕ). IsPut (option_map (λ w. (c.args.place, w) ∷ []) o) c.args.self.now c.put.new.self c.put.result) (sym c.in-Some.is) c.put.ensures
