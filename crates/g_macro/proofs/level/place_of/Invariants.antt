use Rattle.std.proofs.Common.{◌≡◌, ◌+◌, drop, option_map}
use Rattle.g_macro.specs.Levels.{place_of_cond}
use Rattle.g_macro.proofs.level.place_of.Given as goal

abbrev pub invariant-loop-place : goal.invariant-loop-place
invariant-loop-place l = place_of_cond l.cond l.entries ≡ option_map (λ n. l.place + n) (place_of_cond l.cond (drop l.place l.entries))
