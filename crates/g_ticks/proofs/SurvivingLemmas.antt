-- What a power loss leaves after the parts of a run, one after another.
-- serves: PartLemmas, TickLemmas, TickedLemmas, UntilLemmas, crates above
use Rattle.std.proofs.Common.{◌≡◌, ◌⊎◌, ◌++◌, ℕ, Bool, true, false, List, [], ◌∷◌, refl, sym, ◌∙◌, subst, inl, inr}
use Rattle.std.specs.Fn.{Shared}
use denote.Ref.{Bor}
use Rattle.g_rules.specs.declared.tariff.Charge.{Charge}
use Rattle.g_rules.specs.declared.tariff.Usage.{Usage}
use Rattle.g_rules.specs.declared.rule.Standing.{Standing}
use Rattle.g_store_model.specs.State.{State}
use Rattle.g_run_model.specs.Losses.{StaysDown}
use Rattle.g_run_model.specs.Moves.{Move, Run}
use Rattle.g_run_model.specs.World.{World}
use Rattle.g_run_model.proofs.LossLemmas.{left_behind, survives_then}
use Rattle.g_day.specs.Losses.{LeftAfter, Never}
use Rattle.g_day.specs.System.{Down, IsRunning, StandsAs, SystemFacts, SystemSafe, Up, devices_in}
use Rattle.g_day.proofs.UpLemmas.{up_is}

-- a system of which something is claimed is running
pub safe_runs : (f : SystemFacts) → SystemSafe f → IsRunning f
safe_runs (Up s) is = is.up
safe_runs (Down d) is = tt

pub never_runs : (f : SystemFacts) → Never f → IsRunning f
never_runs f never = absurd never

up_and_down : (b : Bool) → b ≡ true → b ≡ false → ⊥
up_and_down b up down = let no : ⊥ = cc in no

module _ {F U : Type 0} (tariffs : Shared F (Bor Usage × Unit {0}) Charge) (tariff : F) (rules : Shared U (Bor Standing × Unit {0}) ℕ) (rule : U) where
  -- no moves
  pub left_itself : (w : World) (f : SystemFacts) → LeftAfter tariffs tariff rules rule w [] w f f
  left_itself w (Up s) = tt
  left_itself w (Down d) = λ blocks rack left. inr (refl, left)

  -- down at the last world only if at the first one
  was_down : (mid new : World) (moves : List Move) → StaysDown tariffs tariff rules rule mid moves new → new.store.up ≡ false → mid.store.up ≡ false
  was_down mid new [] down is = subst (λ (v : World). v.store.up ≡ false) down is
  was_down mid new (move ∷ moves) down is = down.2

  -- TWO PARTS: a power loss leaves a state that it may leave after both
  pub left_then : (w mid new : World) (ms ns : List Move) (old now last : SystemFacts) → Run tariffs tariff rules rule w ms mid → IsRunning now → StandsAs now mid.store → StandsAs last new.store
      → LeftAfter tariffs tariff rules rule w ms mid old now → LeftAfter tariffs tariff rules rule mid ns new now last → LeftAfter tariffs tariff rules rule w (ms ++ ns) new old last
  left_then w mid new ms ns old now (Up s) ran running was is first second = tt
  left_then w mid new ms ns old (Down d) (Down e) ran running was is first second = λ blocks rack left. elim (second blocks rack left) [
    | inl here ↦ inl (here.0, left_behind tariffs tariff rules rule w mid new ms ns here.0 ran here.1, here.2)
    | inr (down, before) ↦
        survives_then tariffs tariff rules rule w mid new ms ns (devices_in old) d e ran first second (sym before.on_disc.size ∙ left.on_disc.size) blocks rack left
  ]
  left_then w mid new ms ns old (Up s) (Down e) ran running was is first second = λ blocks rack left. elim (second blocks rack left) [
    | inl here ↦ inl (here.0, left_behind tariffs tariff rules rule w mid new ms ns here.0 ran here.1, here.2)
    | inr (down, before) ↦ absurd (up_and_down mid.store.up (up_is s mid.store running was.stands) (was_down mid new ns down is.0))
  ]

  -- moves after which the system is the same
  pub left_same : (w mid new : World) (ms ns : List Move) (old now : SystemFacts) → Run tariffs tariff rules rule w ms mid → StandsAs now mid.store
      → (mid.store.up ≡ false → StaysDown tariffs tariff rules rule mid ns new) → LeftAfter tariffs tariff rules rule w ms mid old now → LeftAfter tariffs tariff rules rule w (ms ++ ns) new old now
  left_same w mid new ms ns old (Up s) ran was down first = tt
  left_same w mid new ms ns old (Down d) ran was down first = λ blocks rack left.
      survives_then tariffs tariff rules rule w mid new ms ns (devices_in old) d d ran first (λ bs r l. inr (down was.0, l)) refl blocks rack left
