-- START after any move, and in a later run.
-- serves: devices_have_one_state (one), later_runs_keep_the_tree, start_is_behind_any_move
use Rattle.std.proofs.Common.{◌≡◌, ℕ, Option, Some, None, option_map, refl, ◌∙◌, ap, inl, inr}
use Rattle.std.specs.Prelude.{◌⊎◌}
use Rattle.std.specs.Fn.{Shared}
use denote.Ref.{Bor}
use Rattle.g_rules.specs.declared.tariff.Charge.{Charge}
use Rattle.g_rules.specs.declared.tariff.Usage.{Usage}
use Rattle.g_rules.specs.declared.rule.Standing.{Standing}
use Rattle.g_store_meaning.specs.Meaning.{told_reels}
use Rattle.g_store_meaning.specs.OneState.{DevicesAreOne}
use Rattle.g_store_model.specs.CallStep.{down, no_longer_kept}
use Rattle.g_store_model.specs.State.{Holding, State}
use Rattle.g_run_model.proofs.StandLemmas.{read_as}
use Rattle.g_run_model.specs.Accounts.{tree_of}
use Rattle.g_run_model.specs.Laws.{AllOrNothing, tree_behind}
use Rattle.g_run_model.specs.World.{start}
use Rattle.g_laws_runs.specs.NewDevices.{StatesAreOne}
use Rattle.g_laws_runs.specs.LaterRuns.{LaterRunsKeep, StartIsBehind}
use Rattle.g_laws_runs.proofs.RefusedLemmas.{keeping}

-- a store that goes down has the same tree
pub tree_down : (h : Option Holding) → option_map (λ (k : Holding). k.tree) (option_map no_longer_kept h) ≡ option_map (λ (k : Holding). k.tree) h
tree_down None = refl
tree_down (Some k) = refl

pub states_are_one : DevicesAreOne → StatesAreOne
states_are_one one d s t stand other =
    let here = read_as d s stand in one d.disc.size d.disc.held (told_reels d.rack) s t here.told here.belong here.reads (read_as d t other).reads

module _ {F U : Type 0} (tariffs : Shared F (Bor Usage × Unit {0}) Charge) (tariff : F) (rules : Shared U (Bor Standing × Unit {0}) ℕ) (rule : U) (all : AllOrNothing tariffs tariff rules rule) where
  pub start_is_behind : StartIsBehind tariffs tariff rules rule
  start_is_behind before cut up move moves step run = by (all before cut move step)
    where
      by : (tree_of cut.store ≡ tree_of before.store) ⊎ (tree_of cut.store ≡ tree_behind before move) → (tree_of up.store ≡ tree_of before.store) ⊎ (tree_of up.store ≡ tree_behind before move)
      by (inl e) = inl (keeping tariffs tariff rules rule all cut moves up run ∙ e)
      by (inr e) = inr (keeping tariffs tariff rules rule all cut moves up run ∙ e)

  pub later_runs_keep : DevicesAreOne → LaterRunsKeep tariffs tariff rules rule
  later_runs_keep one last up d s lines bad moves stood stand run =
      keeping tariffs tariff rules rule all (start lines bad s) moves up run ∙ ap (λ (x : State). tree_of x) (states_are_one one d s (down last.store) stand stood) ∙ tree_down last.store.holding
