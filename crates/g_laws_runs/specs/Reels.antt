-- Completed dumps stay on the reels: in every run without a PROCESS each reel has its completed dumps, in their order, and
-- only a dump step appends one. PROCESS leaves the previous lists, or its own dump on its reel, with some of the other
-- reels released.
use Rattle.std.specs.Prelude.{◌≡◌, ◌⊎◌, ℕ, ◌≤◌, true, false, List, [], ◌∷◌, ◌++◌, length, sum_by, Some}
use Rattle.std.specs.Fn.{Shared}
use denote.Ref.{Bor}
use Rattle.g_rules.specs.declared.tariff.Charge.{Charge}
use Rattle.g_rules.specs.declared.tariff.Usage.{Usage}
use Rattle.g_rules.specs.declared.rule.Standing.{Standing}
use Rattle.g_store_model.specs.CallStep.{Outcome}
use Rattle.g_store_model.specs.ProcessLaws.{IsBefore, IsBehind}
use Rattle.g_store_model.specs.State.{Holding, ReelRow, Shelved}
use Rattle.g_script.specs.declared.operator.Operator.TheVariants as line
use Rattle.g_script.specs.declared.operator.Timed.{Timed}
use Rattle.g_run_model.specs.Laws.{takes_process}
use Rattle.g_run_model.specs.Moves.{Move, Step, TakeLine}
use Rattle.g_run_model.specs.World.{World}
use Rattle.g_laws_runs.specs.Dumps.{dump_steps}

-- The same reel, with the dumps that it had, followed by at most this many more; it may have been mounted or unmounted.
pub record IsGrown (most : ℕ) (old new : ReelRow) : Type 0 where
  pub serial : new.serial ≡ old.serial
  pub capacity : new.capacity ≡ old.capacity
  pub more : List Shelved
  pub dumps : new.dumps ≡ old.dumps ++ more
  pub few : length more ≤ most

-- All the reels of a rack, in their order.
abbrev pub AreGrown : ℕ → List ReelRow → List ReelRow → Type 0
AreGrown most [] new = new ≡ []
AreGrown most (r ∷ rs) [] = ⊥
AreGrown most (r ∷ rs) (q ∷ qs) = IsGrown most r q × AreGrown most rs qs

module _ {F U : Type 0} (tariffs : Shared F (Bor Usage × Unit {0}) Charge) (tariff : F) (rules : Shared U (Bor Standing × Unit {0}) ℕ) (rule : U) where
  -- moves none of which takes a PROCESS line
  abbrev pub RunWithout : World → List Move → World → Type 0
  RunWithout w [] new = new ≡ w
  RunWithout w (move ∷ moves) new = (mid : World) × (takes_process move ≡ false) × Step tariffs tariff rules rule w move mid × RunWithout mid moves new

  -- In a run without a PROCESS each reel has its completed dumps, and at most one more for each dump step.
  abbrev pub CompletedDumpsStay : Type 0
  CompletedDumpsStay = (w last : World) (moves : List Move) → RunWithout w moves last → AreGrown (sum_by dump_steps moves) w.store.reels last.store.reels

  -- nothing is released before the tree is dumped again on the reel that was named
  abbrev pub ProcessLeavesLists : Type 0
  ProcessLeavesLists = (w new : World) (o : Outcome) (next : Timed) (lines : List Timed) (serial : ℕ) (k : Holding) → w.lines ≡ next ∷ lines → next.what ≡ line.Process serial
      → w.store.holding ≡ Some k → Step tariffs tariff rules rule w (TakeLine true o) new → IsBefore w.store new.store ⊎ IsBehind w.store k serial new.store
