-- An undisturbed dump completes: it progresses by one step at a time, and with the last step its tree is the dumped one.
use Rattle.std.specs.Prelude.{◌≡◌, ◌⊎◌, ℕ, ◌+◌, ◌<◌, ◌≤◌, true, List, ◌∷◌, ◌++◌, All, Option, Some, None, sum_by}
use Rattle.std.specs.Fn.{Shared}
use denote.Ref.{Bor}
use Rattle.g_rules.specs.declared.tariff.Charge.{Charge}
use Rattle.g_rules.specs.declared.tariff.Usage.{Usage}
use Rattle.g_rules.specs.declared.rule.Standing.{Standing}
use Rattle.g_script.specs.declared.operator.Timed.{Timed}
use Rattle.g_store_model.specs.CallStep.{Plain}
use Rattle.g_store_model.specs.State.{Dumped as DumpedTree, OpenDump, State}
use Rattle.g_run_model.specs.Laws.{IsPlain}
use Rattle.g_run_model.specs.Moves.{Dumped, Move, Run, Step}
use Rattle.g_run_model.specs.World.{World, start}
use Rattle.g_laws_runs.specs.Dumps.{dump_steps}

-- The dump is open, this many of its steps are done, and at least one is left.
pub record IsOpenAt (d : OpenDump) (done : ℕ) (s : State) : Type 0 where
  pub up : s.up ≡ true
  pub open_dump : OpenDump
  pub is : s.open_dump ≡ Some open_dump
  pub number : open_dump.number ≡ d.number
  pub needs : open_dump.needs ≡ d.needs
  pub done_is : open_dump.done ≡ done
  pub tree : open_dump.tree ≡ d.tree
  pub left : done < d.needs

-- The dump is completed: the dumped tree is the one on which it opened, under its number.
pub record IsCompleted (d : OpenDump) (s : State) : Type 0 where
  pub closed : s.open_dump ≡ None
  pub dumped : DumpedTree
  pub is : s.dumped ≡ Some dumped
  pub number : dumped.number ≡ d.number
  pub tree : dumped.tree ≡ d.tree

module _ {F U : Type 0} (tariffs : Shared F (Bor Usage × Unit {0}) Charge) (tariff : F) (rules : Shared U (Bor Standing × Unit {0}) ℕ) (rule : U) where
  -- one of these moves completed the dump, with its last step
  pub record Completes (w : World) (d : OpenDump) (moves : List Move) (last : World) : Type 0 where
    pub front : List Move
    pub back : List Move
    pub before : World
    pub behind : World
    pub are : moves ≡ front ++ (Dumped Plain ∷ back)
    pub run : Run tariffs tariff rules rule w front before
    pub step : Step tariffs tariff rules rule before (Dumped Plain) behind
    pub rest : Run tariffs tariff rules rule behind back last
    pub steps : sum_by dump_steps front + d.done + 1 ≡ d.needs
    pub completed : IsCompleted d behind.store

  -- For a world of any run in which a dump is open: after moves in which no device failed it is open, with the steps of
  -- these moves done, or one of them completed it.
  abbrev pub DumpsGoOn : Type 0
  DumpsGoOn = (lines : List Timed) (bad : Option ℕ) (s : State) (front moves : List Move) (w last : World) (d : OpenDump) → s.open_dump ≡ None
      → Run tariffs tariff rules rule (start lines bad s) front w → w.store.open_dump ≡ Some d → Run tariffs tariff rules rule w moves last → All IsPlain moves
      → IsOpenAt d (sum_by dump_steps moves + d.done) last.store ⊎ Completes w d moves last

  -- once a dump is open, it is completed by as many steps without a failure as it needs
  abbrev pub DumpsComplete : Type 0
  DumpsComplete = (lines : List Timed) (bad : Option ℕ) (s : State) (front moves : List Move) (w last : World) (d : OpenDump) → s.open_dump ≡ None
      → Run tariffs tariff rules rule (start lines bad s) front w → w.store.open_dump ≡ Some d → Run tariffs tariff rules rule w moves last → All IsPlain moves
      → d.needs ≤ sum_by dump_steps moves + d.done → Completes w d moves last
