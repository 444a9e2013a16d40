-- A turn prints what it would print on a plain file tree, apart from waits, device errors and stops.
use Rattle.std.specs.Prelude.{◌≡◌, ℕ, List, ◌∷◌, All, Option, Some, None}
use Rattle.std.specs.Fn.{Shared}
use denote.Ref.{Bor}
use Rattle.g_turn.specs.State.{Work}
use Rattle.g_rules.specs.declared.tariff.Charge.{Charge}
use Rattle.g_rules.specs.declared.tariff.Usage.{Usage}
use Rattle.g_job.specs.TurnEnd.{IsPriced, turn_end}
use Rattle.g_job.specs.State.{JobState}
use Rattle.g_job.specs.Turns.{turn_work}
use Rattle.g_rules.specs.declared.turn.Turn.{Turn}
use Rattle.g_plain.specs.PlainTree.{Tree}
use Rattle.g_plain.specs.PlainAnswers.{RanPlainly}
use Rattle.g_rules.specs.declared.rule.Standing.{Standing}
use Rattle.g_script.specs.declared.operator.Timed.{Timed}
use Rattle.g_store_model.specs.State.{State}
use Rattle.g_run_model.specs.Accounts.{tree_of}
use Rattle.g_run_model.specs.Laws.{AreTimed}
use Rattle.g_run_model.specs.Moves.{Begin, Move, Run, Step, TurnOver, turn_told}
use Rattle.g_run_model.specs.World.{Turned, World, job_of, shows, start}

-- A move within a turn.
abbrev pub IsWithin : Move → Type 0
IsWithin (TurnOver number charge) = ⊥
IsWithin move = Unit {0}

-- The world after the calls of a turn: everything except the store is as at the beginning of the turn.
pub record IsBehindCalls (w before : World) : Type 0 where
  pub lines : before.lines ≡ w.lines
  pub jobs : before.jobs ≡ w.jobs
  pub accounts : before.accounts ≡ w.accounts
  pub text : before.text ≡ w.text
  pub count : before.count ≡ w.count

module _ {F U : Type 0} (tariffs : Shared F (Bor Usage × Unit {0}) Charge) (tariff : F) (rules : Shared U (Bor Standing × Unit {0}) ℕ) (rule : U) where
  -- The turn's program ran on the tree that the turn met, and left the resulting tree (`RanPlainly`). The job, including
  -- its monitoring file, is then what the end of a turn makes of the work that the program returned. The text added to a
  -- terminal's file is printed, and a job that ends prints its file.
  pub record PrintsPlainly (w : World) (tree : Tree) (number : ℕ) (charge : Option Charge) (before new : World) : Type 0 where
    pub job : JobState
    pub job_is : job_of w number ≡ Some job
    pub work : Work
    pub after : Tree
    pub turn : Turn
    pub next : JobState
    pub ran : RanPlainly job.user tree (turn_work job) work after
    pub priced : IsPriced tariffs tariff work charge
    pub ends : turn_end job work charge ≡ Some (turn, next)
    pub kept : IsBehindCalls w before
    pub told : new ≡ record (turn_told next turn (shows job next before)) { turn = None; phase = Turned }
    pub tree_is : tree_of new.store ≡ Some after

  -- every turn of every run, from its beginning to its end
  abbrev pub TurnsPrintPlainly : Type 0
  TurnsPrintPlainly = (lines : List Timed) (bad : Option ℕ) (s : State) (front within : List Move) (w before new : World) (number ended : ℕ) (charge : Option Charge) (tree : Tree)
      → AreTimed lines → Run tariffs tariff rules rule (start lines bad s) front w → tree_of w.store ≡ Some tree
      → Run tariffs tariff rules rule w (Begin number ∷ within) before → All IsWithin within → Step tariffs tariff rules rule before (TurnOver ended charge) new
      → (ended ≡ number) × PrintsPlainly w tree number charge before new
