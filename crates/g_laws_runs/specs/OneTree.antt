-- A whole run on one tree: each call of each job is answered for the tree that the moves before it left, and no other move
-- changes it except FORMAT and RESTORE.
use Rattle.std.specs.Prelude.{◌≡◌, ◌⊎◌, ℕ, List, [], ◌∷◌, Option, Some}
use Rattle.std.specs.Fn.{Shared}
use denote.Ref.{Bor}
use Rattle.g_rules.specs.declared.tariff.Charge.{Charge}
use Rattle.g_rules.specs.declared.tariff.Usage.{Usage}
use Rattle.g_rules.specs.declared.rule.Standing.{Standing}
use Rattle.g_turn.specs.State.{Work}
use Rattle.g_job.specs.State.{JobState}
use Rattle.g_plain.specs.Programs.{Answer, Asks, Call}
use Rattle.g_plain.specs.PlainTree.{Tree}
use Rattle.g_plain.specs.PlainAnswers.{PlainOrDevice}
use Rattle.g_plain.specs.declared.calls.StoreCall.{StoreCall}
use Rattle.g_run_model.specs.Accounts.{tree_of}
use Rattle.g_run_model.specs.Laws.{tree_behind}
use Rattle.g_run_model.specs.Moves.{Answered, Begin, Dumped, Move, Over, Run, Step, TakeLine, Ticked, TurnOver}
use Rattle.g_run_model.specs.World.{World, job_of}

-- A call was answered, for this tree, as the plain tree answers it, or with a wait, a device error, or a stop; the job
-- continues with that answer.
pub record IsAnsweredOn (tree : Option Tree) (w : World) (after : Option Tree) (new : World) : Type 0 where
  pub before : Tree
  pub behind : Tree
  pub before_is : tree ≡ Some before
  pub behind_is : after ≡ Some behind
  pub number : ℕ
  pub call : StoreCall
  pub more : Answer → Asks Work
  pub job : JobState
  pub answer : Answer
  pub asks : w.turn ≡ Some (number, Call call more)
  pub asker : job_of w number ≡ Some job
  pub plain : PlainOrDevice before job.user call answer behind
  pub goes_on : new.turn ≡ Some (number, more answer)

-- What a move does to the tree: a line leaves it unchanged, or installs its own, as FORMAT and RESTORE do.
abbrev pub MovesOn : Move → Option Tree → World → Option Tree → World → Type 0
MovesOn (TakeLine tape o) tree w after new = (after ≡ tree) ⊎ (after ≡ tree_behind w (TakeLine tape o))
MovesOn (Dumped o) tree w after new = after ≡ tree
MovesOn (Begin number) tree w after new = after ≡ tree
MovesOn (Answered o) tree w after new = IsAnsweredOn tree w after new
MovesOn (TurnOver number charge) tree w after new = after ≡ tree
MovesOn Ticked tree w after new = after ≡ tree
MovesOn Over tree w after new = after ≡ tree

module _ {F U : Type 0} (tariffs : Shared F (Bor Usage × Unit {0}) Charge) (tariff : F) (rules : Shared U (Bor Standing × Unit {0}) ℕ) (rule : U) where
  -- the moves of a run, each on the tree that its predecessor has left
  abbrev pub RunOn : Option Tree → World → List Move → Option Tree → World → Type 0
  RunOn tree w [] after new = (new ≡ w) × (after ≡ tree)
  RunOn tree w (move ∷ moves) after new =
      (mid : World) × (between : Option Tree) × Step tariffs tariff rules rule w move mid × MovesOn move tree w between mid × RunOn between mid moves after new

  -- every run is one on the tree that the store has when it begins
  abbrev pub RunsOnOneTree : Type 0
  RunsOnOneTree = (w last : World) (moves : List Move) → Run tariffs tariff rules rule w moves last → RunOn (tree_of w.store) w moves (tree_of last.store) last
