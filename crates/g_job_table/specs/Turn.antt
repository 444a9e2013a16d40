-- A job's turn.
use Rattle.std.specs.Prelude.{◌≡◌, ℕ, List, Option, Some, None, length}
use Rattle.std.specs.Fn.{Shared}
use denote.Ref.{Bor}
use Rattle.g_rules.specs.declared.tariff.Usage.{Usage}
use Rattle.g_rules.specs.declared.tariff.Charge.{Charge}
use Rattle.g_turn.specs.Bounds.{IsWithin}
use Rattle.g_turn.specs.Causes.{CauseOf, last_answer}
use Rattle.g_turn.specs.State.{Work}
use Rattle.g_job.specs.Beginning.{room_of}
use Rattle.g_job.specs.TurnEnd.{IsTurn}
use Rattle.g_job.specs.Spending.{KeepsSeat, Spends, ToldAsBefore}
use Rattle.g_job.specs.State.{JobState}
use Rattle.g_job.specs.Turns.{turn_work}
use Rattle.g_rules.specs.declared.turn.Turn.{Turn}
use Rattle.g_rules.specs.declared.turn.Turn.TheVariants as turns
use Rattle.g_plain.specs.Programs.{Answer}
use Rattle.g_plain.specs.Runs.{RanBy}
use Rattle.g_plain.specs.declared.calls.StoreCall.{StoreCall}

-- The place in its job's file from which a turn is printed, if the job is at a terminal.
abbrev pub shown_from : JobState → Option ℕ
shown_from job = from job.terminal
  where
    from : Option ℕ → Option ℕ
    from None = None
    from (Some t) = Some (length job.monitor)

module _ {S F : Type 0} (answers : S → List ℕ → StoreCall → Answer → S → Type 0) (tariffs : Shared F (Bor Usage × Unit {0}) Charge) (tariff : F) where
  -- A JOB TOOK A TURN on a store: its calls and their answers, why its work is over, what it used, and how it ended.
  pub record TakesTurn (job : JobState) (old : S) (turn : Turn) (after : JobState) (new : S) : Type 0 where
    pub told : List Answer
    pub work : Work
    pub ran : RanBy answers job.user old (turn_work job) told work new
    pub cause : CauseOf (last_answer told) work.stop
    pub within : IsWithin (room_of job) work
    pub ends : IsTurn tariffs tariff job work turn after
    pub spends : Spends job turn after
    pub waited : (serial : ℕ) → turn ≡ turns.Wants serial → ToldAsBefore job after
    pub seat : KeepsSeat job after
