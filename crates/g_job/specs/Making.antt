-- The completed work of a turn.
use Rattle.std.specs.Prelude.{Bool, List, ℕ}
use Rattle.g_turn.specs.Bounds.{IsWithin}
use Rattle.g_turn.specs.State.{Work}
use Rattle.g_turn.specs.Steps.{RanWell}
use Rattle.g_job.specs.Beginning.{room_of}
use Rattle.g_job.specs.Rules.{IsGoneOnWith, IsJob}
use Rattle.g_job.specs.State.{JobState}
use Rattle.g_job.specs.Turns.{turn_work}
use Rattle.g_plain.specs.Programs.{Answer}
use Rattle.g_plain.specs.declared.calls.StoreCall.{StoreCall}

module _ {S : Type 0} (answers : S → List ℕ → StoreCall → Answer → S → Type 0) (is_spent : S → Bool) (can_wait : S → ℕ → Bool) where
  -- The work of a job's turn was done; it led the store from `old` to `new`.
  pub record Makes (j : JobState) (old : S) (w : Work) (new : S) : Type 0 where
    pub ran : RanWell answers is_spent can_wait j.user old (turn_work j) w new
    pub within : IsWithin (room_of j) w
    pub gone : IsGoneOnWith j.monitor w
