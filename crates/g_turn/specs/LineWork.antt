-- Invariants of the code of a line, the preconditions of a command, and how a WHENEVER fires.
use Rattle.std.specs.Prelude.{Bool, IfSome, List, None, Option, Some, false, is_some, length, true, ℕ, ◌<◌, ◌≡◌, ◌≤◌}
use Rattle.g_turn.specs.Outcomes.{is_over, with_levels}
use Rattle.g_turn.specs.State.{AgainCommand, AgainLine, Pending, Work}
use Rattle.g_lang.specs.Lines.{IsCommandText}
use Rattle.g_macro.specs.Levels.{Level, fired}

-- If a turn resumes with a command, its text is that of a command.
abbrev pub IsAgain : Pending → Type 0
IsAgain (AgainLine text) = Unit {0}
IsAgain (AgainCommand text orders blocks command) = IsCommandText command

-- What a turn resumes with is well-formed, and there is a level for it.
pub record IsReady (w : Work) : Type 0 where
  pub command : IfSome w.again IsAgain
  pub level : is_some w.again ≡ true → 0 < length w.desk.levels.levels

-- THE PRECONDITIONS OF A COMMAND: the store isn't spent; the work isn't over, has a level, and has transferred no more blocks than a line may.
pub record TakesCommand (is_spent : Bool) (w : Work) : Type 0 where
  pub running : is_spent ≡ false
  pub going : is_over w ≡ false
  pub few : w.blocks ≤ 2048
  pub level : 0 < length w.desk.levels.levels

-- No WHENEVER fires and the work is unchanged, or this command fires and its level becomes the current one.
abbrev pub FiredAs : Option (List ℕ) → Work → Work → Type 0
FiredAs None old new = (fired old.desk.outcome old.desk.levels.levels ≡ None) × (new ≡ old)
FiredAs (Some text) old new =
    (levels : List Level) × (fired old.desk.outcome old.desk.levels.levels ≡ Some (text, levels))
    × (new ≡ with_levels (record old.desk.levels { levels = levels }) old) × IsCommandText text
