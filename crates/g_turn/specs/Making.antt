-- What the code of a turn takes from the levels.
use Rattle.std.specs.Prelude.{length, ◌<◌, ◌≤◌}
use Rattle.g_turn.specs.State.{AgainCommand, AgainLine, Pending, Work}
use Rattle.g_turn.specs.declared.turning.Next.{Next}
use Rattle.g_turn.specs.declared.turning.Next.TheVariants as next
use Rattle.g_macro.specs.Levels.{Line, Nothing, Taken, TooLong}

-- The value of the code as what is taken.
abbrev pub taken_as : Next → Taken
taken_as next.Nothing = Nothing
taken_as (next.Line text) = Line text
taken_as (next.TooLong front) = TooLong front

-- If a line is taken, there is a level.
abbrev pub HasLevel : Next → Work → Type 0
HasLevel next.Nothing w = Unit {0}
HasLevel (next.Line text) w = 0 < length w.desk.levels.levels
HasLevel (next.TooLong front) w = Unit {0}

-- What was transferred before a command that waits is within the limits of a line.
abbrev pub FewBlocks : Pending → Type 0
FewBlocks (AgainLine text) = Unit {0}
FewBlocks (AgainCommand text orders blocks command) = blocks ≤ 2048
