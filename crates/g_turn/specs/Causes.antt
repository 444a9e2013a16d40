-- The reason why a turn's work is over, by the last answer that it got.
use Rattle.std.specs.Prelude.{Err, List, None, Option, Some, [], ℕ, ◌∷◌, ◌≡◌}
use Rattle.g_turn.specs.State.{Broken, Stop, Waits, Work}
use Rattle.g_plain.specs.Programs.{Answer, Asks, Call, Gives}
use Rattle.g_plain.specs.declared.faults.StoreFault.TheVariants as fault

-- The last answer of a list, if there is one.
abbrev pub last_answer : List Answer → Option Answer
last_answer [] = None
last_answer (answer ∷ []) = Some answer
last_answer (answer ∷ other ∷ answers) = last_answer (other ∷ answers)

-- The work neither waits nor was stopped.
abbrev pub GoesOn : Option Stop → Type 0
GoesOn (Some (Waits serial)) = ⊥
GoesOn (Some Broken) = ⊥
GoesOn stop = Unit {0}

-- WHY A TURN'S WORK IS OVER: it waits for a reel if and only if its last answer was a wait for that reel, and it was stopped if and only if that
-- answer was a stop.
abbrev pub CauseOf : Option Answer → Option Stop → Type 0
CauseOf None stop = GoesOn stop
CauseOf (Some (Err (fault.WaitTape serial))) stop = stop ≡ Some (Waits serial)
CauseOf (Some (Err fault.Stopped)) stop = stop ≡ Some Broken
CauseOf (Some answer) stop = GoesOn stop

-- The program is done, and the work is over for this reason.
abbrev pub StopsAt : Stop → Asks Work → Type 0
StopsAt stop (Gives w) = w.stop ≡ Some stop
StopsAt stop (Call call more) = ⊥

-- The answer is neither a wait nor a stop.
abbrev pub IsOther : Answer → Type 0
IsOther (Err (fault.WaitTape serial)) = ⊥
IsOther (Err fault.Stopped) = ⊥
IsOther answer = Unit {0}

-- AN HONEST PROGRAM: at a wait or a stop it makes no further call and returns that reason; otherwise it never returns one of them.
abbrev pub IsHonest : Asks Work → Type 0
IsHonest (Gives w) = GoesOn w.stop
IsHonest (Call call more) =
    ((serial : ℕ) → StopsAt (Waits serial) (more (Err (fault.WaitTape serial))))
    × StopsAt Broken (more (Err fault.Stopped))
    × ((answer : Answer) → IsOther answer → IsHonest (more answer))
