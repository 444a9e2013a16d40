-- Works that continue, and honest programs: closure under the ways to build them.
-- serves: CommandLemmas, RunLemmas, VerbLemmas
use Rattle.std.proofs.Common.{◌≡◌, ℕ, Bool, true, false, List, [], ◌∷◌, ◌++◌, ◌+◌, length, nat_lt, Option, Some, None, Err, is_some, if◌then◌else◌, refl, sym, ap, subst}
use Rattle.g_turn.specs.Causes.{GoesOn, IsHonest, IsOther, StopsAt}
use Rattle.g_turn.specs.Outcomes.{set_outcome, in_error, is_over, refused, say, say_all, stopped}
use Rattle.g_turn.specs.State.{Broken, Full, Stop, Waits, Work}
use Rattle.g_lines.specs.Lines.{ended}
use Rattle.g_macro.specs.declared.outcome.EventNote.TheVariants as note
use Rattle.g_monitor.specs.JobLines.{marked}
use Rattle.g_monitor.specs.Refusals.{error_line, fault_line}
use Rattle.g_monitor.specs.declared.errors.CommandError.{CommandError}
use Rattle.g_monitor.specs.declared.job_lines.Mark.TheVariants as mark
use Rattle.g_plain.specs.Programs.{Asks, Call, Gives, and_then}
use Rattle.g_plain.specs.declared.faults.StoreFault.{StoreFault}
use Rattle.g_plain.specs.declared.faults.StoreFault.TheVariants as fault

-- if either of two works continues, so does the chosen one
pub if_goes : (b : Bool) (x y : Work) → GoesOn x.stop → GoesOn y.stop → GoesOn (if b then x else y).stop
if_goes true x y gx gy = gx
if_goes false x y gx gy = gy

-- either of two programs is honest
pub if_honest : (b : Bool) (p q : Asks Work) → IsHonest p → IsHonest q → IsHonest (if b then p else q)
if_honest true p q hp hq = hp
if_honest false p q hp hq = hq

pub say_goes : (room : ℕ) (line : List ℕ) (w : Work) → GoesOn w.stop → GoesOn (say room line w).stop
say_goes room line w goes = if_goes (nat_lt room (length w.text + length (ended line))) (stopped Full w) (record w { text = w.text ++ ended line }) tt goes

pub say_all_goes : (room : ℕ) (lines : List (List ℕ)) (w : Work) → GoesOn w.stop → GoesOn (say_all room lines w).stop
say_all_goes room [] w goes = goes
say_all_goes room (line ∷ lines) w goes =
    if_goes (is_over (say room line w)) (say room line w) (say_all room lines (say room line w)) (say_goes room line w goes)
    (say_all_goes room lines (say room line w) (say_goes room line w goes))

pub error_goes : (room : ℕ) (error : CommandError) (w : Work) → GoesOn w.stop → GoesOn (in_error room error w).stop
error_goes room error w goes = say_goes room (marked mark.Error (error_line error)) (set_outcome true note.None w) goes

pub refused_goes : (room : ℕ) (refusal : StoreFault) (w : Work) → IsOther (Err refusal) → GoesOn w.stop → GoesOn (refused room refusal w).stop
refused_goes room (fault.WaitTape serial) w other goes = absurd other
refused_goes room fault.Stopped w other goes = absurd other
refused_goes room refusal w other goes = say_goes room (marked mark.Error (fault_line refusal)) (set_outcome true note.None w) goes

-- a work that isn't over neither waits nor was stopped
none_goes : (stop : Option Stop) → is_some stop ≡ false → GoesOn stop
none_goes None is = tt
none_goes (Some stop) is = absurd cc

pub not_over_goes : (w : Work) → is_over w ≡ false → GoesOn w.stop
not_over_goes w is = none_goes w.stop is

-- an honest program followed by another is honest
stops_then : (stop : Stop) (p : Asks Work) (next : Work → Asks Work) → StopsAt stop p → StopsAt stop (and_then is_over p next)
stops_then stop (Gives x) next s =
    let over : is_over x ≡ true = ap (λ (o : Option Stop). is_some o) s in
    subst (λ (b : Bool). StopsAt stop (if b then Gives x else next x)) (sym over) s
stops_then stop (Call call more) next s = absurd s

pub honest_then : (p : Asks Work) (next : Work → Asks Work) → IsHonest p → ((w : Work) → is_over w ≡ false → IsHonest (next w)) → IsHonest (and_then is_over p next)
honest_then (Gives x) next h n = at_end (is_over x) refl
  where
    at_end : (b : Bool) → is_over x ≡ b → IsHonest (if b then Gives x else next x)
    at_end true e = h
    at_end false e = n x e
honest_then (Call call more) next h n = (
  (λ serial. stops_then (Waits serial) (more (Err (fault.WaitTape serial))) next (h.0 serial)),
  stops_then Broken (more (Err fault.Stopped)) next h.1,
  (λ answer other. honest_then (more answer) next (h.2 answer other) n),
)
