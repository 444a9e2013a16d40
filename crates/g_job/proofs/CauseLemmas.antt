-- The last answer of an honest program is the reason why its work is over.
-- serves: turns_say_why_they_are_over, TurnLemmas
use Rattle.std.proofs.Common.{◌≡◌, ℕ, List, [], ◌∷◌, Option, Some, Err, refl, sym, ap, ◌∙◌, subst}
use Rattle.g_turn.specs.Causes.{CauseOf, GoesOn, IsHonest, IsOther, StopsAt, last_answer}
use Rattle.g_turn.specs.State.{Broken, Stop, Waits, Work}
use Rattle.g_job.specs.State.{JobState}
use Rattle.g_job.specs.Turns.{turn_work}
use Rattle.g_job.proofs.TurnBounds.{turn_honest}
use Rattle.g_plain.specs.Programs.{Answer, Asks, Call, Gives, IsAnswer}
use Rattle.g_plain.specs.Runs.{RanBy}
use Rattle.g_plain.specs.declared.calls.StoreCall.{StoreCall}
use Rattle.g_plain.specs.declared.faults.StoreFault.TheVariants as fault

-- these answers, in this order, lead the program to its result
abbrev pub LeadsTo : {A : Type 0} → Asks A → List Answer → A → Type 0
LeadsTo (Gives x) [] given = given ≡ x
LeadsTo (Gives x) (answer ∷ answers) given = ⊥
LeadsTo (Call call more) [] given = ⊥
LeadsTo (Call call more) (answer ∷ answers) given = IsAnswer answer × LeadsTo (more answer) answers given

-- the answers of a run lead its program to the result of the run
module _ {S A : Type 0} (answers : S → List ℕ → StoreCall → Answer → S → Type 0) (who : List ℕ) where
  leads_of : (p : Asks A) (told : List Answer) (old : S) (given : A) (new : S) → RanBy answers who old p told given new → LeadsTo p told given
  leads_of (Gives x) [] old given new r = r.0
  leads_of (Gives x) (a ∷ told) old given new r = absurd r
  leads_of (Call asked more) [] old given new r = absurd r
  leads_of (Call asked more) (a ∷ told) old given new (mid, is, real, rest) = (real, leads_of (more a) told mid given new rest)

-- and to no other
leads_one : {A : Type 0} (p : Asks A) (told : List Answer) (one other : A) → LeadsTo p told one → LeadsTo p told other → one ≡ other
leads_one (Gives x) [] one other l m = l ∙ sym m
leads_one (Gives x) (a ∷ told) one other l m = absurd l
leads_one (Call asked more) [] one other l m = absurd l
leads_one (Call asked more) (a ∷ told) one other l m = leads_one (more a) told one other l.1 m.1

-- if a program stops at once, that answer was the last
stops_last : (stop : Stop) (p : Asks Work) (answers : List Answer) (w : Work) → StopsAt stop p → LeadsTo p answers w → (answers ≡ []) × (w.stop ≡ Some stop)
stops_last stop (Gives x) [] w s l = (refl, ap (λ (y : Work). y.stop) l ∙ s)
stops_last stop (Gives x) (a ∷ rest) w s l = absurd l
stops_last stop (Call call more) answers w s l = absurd s

-- an answer that is neither a wait nor a stop, before others
other_first : (a : Answer) (rest : List Answer) (stop : Option Stop) → IsOther a → CauseOf (last_answer rest) stop → CauseOf (last_answer (a ∷ rest)) stop
other_first (Err (fault.WaitTape serial)) rest stop other c = absurd other
other_first (Err fault.Stopped) rest stop other c = absurd other
other_first a [] stop other c = c
other_first a (b ∷ bs) stop other c = c

by_wait : (serial : ℕ) (rest : List Answer) (w : Work) → (rest ≡ []) × (w.stop ≡ Some (Waits serial)) → CauseOf (last_answer (Err (fault.WaitTape serial) ∷ rest)) w.stop
by_wait serial rest w both = subst (λ (xs : List Answer). CauseOf (last_answer (Err (fault.WaitTape serial) ∷ xs)) w.stop) (sym both.0) both.1

by_stop : (rest : List Answer) (w : Work) → (rest ≡ []) × (w.stop ≡ Some Broken) → CauseOf (last_answer (Err fault.Stopped ∷ rest)) w.stop
by_stop rest w both = subst (λ (xs : List Answer). CauseOf (last_answer (Err fault.Stopped ∷ xs)) w.stop) (sym both.0) both.1

-- for any answers that lead an honest program to its work, the last of them is the cause
honest_cause : (p : Asks Work) (answers : List Answer) (w : Work) → IsHonest p → LeadsTo p answers w → CauseOf (last_answer answers) w.stop
honest_cause (Gives x) [] w h l = subst (λ (y : Work). GoesOn y.stop) (sym l) h
honest_cause (Gives x) (a ∷ rest) w h l = absurd l
honest_cause (Call call more) [] w h l = absurd l
honest_cause (Call call more) (Err (fault.WaitTape serial) ∷ rest) w h l =
    by_wait serial rest w (stops_last (Waits serial) (more (Err (fault.WaitTape serial))) rest w (h.0 serial) l.1)
honest_cause (Call call more) (Err fault.Stopped ∷ rest) w h l = by_stop rest w (stops_last Broken (more (Err fault.Stopped)) rest w h.1 l.1)
honest_cause (Call call more) (a ∷ rest) w h l = other_first a rest w.stop tt (honest_cause (more a) rest w (h.2 a tt) l.1)

module _ {S : Type 0} (answers : S → List ℕ → StoreCall → Answer → S → Type 0) where
  -- the cause of a turn's end is its last answer, and its answers determine one work
  pub turn_cause : (j : JobState) (old : S) (told : List Answer) (work : Work) (new : S) → RanBy answers j.user old (turn_work j) told work new → CauseOf (last_answer told) work.stop
  turn_cause j old told work new r = honest_cause (turn_work j) told work (turn_honest j) (leads_of answers j.user (turn_work j) told old work new r)

  pub turn_one : (j : JobState) (told : List Answer) (old : S) (work : Work) (new : S) (old' : S) (work' : Work) (new' : S)
      → RanBy answers j.user old (turn_work j) told work new → RanBy answers j.user old' (turn_work j) told work' new' → work ≡ work'
  turn_one j told old work new old' work' new' r s =
      leads_one (turn_work j) told work work' (leads_of answers j.user (turn_work j) told old work new r) (leads_of answers j.user (turn_work j) told old' work' new' s)
