-- Invariants of the code of a line: what the turn resumes with, and its level.
-- serves: append, behind_echo (err), drop_again, drop_program (err), fire_first (err, ok), fires (err), goes (err, ready), long_line (err), put, and 11 more
use Rattle.std.proofs.Common.{◌≡◌, ℕ, ◌<◌, ◌≤◌, Bool, true, false, List, [], ◌∷◌, length, Option, Some, None, Result, Ok, Err, IfSome, OnErr, is_some, refl, sym, ap, ◌∙◌, subst, arith}
use Rattle.std.proofs.lemmas.Bool.{false≢true}
use Rattle.g_base.specs.declared.memory.NoMemory.{NoMemory}
use Rattle.g_turn.specs.Commands.{done_if}
use Rattle.g_turn.specs.LineWork.{FiredAs, IsAgain, IsReady}
use Rattle.g_turn.specs.Lines.{fires, may_fire}
use Rattle.g_turn.specs.Releases.{end_job}
use Rattle.g_turn.specs.Runs.{goes_on}
use Rattle.g_turn.specs.Outcomes.{say, stopped, with_levels}
use Rattle.g_turn.specs.State.{Full, Pending, Work}
use Rattle.g_turn.specs.Steps.{RanWell}
use Rattle.g_turn.proofs.KeptLemmas.{Keeps, KeepsLines, end_keeps, goes_on_keeps, said_keeps}
use Rattle.g_turn.proofs.WellThen.{well_gives}
use Rattle.g_lang.specs.Lines.{IsCommandText, Said}
use Rattle.g_lines.specs.Lines.{ended}
use Rattle.g_macro.specs.Levels.{Level, Stack, called, changed, entry_that_holds, fired, with_current}
use Rattle.g_macro.specs.Replies.{Fires}
use Rattle.g_macro.specs.declared.entry.Entry.{Entry}
use Rattle.g_macro.specs.declared.outcome.Outcome.{Outcome}
use Rattle.g_plain.proofs.AskLemmas.{RanInPart-none}
use Rattle.g_plain.specs.Programs.{Answer, Asks, Gives, RanInPart}
use Rattle.g_plain.specs.declared.calls.StoreCall.{StoreCall}
use Rattle.std.specs.Prelude.{nat_lt, if◌then◌else◌, ◌++◌, ◌+◌}

-- a property that holds after an error, for any outcome
pub on_err : {T E P : Type 0} (r : Result T E) → P → OnErr r P
on_err (Ok x) p = tt
on_err (Err e) p = p

-- an option that isn't known to have a value has none
pub nothing : {A : Type 0} (o : Option A) → is_some o ≡ false → o ≡ None
nothing None is = refl
nothing (Some x) is = absurd (false≢true (sym is))

-- there are at least this many levels, also after replacing the current one or pushing a macro's
abbrev AtLeast : ℕ → Stack → Type 0
AtLeast n s = n ≤ length s.levels

many : (n : ℕ) (change : Level → Level) (levels : List Level) → n ≤ length levels → n ≤ length (changed change levels)
many n change [] h = h
many n change (level ∷ below) h = h

on_change : (n : ℕ) (change : Level → Level) → KeepsLines change → (s : Stack) → AtLeast n s → AtLeast n (with_current change s)
on_change n change same s h = many n change s.levels h

on_call : (n : ℕ) (lines params : List (List ℕ)) (s : Stack) → AtLeast n s → AtLeast n (called lines params s)
on_call n lines params s h = let more : n ≤ length s.levels = h in omega (arith, more)

-- no call was made before memory ran out
pub err_none : {S : Type 0} (answers : S → List ℕ → StoreCall → Answer → S → Type 0) (who : List ℕ) (p : Asks Work) (old : S) (r : Result (Unit {0}) NoMemory)
    → OnErr r (RanInPart answers who old p old)
err_none answers who p old (Ok x) = tt
err_none answers who p old (Err e) = RanInPart-none answers who p old

module _ {S : Type 0} (answers : S → List ℕ → StoreCall → Answer → S → Type 0) (is_spent : S → Bool) (can_wait : S → ℕ → Bool) (who : List ℕ) where
  -- after a command
  pub said_ready : (room : ℕ) (by : Bool) (said : Option Said) (w v : Work) (old new : S) → IsReady w → 0 < length w.desk.levels.levels
      → RanWell answers is_spent can_wait who old (done_if room who by said w) v new → IsReady v
  said_ready room by said w v old new ready level r =
      let k : Keeps w.again (AtLeast 1) v = well_gives answers is_spent can_wait who (Keeps w.again (AtLeast 1)) (done_if room who by said w) old v new (said_keeps w.again (AtLeast 1) room (on_change 1) (on_call 1) who by said w (refl, level)) r in
      record { command = subst (λ (a : Option Pending). IfSome a IsAgain) (sym k.0) ready.command; level = λ there. k.1 }

  -- if no WHENEVER fires, nothing is done
  pub none_fires : (room : ℕ) (w : Work) (s : S) → fired w.desk.outcome w.desk.levels.levels ≡ None → RanWell answers is_spent can_wait who s (may_fire room who w) w s
  none_fires room w s none =
      subst (λ (o : Option (List ℕ × List Level)). RanWell answers is_spent can_wait who s (if w.sets then fires room who o w else Gives w) w s) (sym none) (by w.sets)
    where
      by : (b : Bool) → RanWell answers is_spent can_wait who s (if b then Gives w else Gives w) w s
      by true = (refl, refl)
      by false = (refl, refl)

  -- after the release of all units at the job's end
  pub end_ready : (room : ℕ) (w v : Work) (old new : S) → w.again ≡ None → RanWell answers is_spent can_wait who old (end_job room w) v new → IsReady v
  end_ready room w v old new none r =
      let k : Keeps w.again (AtLeast 0) v = well_gives answers is_spent can_wait who (Keeps w.again (AtLeast 0)) (end_job room w) old v new (end_keeps w.again (AtLeast 0) room w (refl, omega arith)) r in
      let still : v.again ≡ None = k.0 ∙ none in
      record {
        command = subst (λ (a : Option Pending). IfSome a IsAgain) (sym still) tt;
        level = λ there. absurd (false≢true (ap (λ (a : Option Pending). is_some a) (sym still) ∙ there));
      }

-- a work with nothing to resume with is ready
pub none_ready : (w : Work) → w.again ≡ None → IsReady w
none_ready w none = record {
  command = subst (λ (a : Option Pending). IfSome a IsAgain) (sym none) tt;
  level = λ there. absurd (false≢true (ap (λ (a : Option Pending). is_some a) (sym none) ∙ there));
}

-- after a run of the program
pub run_ready : (room : ℕ) (w v : Work) → w.again ≡ None → v ≡ goes_on room w → v.again ≡ None
run_ready room w v none is = ap (λ (x : Work). x.again) is ∙ (goes_on_keeps w.again (AtLeast 0) room w (refl, omega arith)).0 ∙ none

-- the levels of a WHENEVER that fires include its own
abbrev pub levels_in : Option (List ℕ × List Level) → List Level
levels_in None = []
levels_in (Some both) = both.1

by_entry : (level : Level) (below : List Level) (others : Option (List ℕ × List Level)) (o : Option Entry) (text : List ℕ) (kept : List Level)
    → (others ≡ Some (text, kept) → 0 < length kept)
    → ◌≡◌ {A = Option (List ℕ × List Level)} (elim o [ Some entry ↦ Some (entry.command, level ∷ below) | None ↦ others ]) (Some (text, kept)) → 0 < length kept
by_entry level below others None text kept again same = again same
by_entry level below others (Some entry) text kept again same = subst (λ (ls : List Level). 0 < length ls) (ap levels_in same) (omega arith)

fired_some : (outcome : Outcome) (levels : List Level) (text : List ℕ) (kept : List Level) → fired outcome levels ≡ Some (text, kept) → 0 < length kept
fired_some outcome [] text kept is = absurd (cc)
fired_some outcome (level ∷ below) text kept is =
    by_entry level below (fired outcome below) (entry_that_holds level outcome) text kept (fired_some outcome below text kept) is

pub fired_level : (text : List ℕ) (old new : Work) → FiredAs (Some text) old new → 0 < length new.desk.levels.levels
fired_level text old new (levels, is, same, command) =
    subst (λ (w : Work). 0 < length w.desk.levels.levels) (sym same) (fired_some old.desk.outcome old.desk.levels.levels text levels is)

pub fired_ready : (text : List ℕ) (old new : Work) → FiredAs (Some text) old new → IsReady old → IsReady new
fired_ready text old new f ready = record {
  command = subst (λ (w : Work). IfSome w.again IsAgain) (sym f.2) ready.command;
  level = λ there. fired_level text old new f;
}

-- the levels determine which WHENEVER fires
pub fired_as : (w : Work) (levels : Stack) (text : Option (List ℕ)) → Fires w.desk.outcome w.desk.levels levels (Ok text) → IfSome text IsCommandText → FiredAs text w (with_levels levels w)
fired_as w levels None f command = (f.0, ap (λ (l : Stack). with_levels l w) f.1)
fired_as w levels (Some text) f command = (
  levels.levels,
  f.0,
  ap (λ (held : Bool). with_levels (record { levels = levels.levels; held = held }) w) f.1,
  command,
)

-- what a turn resumes with may be noted before or after its line is printed
noted : (b : Bool) (again : Option Pending) (text : List ℕ) (w : Work)
    → record (if b then stopped Full w else record w { text = w.text ++ ended text }) { again = again }
    ≡ (if b then stopped Full (record w { again = again }) else record w { text = w.text ++ ended text; again = again })
noted true again text w = refl
noted false again text w = refl

pub again_said : (room : ℕ) (again : Option Pending) (text : List ℕ) (w v : Work) → v ≡ say room text w → record v { again = again } ≡ say room text (record w { again = again })
again_said room again text w v is =
    ap (λ (x : Work). record x { again = again }) is ∙ noted (nat_lt room (length w.text + length (ended text))) again text w
