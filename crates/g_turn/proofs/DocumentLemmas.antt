-- No turn changes the lines of a job's document, or whether it is held open. A turn may drop the document once it isn't held open.
-- serves: crates above
use Rattle.std.proofs.Common.{◌≡◌, ◌⊎◌, ℕ, ◌<◌, Bool, true, false, List, [], ◌∷◌, length, nat_le, Option, Some, None, Result, Ok, Err, IfSome, is_some, refl, sym, ◌∙◌, ap, subst, inl, inr, if◌then◌else◌, ◌||◌, ◌&&◌, take, arith}
use Rattle.std.proofs.lemmas.Bool.{false≢true}
use Rattle.g_turn.specs.Bounds.{AlwaysGives}
use Rattle.g_turn.specs.Commands.{done_if}
use Rattle.g_turn.specs.Lines.{behind_echo, does_fired, does_line, does_read, fires, line, long_line, may_fire, says_fired, says_line, takes, to_go_on, too_long}
use Rattle.g_turn.specs.Releases.{end_job}
use Rattle.g_turn.specs.Runs.{goes_on}
use Rattle.g_turn.specs.Outcomes.{in_error, say, with_levels}
use Rattle.g_turn.specs.State.{AgainCommand, AgainLine, Pending, Work}
use Rattle.g_turn.specs.Turns.{begins, fires_unless, runs_on, runs_or_takes, with_kept}
use Rattle.g_turn.proofs.BoundLemmas.{gives_more, if_gives, then_gives}
use Rattle.g_turn.proofs.KeptLemmas.{Keeps, KeepsLines, end_keeps, error_keeps, goes_on_keeps, said_keeps, say_keeps}
use Rattle.g_lang.specs.LineReader.{reading}
use Rattle.g_lang.specs.Lines.{Reading, Said}
use Rattle.g_lang.specs.Words.{trimmed}
use Rattle.g_macro.specs.Holding.{document_level}
use Rattle.g_macro.specs.Levels.{Level, Line, Nothing, Stack, Taken, TooLong, as_taken, called, changed, entry_that_holds, fired, has_line, is_last, level_of, line_at, line_taken, live, next_line, take_line, with_current}
use Rattle.g_macro.specs.Expansion.{substituted}
use Rattle.g_macro.specs.declared.entry.Entry.{Entry}
use Rattle.g_macro.specs.declared.outcome.Outcome.{Outcome}
use Rattle.g_monitor.specs.JobLines.{marked}
use Rattle.g_monitor.specs.declared.errors.CommandError.TheVariants as errors
use Rattle.g_monitor.specs.declared.job_lines.Mark.TheVariants as mark
use Rattle.g_plain.specs.Programs.{Asks, Gives}

-- the document is the last level, with these lines
abbrev pub Document : List (List ℕ) → List Level → Type 0
Document lines levels = (0 < length levels) × ((document_level levels).lines ≡ lines)

-- the document is the last level, or there is no level
abbrev pub SameOrNone : List (List ℕ) → List Level → Type 0
SameOrNone lines levels = (levels ≡ []) ⊎ ((document_level levels).lines ≡ lines)

no_level : {P : Type 0} → 0 < 0 → P
no_level less = absurd (let no : ⊥ = omega (arith, less) in no)

-- the current level is replaced by another with the same lines
change_lines : (change : Level → Level) → KeepsLines change → (level : Level) (below : List Level) → (document_level (change level ∷ below)).lines ≡ (document_level (level ∷ below)).lines
change_lines change same level [] = same level
change_lines change same level (other ∷ below) = refl

change_document : (change : Level → Level) → KeepsLines change → (lines : List (List ℕ)) (levels : List Level) → Document lines levels → Document lines (changed change levels)
change_document change same lines [] d = d
change_document change same lines (level ∷ below) d = (omega arith, change_lines change same level below ∙ d.1)

-- a macro's level is pushed
call_document : (level : Level) (lines : List (List ℕ)) (levels : List Level) → Document lines levels → Document lines (level ∷ levels)
call_document level lines [] d = no_level d.0
call_document level lines (other ∷ below) d = (omega arith, d.1)

-- the levels above that of a WHENEVER are dropped
abbrev FiresIn : List Level → Option (List ℕ × List Level) → Type 0
FiresIn levels found = IfSome found (λ x. (0 < length x.1) × ((document_level x.1).lines ≡ (document_level levels).lines))

fires_below : (level : Level) (below : List Level) (found : Option (List ℕ × List Level)) → FiresIn below found → (below ≡ [] → found ≡ None) → FiresIn (level ∷ below) found
fires_below level below None h none = tt
fires_below level [] (Some x) h none = absurd (let e : (let one : Option (List ℕ × List Level) = Some x in one ≡ None) = none refl in let no : ⊥ = cc in no)
fires_below level (other ∷ below) (Some x) h none = h

fired_none : (outcome : Outcome) (levels : List Level) → levels ≡ [] → fired outcome levels ≡ None
fired_none outcome levels is = ap (fired outcome) is

fired_document : (outcome : Outcome) (levels : List Level) → FiresIn levels (fired outcome levels)
fired_document outcome [] = tt
fired_document outcome (level ∷ below) = by (entry_that_holds level outcome) (fired_document outcome below)
  where
    by : (o : Option Entry) → FiresIn below (fired outcome below) → FiresIn (level ∷ below) (elim o [ Some entry ↦ Some (entry.command, level ∷ below) | None ↦ fired outcome below ])
    by (Some entry) rest = (omega arith, refl)
    by None rest = fires_below level below (fired outcome below) rest (fired_none outcome below)

-- the levels without a line are dropped
live_document : (held : Bool) (lines : List (List ℕ)) (levels : List Level) → SameOrNone lines levels → SameOrNone lines (live held levels)
live_document held lines [] h = inl refl
live_document held lines (level ∷ []) h = by (has_line level || (held && true))
  where
    by : (b : Bool) → SameOrNone lines (if b then level ∷ [] else [])
    by true = h
    by false = inl refl
live_document held lines (level ∷ other ∷ below) h = by (has_line level || (held && false)) (live_document held lines (other ∷ below) (deeper h))
  where
    deeper : SameOrNone lines (level ∷ other ∷ below) → SameOrNone lines (other ∷ below)
    deeper (inl none) = absurd (let no : ⊥ = cc in no)
    deeper (inr same) = inr same

    by : (b : Bool) → SameOrNone lines (live held (other ∷ below)) → SameOrNone lines (if b then level ∷ other ∷ below else live held (other ∷ below))
    by true rest = h
    by false rest = rest

module _ (held : Bool) (lines : List (List ℕ)) where
  abbrev pub Has : Stack → Type 0
  Has s = (s.held ≡ held) × Document lines s.levels

  abbrev pub Left : Stack → Type 0
  Left s = (s.held ≡ held) × SameOrNone lines s.levels

  on_change : (change : Level → Level) → KeepsLines change → (s : Stack) → Has s → Has (with_current change s)
  on_change change same s h = (h.0, change_document change same lines s.levels h.1)

  on_call : (new params : List (List ℕ)) (s : Stack) → Has s → Has (called new params s)
  on_call new params s h = (h.0, call_document (level_of new params) lines s.levels h.1)

  abbrev pub HasIt : Work → Type 0
  HasIt w = Has w.desk.levels

  -- and if the turn has something to resume with, it has a level
  abbrev pub GoesOnWell : Option Pending → List Level → Type 0
  GoesOnWell again levels = is_some again ≡ true → 0 < length levels

  abbrev pub LeavesIt : Work → Type 0
  LeavesIt w = Left w.desk.levels × GoesOnWell w.again w.desk.levels.levels

  leaves : (w : Work) → HasIt w → LeavesIt w
  leaves w h = ((h.0, inr h.1.1), λ some. h.1.0)

  nothing_on : (again : Option Pending) (levels : List Level) → again ≡ None → GoesOnWell again levels
  nothing_on again levels none some = absurd (false≢true (ap (λ (a : Option Pending). is_some a) (sym none) ∙ some))

  left_none : (w v : Work) → w.again ≡ None → Keeps w.again Left v → LeavesIt v
  left_none w v none k = (k.1, nothing_on v.again v.desk.levels.levels (k.0 ∙ none))

  module _ (room : ℕ) (who : List ℕ) where
    said_has : (by : Bool) (said : Option Said) (w : Work) → HasIt w → AlwaysGives HasIt (done_if room who by said w)
    said_has by said w h =
        gives_more (Keeps w.again Has) HasIt (λ v k. k.1) (done_if room who by said w) (said_keeps w.again Has room on_change on_call who by said w (refl, h))

    say_has : (text : List ℕ) (w : Work) → HasIt w → HasIt (say room text w)
    say_has text w h = (say_keeps w.again Has room text w (refl, h)).1

    -- the WHENEVER
    read_has : (r : Reading) (w : Work) → HasIt w → AlwaysGives HasIt (does_read room who r w)
    read_has (Err place) w h = h
    read_has (Ok said) w h = said_has true said.command w h

    does_fired_has : (text : List ℕ) (w : Work) → HasIt w → AlwaysGives HasIt (does_fired room who text w)
    does_fired_has text w h = read_has (reading text) (to_go_on text w) h

    fires_has : (entry : Option (List ℕ × List Level)) (w : Work) → HasIt w → FiresIn w.desk.levels.levels entry → AlwaysGives HasIt (fires room who entry w)
    fires_has None w h in_it = h
    fires_has (Some entry) w h in_it =
        then_gives HasIt HasIt (Gives (says_fired room entry.0 entry.1 w)) (does_fired room who entry.0)
        (say_has (marked mark.Fired entry.0) (with_levels (record w.desk.levels { levels = entry.1 }) w) (h.0, (in_it.0, in_it.1 ∙ h.1.1)))
        (λ v k over. k) (λ v k on. does_fired_has entry.0 v k)

    may_fire_has : (w : Work) → HasIt w → AlwaysGives HasIt (may_fire room who w)
    may_fire_has w h =
        if_gives HasIt w.sets (fires room who (fired w.desk.outcome w.desk.levels.levels) w) (Gives w)
        (fires_has (fired w.desk.outcome w.desk.levels.levels) w h (fired_document w.desk.outcome w.desk.levels.levels)) h

    -- a line
    does_line_has : (r : Reading) (w : Work) → HasIt w → AlwaysGives HasIt (does_line room who r w)
    does_line_has (Err place) w h = (error_keeps w.again Has room (errors.BadLine place) w (refl, h)).1
    does_line_has (Ok said) w h = said_has false said.command w h

    behind_has : (text : List ℕ) (w : Work) → HasIt w → AlwaysGives HasIt (behind_echo room who text w)
    behind_has text w h =
        then_gives HasIt HasIt (does_line room who (reading text) w) (may_fire room who) (does_line_has (reading text) w h) (λ v k over. k) (λ v k on. may_fire_has v k)

    line_has : (text : List ℕ) (w : Work) → HasIt w → AlwaysGives HasIt (line room who text w)
    line_has text w h =
        then_gives HasIt HasIt (Gives (says_line room text w)) (behind_echo room who text)
        (say_has (marked mark.Taken (trimmed text)) (record w { again = Some (AgainLine text) }) h) (λ v k over. k) (λ v k on. behind_has text v k)

    too_long_has : (w : Work) → HasIt w → AlwaysGives HasIt (too_long room who w)
    too_long_has w h =
        then_gives HasIt HasIt (Gives (in_error room (errors.BadLine 240) w)) (may_fire room who) (error_keeps w.again Has room (errors.BadLine 240) w (refl, h)).1
        (λ v k over. k) (λ v k on. may_fire_has v k)

    long_line_has : (front : List ℕ) (w : Work) → HasIt w → AlwaysGives HasIt (long_line room who front w)
    long_line_has front w h =
        then_gives HasIt HasIt (Gives (say room (marked mark.Taken front) w)) (too_long room who) (say_has (marked mark.Taken front) w h) (λ v k over. k) (λ v k on. too_long_has v k)

    weaker : (p : Asks Work) → AlwaysGives HasIt p → AlwaysGives LeavesIt p
    weaker p g = gives_more HasIt LeavesIt leaves p g

    end_leaves : (w : Work) → w.again ≡ None → Left w.desk.levels → AlwaysGives LeavesIt (end_job room w)
    end_leaves w none h = gives_more (Keeps w.again Left) LeavesIt (λ v k. left_none w v none k) (end_job room w) (end_keeps w.again Left room w (refl, h))

    -- what is taken from the levels
    as_taken_leaves : (text : List ℕ) (w : Work) → HasIt w → AlwaysGives LeavesIt (takes room who (as_taken text) w)
    as_taken_leaves text w h = by (nat_le (length text) 240)
      where
        by : (b : Bool) → AlwaysGives LeavesIt (takes room who (if b then Line text else TooLong (take 240 text)) w)
        by true = weaker (line room who text w) (line_has text w h)
        by false = weaker (long_line room who (take 240 text) w) (long_line_has (take 240 text) w h)

    takes_leaves : (held' : Bool) (levels : List Level) (w : Work) → w.again ≡ None → held' ≡ held → SameOrNone lines levels
        → AlwaysGives LeavesIt (takes room who (take_line held' levels).0 (with_levels (take_line held' levels).1 w))
    takes_leaves held' [] w none is h = end_leaves (with_levels (record { levels = []; held = held' }) w) none (is, inl refl)
    takes_leaves held' (level ∷ below) w none is (inl gone) = absurd (let no : ⊥ = cc in no)
    takes_leaves held' (level ∷ below) w none is (inr same) = by (has_line level)
      where
        one : Stack
        one = record { levels = line_taken level ∷ below; held = held' }

        still : Stack
        still = record { levels = level ∷ below; held = held' }

        text : List ℕ
        text = substituted level.params (line_at level)

        by : (b : Bool) → (let p : Taken × Stack = if b then (as_taken text, one) else (Nothing, still) in AlwaysGives LeavesIt (takes room who p.0 (with_levels p.1 w)))
        by true = as_taken_leaves text (with_levels one w) (is, (omega arith, change_lines line_taken (λ l. refl) level below ∙ same))
        by false = end_leaves (with_levels still w) none (is, inr same)

    -- a run that continues
    fires_leaves : (levels : List Level) (w : Work) → w.desk.levels.levels ≡ levels → LeavesIt w → AlwaysGives LeavesIt (may_fire room who w)
    fires_leaves [] w is h =
        let none : fired w.desk.outcome w.desk.levels.levels ≡ None = fired_none w.desk.outcome w.desk.levels.levels is in
        if_gives LeavesIt w.sets (fires room who (fired w.desk.outcome w.desk.levels.levels) w) (Gives w)
        (subst (λ (e : Option (List ℕ × List Level)). AlwaysGives LeavesIt (fires room who e w)) (sym none) h) h
    fires_leaves (level ∷ below) w is ((held', inl none), well) = absurd (let e : level ∷ below ≡ [] = sym is ∙ none in let no : ⊥ = cc in no)
    fires_leaves (level ∷ below) w is ((held', inr same), well) =
        weaker (may_fire room who w) (may_fire_has w (held', (subst (λ (ls : List Level). 0 < length ls) (sym is) (omega arith), same)))

    runs_on_leaves : (by : Bool) (w : Work) → w.again ≡ None → Left w.desk.levels → AlwaysGives LeavesIt (runs_on room who by w)
    runs_on_leaves by w none h =
        then_gives LeavesIt LeavesIt (Gives (goes_on room w)) (fires_unless room who by) (left_none w (goes_on room w) none (goes_on_keeps w.again Left room w (refl, h))) (λ v k over. k)
        (λ v k on. if_gives LeavesIt by (Gives v) (may_fire room who v) k (fires_leaves v.desk.levels.levels v refl k))

    runs_or_takes_leaves : (running : Option Bool) (w : Work) → w.again ≡ None → Left w.desk.levels → AlwaysGives LeavesIt (runs_or_takes room who running w)
    runs_or_takes_leaves (Some by) w none h = runs_on_leaves by w none h
    runs_or_takes_leaves None w none h =
        takes_leaves w.desk.levels.held (live w.desk.levels.held w.desk.levels.levels) w none h.0 (live_document w.desk.levels.held lines w.desk.levels.levels h.1)

    has_level : (levels : List Level) → 0 < length levels → SameOrNone lines levels → Document lines levels
    has_level levels some (inl none) = no_level (subst (λ (ls : List Level). 0 < length ls) none some)
    has_level levels some (inr same) = (some, same)

    -- THE PROGRAM OF A TURN
    pub begins_leaves : (pending : Option Pending) (w : Work) → w.again ≡ None → GoesOnWell pending w.desk.levels.levels → Left w.desk.levels → AlwaysGives LeavesIt (begins room who pending w)
    begins_leaves None w none some h = runs_or_takes_leaves w.desk.running w none h
    begins_leaves (Some (AgainLine text)) w none some h = weaker (line room who text w) (line_has text w (h.0, has_level w.desk.levels.levels (some refl) h.1))
    begins_leaves (Some (AgainCommand text orders blocks command)) w none some h =
        weaker (does_fired room who command (with_kept text orders blocks w))
        (does_fired_has command (with_kept text orders blocks w) (h.0, has_level w.desk.levels.levels (some refl) h.1))
