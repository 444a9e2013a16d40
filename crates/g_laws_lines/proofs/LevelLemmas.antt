-- The levels of a job: no line, parameter or stored command has a byte 10, nor does what is taken from them.
-- serves: SaidLemmas, TurnLemmas, WorkLemmas, WorldLemmas
use Rattle.std.proofs.Common.{◌≡◌, ◌+◌, ◌-◌, ◌==◌, ◌&&◌, ◌||◌, ◌++◌, ℕ, zero, suc, Bool, true, false, cond, not, nat_le, if◌then◌else◌, List, [], ◌∷◌, length, replicate, Option, Some, None, IfSome, refl, ◌∙◌}
use Rattle.std.specs.Prelude.{find, slice_index_or, slice_set, take}
use Rattle.std.specs.List.{AllByRecursion, list_all}
use Rattle.std.proofs.lemmas.Bool.{and_from, and_parts}
use Rattle.std.proofs.lemmas.List.Folds.{list_all-append}
use Rattle.g_lang.specs.Conditions.{same_cond}
use Rattle.g_lang.specs.Words.{before_rest, trimmed, without_back, without_front}
use Rattle.g_lang.specs.declared.line.Cond.{Cond}
use Rattle.g_macro.specs.Expansion.{expand, filled, is_asked, is_filled, param_of, substituted}
use Rattle.g_macro.specs.Holding.{line_added, with_document}
use Rattle.g_macro.specs.Levels.{Level, Line, Nothing, Stack, Taken, TooLong, as_taken, changed, entry_kept, entry_that_holds, fired, has_line, is_last, level_of, line_at, line_taken, live, next_line, param_set, take_line as line_from, with_entry}
use Rattle.g_macro.specs.Questions.{cond_holds}
use Rattle.g_macro.specs.declared.entry.Entry.{Entry}
use Rattle.g_macro.specs.declared.outcome.Outcome.{Outcome}
use Rattle.g_laws_lines.proofs.TextLemmas.{are_lines, both_line, is_line, take_line}

abbrev pub IsFineLevel : Level → Type 0
IsFineLevel level = (are_lines level.lines ≡ true) × (are_lines level.params ≡ true) × (list_all (λ (e : Entry). is_line e.command) level.entries ≡ true)

abbrev pub AreFineLevels : List Level → Type 0
AreFineLevels levels = AllByRecursion IsFineLevel levels

-- LISTS of lines
pub if_line : (b : Bool) (x y : List ℕ) → is_line x ≡ true → is_line y ≡ true → is_line (if b then x else y) ≡ true
if_line true x y one two = one
if_line false x y one two = two

get_line : (texts : List (List ℕ)) (i : ℕ) → are_lines texts ≡ true → is_line (slice_index_or texts i []) ≡ true
get_line [] i are = refl
get_line (x ∷ texts) zero are = (and_parts _ _ are).0
get_line (x ∷ texts) (suc i) are = get_line texts i (and_parts _ _ are).1

set_lines : (texts : List (List ℕ)) (i : ℕ) (x : List ℕ) → is_line x ≡ true → are_lines texts ≡ true → are_lines (slice_set texts i x) ≡ true
set_lines [] i x is are = refl
set_lines (y ∷ texts) zero x is are = and_from _ _ is (and_parts _ _ are).1
set_lines (y ∷ texts) (suc i) x is are = let parts = and_parts _ _ are in and_from _ _ parts.0 (set_lines texts i x is parts.1)

pub append_lines : (a b : List (List ℕ)) → are_lines a ≡ true → are_lines b ≡ true → are_lines (a ++ b) ≡ true
append_lines a b one two = list_all-append is_line a b ∙ and_from _ _ one two

empty_lines : (n : ℕ) → are_lines (replicate n []) ≡ true
empty_lines zero = refl
empty_lines (suc n) = empty_lines n

-- SUBSTITUTION
module _ (params : List (List ℕ)) (fine : are_lines params ≡ true) where
  filled_line : (front : List ℕ) (c : ℕ) → not (c == 10) ≡ true → is_line (filled params front c) ≡ true
  filled_line front c other = by (c == 37) (is_asked front)
    where
      by : (percent asked : Bool) → is_line (if percent then 37 ∷ [] else if asked then 37 ∷ c ∷ [] else param_of params c) ≡ true
      by true asked = refl
      by false true = and_from _ _ other refl
      by false false = get_line params (c - 65) fine

  expand_line : (front text : List ℕ) → is_line text ≡ true → is_line (expand params front text) ≡ true
  expand_line front [] is = refl
  expand_line front (c ∷ []) is = is
  expand_line front (c ∷ d ∷ rest) is =
      by (is_filled c d) (expand_line (front ++ c ∷ d ∷ []) rest (and_parts _ _ (and_parts _ _ is).1).1) (expand_line (front ++ c ∷ []) (d ∷ rest) (and_parts _ _ is).1)
    where
      by : (b : Bool) → is_line (expand params (front ++ c ∷ d ∷ []) rest) ≡ true → is_line (expand params (front ++ c ∷ []) (d ∷ rest)) ≡ true
          → is_line (if b then filled params front d ++ expand params (front ++ c ∷ d ∷ []) rest else c ∷ expand params (front ++ c ∷ []) (d ∷ rest)) ≡ true
      by true on other = both_line (filled params front d) (expand params (front ++ c ∷ d ∷ []) rest) (filled_line front d (and_parts _ _ (and_parts _ _ is).1).0) on
      by false on other = and_from _ _ (and_parts _ _ is).0 other

-- SPACES at both ends
front_line : (text : List ℕ) → is_line text ≡ true → is_line (without_front text) ≡ true
front_line [] is = refl
front_line (c ∷ cs) is = if_line (c == 32) (without_front cs) (c ∷ cs) (front_line cs (and_parts _ _ is).1) is

before_line : (c : ℕ) (rest : List ℕ) → not (c == 10) ≡ true → is_line rest ≡ true → is_line (before_rest c rest) ≡ true
before_line c [] other is = if_line (c == 32) [] (c ∷ []) refl (and_from _ _ other refl)
before_line c (d ∷ rest) other is = and_from _ _ other is

back_line : (text : List ℕ) → is_line text ≡ true → is_line (without_back text) ≡ true
back_line [] is = refl
back_line (c ∷ cs) is = let parts = and_parts _ _ is in before_line c (without_back cs) parts.0 (back_line cs parts.1)

pub trimmed_line : (text : List ℕ) → is_line text ≡ true → is_line (trimmed text) ≡ true
trimmed_line text is = back_line (without_front text) (front_line text is)

-- WHAT IS TAKEN
abbrev pub IsFineTaken : Taken → Type 0
IsFineTaken Nothing = Unit {0}
IsFineTaken (Line text) = is_line text ≡ true
IsFineTaken (TooLong front) = is_line front ≡ true

as_fine : (text : List ℕ) → is_line text ≡ true → IsFineTaken (as_taken text)
as_fine text is = by (nat_le (length text) 240)
  where
    by : (b : Bool) → IsFineTaken (if b then Line text else TooLong (take 240 text))
    by true = is
    by false = take_line 240 text is

live_fine : (held : Bool) (levels : List Level) → AreFineLevels levels → AreFineLevels (live held levels)
live_fine held [] fine = tt
live_fine held (level ∷ below) fine = by (has_line level || (held && is_last below)) (live_fine held below fine.1)
  where
    by : (b : Bool) → AreFineLevels (live held below) → AreFineLevels (if b then level ∷ below else live held below)
    by true on = fine
    by false on = on

from_fine : (held : Bool) (levels : List Level) → AreFineLevels levels → IsFineTaken (line_from held levels).0 × AreFineLevels (line_from held levels).1.levels
from_fine held [] fine = (tt, tt)
from_fine held (level ∷ below) fine = by (has_line level)
  where
    text : is_line (substituted level.params (line_at level)) ≡ true
    text = expand_line level.params fine.0.1 [] (line_at level) (get_line level.lines level.taken fine.0.0)

    by : (b : Bool) → (let r : Taken × Stack = if b then (as_taken (substituted level.params (line_at level)), record { levels = line_taken level ∷ below; held = held }) else (Nothing, record { levels = level ∷ below; held = held }) in IsFineTaken r.0 × AreFineLevels r.1.levels)
    by true = (as_fine (substituted level.params (line_at level)) text, fine)
    by false = (tt, fine)

pub next_fine : (s : Stack) → AreFineLevels s.levels → IsFineTaken (next_line s).0 × AreFineLevels (next_line s).1.levels
next_fine s fine = from_fine s.held (live s.held s.levels) (live_fine s.held s.levels fine)

-- CHANGES of levels
pub current_fine : (change : Level → Level) → ((level : Level) → IsFineLevel level → IsFineLevel (change level)) → (levels : List Level) → AreFineLevels levels → AreFineLevels (changed change levels)
current_fine change each [] fine = tt
current_fine change each (level ∷ below) fine = (each level fine.0, fine.1)

pub called_fine : (lines params : List (List ℕ)) (levels : List Level) → are_lines lines ≡ true → are_lines params ≡ true → AreFineLevels levels → AreFineLevels (level_of lines params ∷ levels)
called_fine lines params levels one two fine = ((one, append_lines params (replicate (24 - length params) []) two (empty_lines (24 - length params)), refl), fine)

pub param_fine : (letter : ℕ) (value : List ℕ) → is_line value ≡ true → (level : Level) → IsFineLevel level → IsFineLevel (param_set letter value level)
param_fine letter value is level fine = (fine.0, set_lines level.params (letter - 65) value is fine.1, fine.2)

entry_fine : (cond : Cond) (command : List ℕ) → is_line command ≡ true → (entries : List Entry) → list_all (λ (e : Entry). is_line e.command) entries ≡ true
    → list_all (λ (e : Entry). is_line e.command) (with_entry cond command entries) ≡ true
entry_fine cond command is [] fine = and_from _ _ is refl
entry_fine cond command is (entry ∷ entries) fine = by (same_cond entry.cond cond) (entry_fine cond command is entries (and_parts _ _ fine).1)
  where
    by : (b : Bool) → list_all (λ (e : Entry). is_line e.command) (with_entry cond command entries) ≡ true
        → list_all (λ (e : Entry). is_line e.command) (if b then record entry { command = command } ∷ entries else entry ∷ with_entry cond command entries) ≡ true
    by true on = and_from _ _ is (and_parts _ _ fine).1
    by false on = and_from _ _ (and_parts _ _ fine).0 on

pub kept_fine : (cond : Cond) (command : List ℕ) → is_line command ≡ true → (level : Level) → IsFineLevel level → IsFineLevel (entry_kept cond command level)
kept_fine cond command is level fine = (fine.0, fine.1, entry_fine cond command is level.entries fine.2)

-- WHAT FIRES
abbrev pub IsFineFired : List ℕ × List Level → Type 0
IsFineFired f = (is_line f.0 ≡ true) × AreFineLevels f.1

found_fine : (test : Entry → Bool) (entries : List Entry) → list_all (λ (e : Entry). is_line e.command) entries ≡ true → IfSome (find test entries) (λ e. is_line e.command ≡ true)
found_fine test [] fine = tt
found_fine test (entry ∷ entries) fine = by (test entry) (found_fine test entries (and_parts _ _ fine).1)
  where
    by : (b : Bool) → IfSome (find test entries) (λ e. is_line e.command ≡ true) → IfSome (cond b (Some entry) (find test entries)) (λ e. is_line e.command ≡ true)
    by true on = (and_parts _ _ fine).0
    by false on = on

pub fired_fine : (outcome : Outcome) (levels : List Level) → AreFineLevels levels → IfSome (fired outcome levels) IsFineFired
fired_fine outcome [] fine = tt
fired_fine outcome (level ∷ below) fine =
    by (entry_that_holds level outcome) (found_fine (λ entry. cond_holds level.params outcome entry.cond) level.entries fine.0.2) (fired_fine outcome below fine.1)
  where
    by : (o : Option Entry) → IfSome o (λ e. is_line e.command ≡ true) → IfSome (fired outcome below) IsFineFired
        → IfSome (elim o [ Some entry ↦ Some (entry.command, level ∷ below) | None ↦ fired outcome below ]) IsFineFired
    by (Some entry) is on = (is, fine)
    by None is on = on

-- A LINE IS TYPED
pub typed_fine : (text : List ℕ) → is_line text ≡ true → (levels : List Level) → AreFineLevels levels → AreFineLevels (with_document (line_added text) levels)
typed_fine text is [] fine = tt
typed_fine text is (level ∷ below) fine = by (is_last below) (typed_fine text is below fine.1)
  where
    by : (b : Bool) → AreFineLevels (with_document (line_added text) below) → AreFineLevels (if b then line_added text level ∷ below else level ∷ with_document (line_added text) below)
    by true on = ((append_lines level.lines (text ∷ []) fine.0.0 (and_from _ _ is refl), fine.0.1, fine.0.2), fine.1)
    by false on = (fine.0, on)
