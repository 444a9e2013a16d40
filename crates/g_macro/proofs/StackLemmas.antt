-- The levels in the code's order, the current one last.
-- serves: document, goto, next_line, set_param, whenever, FrontLemmas
use Rattle.std.proofs.Common.{Bool, Err, IfOk, IsSome, List, Ok, Option, Result, Some, [], ap, arith, cond, false, get_or, inl, inr, le-leb, le-ltb, length, length-set, length-take-le, lives, lt-ltb, refl, reverse, set, subst, sym, take, take-take, take_all, true, ℕ, ⊎_elim, ◌++◌, ◌+◌, ◌-◌, ◌<◌, ◌∙◌, ◌∷◌, ◌≡◌, ◌≤◌, ◌⊎◌}
use Rattle.std.proofs.Math.Seq.{take-length}
use Rattle.std.proofs.lemmas.Bool.{cases_lt, lt-leb}
use Rattle.std.proofs.lemmas.List.{get_or_default, length-reverse, reverse-append, take_more, take_more_set}
use Rattle.std.specs.Prelude.{if◌then◌else◌}
use Rattle.g_lang.specs.declared.line.Cond.{Cond}
use Rattle.g_macro.specs.Expansion.{substituted}
use Rattle.g_macro.specs.Fronts.{IsFilled}
use Rattle.g_macro.specs.LevelReplies.{KeepsIn, is_full_in}
use Rattle.g_macro.specs.Levels.{Level, Line, Stack, Taken, TooLong, as_taken, changed, current, entry_kept, first_level, has_line, holds, line_at, line_taken, live, next_line, take_line, with_current}
use Rattle.g_macro.specs.Replies.{Keeps, TakesLine}
use Rattle.g_macro.specs.declared.expansion.Filled.{Filled}
use Rattle.g_macro.specs.declared.fault.MacroFault.{MacroFault}
use Rattle.g_macro.specs.declared.fault.MacroFault.TheVariants as fault

-- the lowest levels, one more
pub one-more : (items : List Level) (n : ℕ) (d : Level) → n < length items → reverse (take (n + 1) items) ≡ get_or items n d ∷ reverse (take n items)
one-more items n d inside = ap reverse (take_more items n d inside) ∙ reverse-append (take n items) (get_or items n d ∷ [])

pub all-of : (items : List Level) → reverse (take (length items) items) ≡ reverse items
all-of items = ap reverse (take-length items)

pub top-split : (items : List Level) (n : ℕ) (d : Level) → n + 1 ≡ length items → reverse items ≡ get_or items n d ∷ reverse (take n items)
top-split items n d last =
    sym (all-of items) ∙ ap (λ (k : ℕ). reverse (take k items)) (sym last) ∙ one-more items n d (omega (arith, last))

top-set : (items : List Level) (n : ℕ) (new : Level) → n + 1 ≡ length items → reverse (set items n new) ≡ new ∷ reverse (take n items)
top-set items n new last =
    let inside : n < length items = omega (arith, last) in
    let whole : take (n + 1) (set items n new) ≡ set items n new = take_all (n + 1) (set items n new) (omega (arith, last, length-set items n new)) in
    ap reverse (sym whole ∙ take_more_set items n new inside) ∙ reverse-append (take n items) (new ∷ [])

-- the current level is changed
pub top-changed : (items : List Level) (held : Bool) (n : ℕ) (old new : Level) (f : Level → Level) (now : Stack) → record { levels = reverse items; held = held } ≡ now
    → n + 1 ≡ length items → old ≡ get_or items n old → new ≡ f old → ◌≡◌ {A = Stack} (record { levels = reverse (set items n new); held = held }) (with_current f now)
top-changed items held n old new f now was last is same =
    ap (λ (ls : List Level). let s : Stack = record { levels = ls; held = held } in s)
    (top-set items n new last ∙ ap (λ (l : Level). l ∷ reverse (take n items)) same
    ∙ ap (changed f) (ap (λ (l : Level). l ∷ reverse (take n items)) is ∙ sym (top-split items n old last)))
    ∙ ap (with_current f) was

pub top-current : (items : List Level) (held : Bool) (n : ℕ) (old : Level) (now : Stack) → record { levels = reverse items; held = held } ≡ now
    → n + 1 ≡ length items → old ≡ get_or items n old → current now ≡ old
top-current items held n old now was last is =
    ap current (sym was) ∙ ap first_level (top-split items n old last) ∙ sym is

pub top-place : (items : List Level) (held : Bool) (count : ℕ) (now : Stack) → record { levels = reverse items; held = held } ≡ now → count ≡ length items → 0 < length now.levels
    → count - 1 + 1 ≡ length items
top-place items held count now was is some =
    omega (arith, is, some, length-reverse items, ap (λ (s : Stack). length s.levels) was)

-- a level that is unchanged
changed-none : (levels : List Level) → changed (λ level. level) levels ≡ levels
changed-none [] = refl
changed-none (level ∷ below) = refl

pub top-same : (items : List Level) (held : Bool) (n : ℕ) (old new : Level) (now : Stack) → record { levels = reverse items; held = held } ≡ now
    → n + 1 ≡ length items → old ≡ get_or items n old → new ≡ old → ◌≡◌ {A = Stack} (record { levels = reverse (set items n new); held = held }) now
top-same items held n old new now was last is same =
    top-changed items held n old new (λ level. level) now was last is same
    ∙ ap (λ (ls : List Level). let s : Stack = record { levels = ls; held = now.held } in s) (changed-none now.levels)

-- the result of a call on the current level
pub keeps-top : (items : List Level) (held : Bool) (n : ℕ) (old new : Level) (cond : Cond) (command : List ℕ) (now : Stack) (r : Result (Unit {0}) MacroFault)
    → record { levels = reverse items; held = held } ≡ now → n + 1 ≡ length items → old ≡ get_or items n old → KeepsIn cond command old new r
    → Keeps cond command now (record { levels = reverse (set items n new); held = held }) r
keeps-top items held n old new cond command now (Ok done) was last is keeps = (
  ap (is_full_in cond) (top-current items held n old now was last is) ∙ keeps.0,
  top-changed items held n old new (entry_kept cond command) now was last is keeps.1,
)
keeps-top items held n old new cond command now (Err fault.WheneversFull) was last is keeps =
    (ap (is_full_in cond) (top-current items held n old now was last is) ∙ keeps.0, top-same items held n old new now was last is keeps.1)
keeps-top items held n old new cond command now (Err fault.NoMemory) was last is keeps =
    (ap (is_full_in cond) (top-current items held n old now was last is) ∙ keeps.0, top-same items held n old new now was last is keeps.1)
keeps-top items held n old new cond command now (Err fault.TooDeep) was last is keeps = keeps
keeps-top items held n old new cond command now (Err fault.NoLabel) was last is keeps = keeps
keeps-top items held n old new cond command now (Err (fault.TooLong text)) was last is keeps = keeps

-- the line that is taken
taken_as : (text : List ℕ) (filled : Filled) → IsFilled text filled → as_taken text ≡ (if filled.is_cut then TooLong filled.text else Line filled.text)
taken_as text filled holds =
    ⊎_elim
    (λ short.
    let is : filled.is_cut ≡ false = holds.1 ∙ le-ltb 240 (length text) short in
    let all : filled.text ≡ text = holds.0 ∙ take_all 240 text short in
    rw (le-leb (length text) 240 short, is, all) refl)
    (λ long.
    let is : filled.is_cut ≡ true = holds.1 ∙ lt-ltb 240 (length text) long in
    rw (lt-leb (length text) 240 long, is, holds.0) refl)
    (shorter (length text))
  where
    shorter : (n : ℕ) → (n ≤ 240) ⊎ (240 < n)
    shorter n = ⊎_elim (λ long. inr long) (λ short. inl short) (cases_lt 240 n)

pub line-next : (items : List Level) (held : Bool) (n : ℕ) (old new : Level) (filled : Filled) (now : Stack) → record { levels = reverse items; held = held } ≡ now
    → 0 < n → n ≤ length items → live held (reverse items) ≡ reverse (take n items) → old ≡ get_or items (n - 1) old → has_line old ≡ true → new ≡ line_taken old
    → IsFilled (substituted old.params (line_at old)) filled
    → next_line now ≡ ((if filled.is_cut then TooLong filled.text else Line filled.text), record { levels = reverse (set (take n items) (n - 1) new); held = held })
line-next items held n old new filled now was some within lives is line same holds =
    let back : n - 1 + 1 ≡ n = omega (arith, some) in
    let inside : n - 1 < length items = omega (arith, some, within) in
    let below = reverse (take (n - 1) items) in
    let short : length (take n items) ≡ n = length-take-le n items within in
    let cut : reverse (take n items) ≡ old ∷ below =
    ap (λ (k : ℕ). reverse (take k items)) (sym back) ∙ one-more items (n - 1) old inside ∙ ap (λ (l : Level). l ∷ below) (sym is) in
    let stays : reverse (set (take n items) (n - 1) new) ≡ line_taken old ∷ below =
    top-set (take n items) (n - 1) new (back ∙ sym short) ∙ ap (λ (ls : List Level). new ∷ reverse ls) (take-take (n - 1) n items (omega (arith, some)))
    ∙ ap (λ (l : Level). l ∷ below) same in
    ap next_line (sym was) ∙ ap (take_line held) (lives ∙ cut)
    ∙ rw (line, stays, taken_as (substituted old.params (line_at old)) filled holds) refl

-- a macro's level is pushed
pub pushed : (items : List Level) (level : Level) → reverse (items ++ level ∷ []) ≡ level ∷ reverse items
pushed items level = reverse-append items (level ∷ [])

pub takes-line : (now new : Stack) (filled : Filled) (r : Result (Option (List ℕ)) MacroFault)
    → next_line now ≡ ((if filled.is_cut then TooLong filled.text else Line filled.text), new)
    → ((filled.is_cut ≡ true) × (r ≡ Err (fault.TooLong filled.text))) ⊎ ((filled.is_cut ≡ false) × (r ≡ Ok (Some filled.text))) → TakesLine now new r
takes-line now new filled r next (inl long) =
    subst (TakesLine now new) (sym long.1) (next ∙ (let e : ◌≡◌ {A = Taken × Stack} ((if filled.is_cut then TooLong filled.text else Line filled.text), new) (TooLong filled.text, new) = rw long.0 refl in e))
takes-line now new filled r next (inr short) =
    subst (TakesLine now new) (sym short.1) (next ∙ (let e : ◌≡◌ {A = Taken × Stack} ((if filled.is_cut then TooLong filled.text else Line filled.text), new) (Line filled.text, new) = rw short.0 refl in e))

-- one level, read twice
pub same-at : (items : List Level) (i : ℕ) (a b : Level) → i < length items → a ≡ get_or items i a → b ≡ get_or items i b → a ≡ b
same-at items i a b inside is also = is ∙ get_or_default items i a b inside ∙ sym also

pub any-line : {P : Type 0} (r : Result (Option (List ℕ)) MacroFault) → P → IfOk r (λ line. IsSome line → P)
any-line (Ok line) holds = λ some. holds
any-line (Err e) holds = tt
