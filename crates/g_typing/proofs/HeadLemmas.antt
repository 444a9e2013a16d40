-- The first line of an item, with its time and without one.
-- serves: begins_job, item, time_of, AddLemmas, BeginLemmas
use Rattle.std.proofs.Common.{All, List, [], ◌∷◌, ◌++◌, ℕ, ◌+◌, ◌<◌, ◌≤◌, ◌^◌, ◌≡◌, ◌≢◌, ◌↔◌, max, Bool, true, false, Some, None, Option, codes, drop, take, length, get_or, eqb, refl, sym, ◌∙◌, ap, subst, inl, inr, arith}
use Rattle.std.specs.Cmp.Lexicographic.{pointwise}
use Rattle.std.specs.Fmt.{decimal}
use Rattle.std.specs.List.{AllByRecursion}
use Rattle.std.proofs.lemmas.Fmt.{decimal_injective, decimal_is_IsNumeral, decimal_nonempty, length-decimal-le}
use Rattle.std.proofs.lemmas.List.{length-append}
use Rattle.std.proofs.lemmas.List.Elements.{All-append, All-cons, All-from_recursion, All-nil, All-tail, recursion_from_All}
use Rattle.std.proofs.lemmas.Slice.Eq.{starts_is}
use Rattle.std.proofs.lemmas.Bool.Decides.{Decides-eqb}
use Rattle.std.proofs.lemmas.Str.Parse.{digit_at}
use Rattle.g_lines.specs.Documents.{IsOneLine}
use Rattle.g_lines.specs.Numbers.{number_read}
use Rattle.g_lines.proofs.NumberLemmas.{number-complete, number-sound}
use Rattle.g_script.proofs.PieceLemmas.{Without, number-without}
use Rattle.g_script.specs.Script.{Bare, IsWrittenOperator, Job, WrittenItem, WrittenOperator, behind_head, head_line, money_text, written_text}
use Rattle.g_script.specs.declared.operator.Operator.TheVariants as line
use Rattle.g_typing.specs.Reader.{AsksOnly, HasNoTime, IsHead, IsTime, JobText, asked_by, when_of}
use Rattle.g_typing.specs.Typed.{AsksFor, AtOnce, AtTime, BeginsDocument, IsShort, IsTypedHead, When, type_text}

-- a line as a script has it
abbrev pub script_head : ℕ → List ℕ → List ℕ
script_head turn asked = decimal turn ++ (32 ∷ asked)

-- WHAT AN OPERATOR WRITES begins with a letter, and no number does
abbrev IsHigh : List ℕ → Type 0
IsHigh [] = ⊥
IsHigh (b ∷ bs) = 65 ≤ b

high : (w : WrittenOperator) → IsWrittenOperator w → IsHigh (written_text w)
high (Bare line.Format) is = omega arith
high (Bare line.Start) is = omega arith
high (Bare line.Restore) is = omega arith
high (Bare line.Shut) is = omega arith
high (Bare (line.Job name user time money lines)) is = absurd is
high (Bare (line.Mount s)) is = omega arith
high (Bare (line.Unmount s)) is = omega arith
high (Bare (line.Dump s)) is = omega arith
high (Bare (line.Process s)) is = omega arith
high (Bare (line.Migrate path)) is = omega arith
high (Bare (line.StopDisc k)) is = omega arith
high (Bare (line.StopTape k)) is = omega arith
high (Bare (line.Login t user time)) is = omega arith
high (Bare (line.Typed t text)) is = omega arith
high (Bare (line.Logout t)) is = omega arith
high (Job name user time money lines) is = omega arith

digit_low : (digits rest : List ℕ) → 0 < length digits → ((i : ℕ) → i < length digits → get_or digits i 0 ≤ 57) → IsHigh (digits ++ rest) → ⊥
digit_low [] rest some low is = absurd (omega (arith, some))
digit_low (d ∷ ds) rest some low is = let l : d ≤ 57 = low 0 (omega (arith, some)) in omega (arith, l, is)

decimal_low : (t : ℕ) (rest : List ℕ) → t < 2 ^ 64 → IsHigh (decimal t ++ rest) → ⊥
decimal_low t rest fits is =
    digit_low (decimal t) rest (decimal_nonempty t fits) (λ i inside. (digit_at (decimal t) i (decimal_is_IsNumeral t fits).0.1 inside).1) is

few_fit : (t : ℕ) → t ≤ 1000000000 → t < 2 ^ 64
few_fit t few = omega (arith, few)

pub untimed : (w : WrittenOperator) → IsWrittenOperator w → HasNoTime (written_text w)
untimed w is t rest few e = decimal_low t (32 ∷ rest) (few_fit t few) (subst IsHigh e (high w is))

-- a number before the first space
record Parted (a b : List ℕ) (r s : List ℕ) : Type 0 where
  pub front : a ≡ b
  pub rest : r ≡ s

parted : (c : ℕ) (a b r s : List ℕ) → Without c a → Without c b → a ++ c ∷ r ≡ b ++ c ∷ s → Parted a b r s
parted c [] [] r s one other e = record { front = refl; rest = cc }
parted c [] (y ∷ b) r s one other e = absurd (other.0 (let first : c ≡ y = cc in sym first))
parted c (x ∷ a) [] r s one other e = absurd (one.0 (let first : x ≡ c = cc in first))
parted c (x ∷ a) (y ∷ b) r s one other e =
    let first : x ≡ y = cc in
    let others : a ++ c ∷ r ≡ b ++ c ∷ s = cc in
    let p = parted c a b r s one.1 other.1 others in record { front = ap (λ (z : ℕ). z ∷ a) first ∙ ap (λ (zs : List ℕ). y ∷ zs) p.front; rest = p.rest }

pub record SameTime (t u : ℕ) (r s : List ℕ) : Type 0 where
  pub time : t ≡ u
  pub rest : r ≡ s

pub same_time : (t u : ℕ) (r s : List ℕ) → t < 2 ^ 64 → u < 2 ^ 64 → script_head t r ≡ script_head u s → SameTime t u r s
same_time t u r s fits fits' e =
    let p = parted 32 (decimal t) (decimal u) r s (number-without 32 t (omega arith) fits) (number-without 32 u (omega arith) fits') e in
    record { time = decimal_injective t u fits fits' p.front; rest = p.rest }

-- A TYPE LINE IN SHORT begins as no operator line does
abbrev StartsShort : List ℕ → Type 0
StartsShort (a ∷ b ∷ bs) = (a ≡ 84) × (b ≤ 56)
StartsShort bs = ⊥

starts_short : (digit : ℕ) (text line : List ℕ) → IsShort digit text line → StartsShort line
starts_short digit text line ((least, most), inl (none, is)) = subst StartsShort (sym is) (refl, most)
starts_short digit text line ((least, most), inr is) = subst StartsShort (sym is) (refl, most)

not_short : (w : WrittenOperator) → IsWrittenOperator w → StartsShort (written_text w) → ⊥
not_short (Bare line.Format) is (a, b) = omega (arith, a)
not_short (Bare line.Start) is (a, b) = omega (arith, a)
not_short (Bare line.Restore) is (a, b) = omega (arith, a)
not_short (Bare line.Shut) is (a, b) = omega (arith, a)
not_short (Bare (line.Job name user time money lines)) is starts = absurd is
not_short (Bare (line.Mount s)) is (a, b) = omega (arith, a)
not_short (Bare (line.Unmount s)) is (a, b) = omega (arith, a)
not_short (Bare (line.Dump s)) is (a, b) = omega (arith, a)
not_short (Bare (line.Process s)) is (a, b) = omega (arith, a)
not_short (Bare (line.Migrate path)) is (a, b) = omega (arith, a)
not_short (Bare (line.StopDisc k)) is (a, b) = omega (arith, a)
not_short (Bare (line.StopTape k)) is (a, b) = omega (arith, a)
not_short (Bare (line.Login t user time)) is (a, b) = omega (arith, a)
not_short (Bare (line.Typed t text)) is (a, b) = omega (arith, b)
not_short (Bare (line.Logout t)) is (a, b) = omega (arith, a)
not_short (Job name user time money lines) is (a, b) = omega (arith, a)

short_high : (line : List ℕ) → StartsShort line → IsHigh line
short_high [] starts = absurd starts
short_high (a ∷ []) starts = absurd starts
short_high (a ∷ b ∷ bs) (is, most) = omega (arith, is)

short_no_job : (line rest : List ℕ) → StartsShort line → line ≡ codes "JOB " ++ rest → ⊥
short_no_job line rest starts is = let s = subst StartsShort is starts in let a : 74 ≡ 84 = s.0 in omega (arith, a)

type_no_job : (digit : ℕ) (text asked : List ℕ) → asked ≡ type_text digit text → JobText asked → ⊥
type_no_job digit text asked is (rest, job) = let both : type_text digit text ≡ codes "JOB " ++ rest = sym is ∙ job in let a : (let n : ℕ = 84 in n ≡ 74) = cc in omega (arith, a)

same_short : (d e : ℕ) (xs ys line : List ℕ) → IsShort d xs line → IsShort e ys line → type_text d xs ≡ type_text e ys
same_short d e xs ys line (within, inl (none, is)) (within', inl (none', is')) =
    let digits : d ≡ e = cc in ap (λ (n : ℕ). type_text n xs) digits ∙ ap (λ (text : List ℕ). type_text e text) (none ∙ sym none')
same_short d e xs ys line (within, inl (none, is)) (within', inr is') = absurd cc
same_short d e xs ys line (within, inr is) (within', inl (none', is')) = absurd cc
same_short d e xs ys line (within, inr is) (within', inr is') =
    let digits : d ≡ e = cc in let texts : xs ≡ ys = cc in ap (λ (n : ℕ). type_text n xs) digits ∙ ap (λ (text : List ℕ). type_text e text) texts

-- what a line asks for, if an operator line is typed so
only_asks : (first asked : List ℕ) (w : WrittenOperator) → IsWrittenOperator w → AsksOnly first asked → AsksFor first (written_text w) → written_text w ≡ asked
only_asks first asked w written (inl (full, is)) (inl same) = sym same ∙ sym is
only_asks first asked w written (inl (full, is)) (inr (e, ys, short, same)) = absurd (full e ys short)
only_asks first asked w written (inr (d, xs, short, is)) (inl same) = absurd (not_short w written (subst StartsShort same (starts_short d xs first short)))
only_asks first asked w written (inr (d, xs, short, is)) (inr (e, ys, other, same)) = same ∙ same_short e d ys xs first other short ∙ sym is

asks_for : (first asked : List ℕ) (w : WrittenOperator) → AsksOnly first asked → written_text w ≡ asked → AsksFor first (written_text w)
asks_for first asked w (inl (full, is)) same = inl (sym is ∙ sym same)
asks_for first asked w (inr (d, xs, short, is)) same = inr (d, xs, short, same ∙ is)

timed_high : (t : ℕ) (first rest : List ℕ) (w : WrittenOperator) → IsWrittenOperator w → t ≤ 1000000000 → first ≡ decimal t ++ (32 ∷ rest) → AsksFor first (written_text w) → ⊥
timed_high t first rest w written few is (inl same) = untimed w written t rest few (sym same ∙ is)
timed_high t first rest w written few is (inr (d, xs, short, same)) =
    decimal_low t (32 ∷ rest) (few_fit t few) (subst IsHigh is (short_high first (starts_short d xs first short)))

-- THE FIRST LINE that is typed for an item is that of the item, with its time
pub record Heads (item : WrittenItem) (when : When) (timed : Bool) (turn : ℕ) (asked : List ℕ) : Type 0 where
  pub when_is : when ≡ when_of timed
  pub turn_is : item.turn ≡ turn
  pub asked_is : written_text item.what ≡ asked

pub heads : (count : ℕ) (first : List ℕ) (timed : Bool) (turn : ℕ) (asked : List ℕ) (item : WrittenItem) (when : When) → IsHead count first timed turn asked → IsWrittenOperator item.what
    → IsTypedHead count item when first → Heads item when timed turn asked
heads count first true turn asked item AtOnce (t, (few, is), turn_is) written (same, now) = absurd (timed_high t first asked item.what written few is same)
heads count first true turn asked item AtTime (t, (few, is), turn_is) written (u, fewer, same, later) =
    let s = same_time t u asked (written_text item.what) (few_fit t few) (few_fit u fewer) (sym is ∙ same) in
    record { when_is = refl; turn_is = later ∙ ap (λ (n : ℕ). max n count) (sym s.time) ∙ sym turn_is; asked_is = sym s.rest }
heads count first false turn asked item AtOnce (none, is, turn_is) written (same, now) =
    record { when_is = refl; turn_is = now ∙ sym turn_is; asked_is = only_asks first asked item.what written is same }
heads count first false turn asked item AtTime (none, is, turn_is) written (u, fewer, same, later) = absurd (none u (written_text item.what) fewer same)

pub head_line_is : (item : WrittenItem) (turn : ℕ) (asked : List ℕ) → item.turn ≡ turn → written_text item.what ≡ asked → head_line item ≡ script_head turn asked
head_line_is item turn asked turn_is asked_is =
    ap (λ (n : ℕ). decimal n ++ (32 ∷ written_text item.what)) turn_is ∙ ap (λ (text : List ℕ). decimal turn ++ (32 ∷ text)) asked_is

pub typed_head : (count : ℕ) (first : List ℕ) (timed : Bool) (turn : ℕ) (asked : List ℕ) (item : WrittenItem) → IsHead count first timed turn asked → item.turn ≡ turn
    → written_text item.what ≡ asked → IsTypedHead count item (when_of timed) first
typed_head count first true turn asked item (t, (few, is), turn_is) same asked_is =
    (t, few, is ∙ ap (λ (text : List ℕ). decimal t ++ (32 ∷ text)) (sym asked_is), same ∙ turn_is)
typed_head count first false turn asked item (none, is, turn_is) same asked_is = (asks_for first asked item.what is asked_is, same ∙ turn_is)

-- a JOB, good or bad
no_digit : (t : ℕ) (rest more : List ℕ) → t ≤ 1000000000 → codes "JOB " ++ more ≡ decimal t ++ rest → ⊥
no_digit t rest more few e = decimal_low t rest (few_fit t few) (subst IsHigh e (let high : 65 ≤ 74 = omega arith in high))

pub job_begins : (count : ℕ) (first : List ℕ) (timed : Bool) (turn : ℕ) (asked : List ℕ) → IsHead count first timed turn asked → JobText asked → BeginsDocument first
job_begins count first true turn asked (t, (few, is), turn_is) (rest, job) = inr (t, rest, few, is ∙ ap (λ (text : List ℕ). decimal t ++ (32 ∷ text)) job)
job_begins count first false turn asked (none, inl (full, is), turn_is) (rest, job) = inl (rest, sym is ∙ job)
job_begins count first false turn asked (none, inr (d, xs, short, is), turn_is) job = absurd (type_no_job d xs asked is job)

pub begins_job : (count : ℕ) (first : List ℕ) (timed : Bool) (turn : ℕ) (asked : List ℕ) → IsHead count first timed turn asked → BeginsDocument first → JobText asked
begins_job count first true turn asked (t, (few, is), turn_is) (inl (rest, job)) = absurd (no_digit t (32 ∷ asked) rest few (sym job ∙ is))
begins_job count first true turn asked (t, (few, is), turn_is) (inr (u, rest, fewer, same)) =
    let s = same_time t u asked (codes "JOB " ++ rest) (few_fit t few) (few_fit u fewer) (sym is ∙ same) in (rest, s.rest)
begins_job count first false turn asked (none, inl (full, is), turn_is) (inl (rest, job)) = (rest, is ∙ job)
begins_job count first false turn asked (none, inr (d, xs, short, is), turn_is) (inl (rest, job)) = absurd (short_no_job first rest (starts_short d xs first short) job)
begins_job count first false turn asked (none, is, turn_is) (inr (u, rest, fewer, same)) = absurd (none u (codes "JOB " ++ rest) fewer same)

-- of what operators write, only a JOB begins so
abbrev BeginsWith : ℕ → List ℕ → Type 0
BeginsWith b [] = ⊥
BeginsWith b (c ∷ cs) = c ≡ b

begins_with : (asked : List ℕ) → JobText asked → BeginsWith 74 asked
begins_with asked (rest, e) = subst (BeginsWith 74) (sym e) refl

no_end : (ls : List (List ℕ)) → ls ++ codes "****" ∷ [] ≡ [] → ⊥
no_end [] e = cc
no_end (l ∷ ls) e = cc

no_job : (w : WrittenOperator) → IsWrittenOperator w → BeginsWith 74 (written_text w) → behind_head w ≡ [] → ⊥
no_job (Bare line.Format) is b none = omega (arith, b)
no_job (Bare line.Start) is b none = omega (arith, b)
no_job (Bare line.Restore) is b none = omega (arith, b)
no_job (Bare line.Shut) is b none = omega (arith, b)
no_job (Bare (line.Job name user time money lines)) is b none = absurd is
no_job (Bare (line.Mount s)) is b none = omega (arith, b)
no_job (Bare (line.Unmount s)) is b none = omega (arith, b)
no_job (Bare (line.Dump s)) is b none = omega (arith, b)
no_job (Bare (line.Process s)) is b none = omega (arith, b)
no_job (Bare (line.Migrate path)) is b none = omega (arith, b)
no_job (Bare (line.StopDisc k)) is b none = omega (arith, b)
no_job (Bare (line.StopTape k)) is b none = omega (arith, b)
no_job (Bare (line.Login t user time)) is b none = omega (arith, b)
no_job (Bare (line.Typed t text)) is b none = omega (arith, b)
no_job (Bare (line.Logout t)) is b none = omega (arith, b)
no_job (Job name user time money lines) is b none = no_end lines none

pub job_only : (w : WrittenOperator) → IsWrittenOperator w → JobText (written_text w) → behind_head w ≡ [] → ⊥
job_only w is job none = no_job w is (begins_with (written_text w) job) none

pub job_text : (name user : List ℕ) (time : ℕ) (money : Option ℕ) (lines : List (List ℕ)) → JobText (written_text (Job name user time money lines))
job_text name user time money lines = ((((name ++ codes ",:") ++ user) ++ codes ",TIME ") ++ (decimal time ++ money_text money), refl)

-- its bytes
pub one_head : (turn : ℕ) (asked : List ℕ) → turn < 2 ^ 64 → IsOneLine asked → IsOneLine (script_head turn asked)
one_head turn asked fits one =
    All-append (λ (b : ℕ). b ≢ 10) (decimal turn) (32 ∷ asked) (All-from_recursion (λ (b : ℕ). b ≢ 10) (decimal turn) (number-without 10 turn (omega arith) fits))
    (All-cons (λ (b : ℕ). b ≢ 10) 32 asked (λ e. omega (arith, e)) one)

tail_of : (front rest : List ℕ) → IsOneLine (front ++ rest) → IsOneLine rest
tail_of [] rest one = one
tail_of (b ∷ front) rest one = tail_of front rest (All-tail (λ (b : ℕ). b ≢ 10) b (front ++ rest) one)

one_short : (d : ℕ) (xs line : List ℕ) → IsShort d xs line → IsOneLine line → IsOneLine xs
one_short d xs line (within, inl (none, is)) one = subst IsOneLine (sym none) (All-nil (λ (b : ℕ). b ≢ 10))
one_short d xs line (within, inr is) one = tail_of (84 ∷ d ∷ 32 ∷ []) xs (subst IsOneLine is one)

one_typed : (d : ℕ) (xs : List ℕ) → 49 ≤ d → IsOneLine xs → IsOneLine (type_text d xs)
one_typed d xs least one =
    let P : ℕ → Type 0 = λ b. b ≢ 10 in
    let no : (c : ℕ) → 10 < c → c ≢ 10 = λ c more e. omega (arith, more, e) in
    All-cons P 84 (89 ∷ 80 ∷ 69 ∷ 32 ∷ d ∷ 44 ∷ xs) (no 84 (omega arith))
    (All-cons P 89 (80 ∷ 69 ∷ 32 ∷ d ∷ 44 ∷ xs) (no 89 (omega arith))
    (All-cons P 80 (69 ∷ 32 ∷ d ∷ 44 ∷ xs) (no 80 (omega arith))
    (All-cons P 69 (32 ∷ d ∷ 44 ∷ xs) (no 69 (omega arith))
    (All-cons P 32 (d ∷ 44 ∷ xs) (no 32 (omega arith)) (All-cons P d (44 ∷ xs) (no d (omega (arith, least))) (All-cons P 44 xs (no 44 (omega arith)) one))))))

pub one_asked : (count : ℕ) (first : List ℕ) (timed : Bool) (turn : ℕ) (asked : List ℕ) → IsHead count first timed turn asked → IsOneLine first → IsOneLine asked
one_asked count first true turn asked (t, (few, is), turn_is) one = All-tail (λ (b : ℕ). b ≢ 10) 32 asked (tail_of (decimal t) (32 ∷ asked) (subst IsOneLine is one))
one_asked count first false turn asked (none, inl (full, is), turn_is) one = subst IsOneLine (sym is) one
one_asked count first false turn asked (none, inr (d, xs, short, is), turn_is) one = subst IsOneLine (sym is) (one_typed d xs short.0.0 (one_short d xs first short one))

pub turn_fits : (count : ℕ) (first : List ℕ) (timed : Bool) (turn : ℕ) (asked : List ℕ) → IsHead count first timed turn asked → count < 2 ^ 64 → turn < 2 ^ 64
turn_fits count first true turn asked (t, (few, is), turn_is) fits = omega (arith, few, turn_is, fits)
turn_fits count first false turn asked (none, is, turn_is) fits = omega (arith, turn_is, fits)

short_length : (d : ℕ) (xs line : List ℕ) → IsShort d xs line → length (type_text d xs) ≤ 5 + length line
short_length d xs line (within, inl (none, is)) =
    let one : length line ≡ length (84 ∷ d ∷ []) = ap length is in let other : length xs ≡ 0 = ap length none in omega (arith, one, other)
short_length d xs line (within, inr is) = let one : length line ≡ length (84 ∷ d ∷ 32 ∷ xs) = ap length is in omega (arith, one)

pub asked_short : (count : ℕ) (first : List ℕ) (timed : Bool) (turn : ℕ) (asked : List ℕ) → IsHead count first timed turn asked → length asked ≤ 5 + length first
asked_short count first true turn asked (t, (few, is), turn_is) =
    let whole : length first ≡ length (decimal t) + length (32 ∷ asked) = ap length is ∙ length-append (decimal t) (32 ∷ asked) in omega (arith, whole)
asked_short count first false turn asked (none, inl (full, is), turn_is) = let same : length asked ≡ length first = ap length is in omega (arith, same)
asked_short count first false turn asked (none, inr (d, xs, short, is), turn_is) =
    let same : length asked ≡ length (type_text d xs) = ap length is in let few = short_length d xs first short in omega (arith, same, few)

pub head_short : (turn : ℕ) (asked : List ℕ) → turn ≤ 1000000000 → length (script_head turn asked) ≤ 11 + length asked
head_short turn asked few =
    let digits = length-decimal-le 10 turn (omega arith) (omega (arith, few)) (omega (arith, few)) in
    let whole : length (script_head turn asked) ≡ length (decimal turn) + length (32 ∷ asked) = length-append (decimal turn) (32 ∷ asked) in omega (arith, digits, whole)

-- where no time is written
middle : (P : ℕ → Type 0) (xs : List ℕ) (y : ℕ) (ys : List ℕ) → AllByRecursion P (xs ++ y ∷ ys) → P y
middle P [] y ys all = all.0
middle P (x ∷ xs) y ys all = middle P xs y ys all.1

pub no_space : (first : List ℕ) → All (λ b. b ≢ 32) first → HasNoTime first
no_space first none t rest few e =
    middle (λ (b : ℕ). b ≢ 32) (decimal t) 32 rest (recursion_from_All (λ (b : ℕ). b ≢ 32) (decimal t ++ 32 ∷ rest) (subst (λ (l : List ℕ). All (λ b. b ≢ 32) l) e none)) refl

pub no_number : (first digits asked : List ℕ) → first ≡ digits ++ 32 ∷ asked → All (λ b. b ≢ 32) digits → number_read 1000000000 digits ≡ None → HasNoTime first
no_number first digits asked is none unread t rest few e =
    let p = parted 32 digits (decimal t) asked rest (recursion_from_All (λ (b : ℕ). b ≢ 32) digits none) (number-without 32 t (omega arith) (few_fit t few)) (sym is ∙ e) in
    let read : number_read 1000000000 digits ≡ Some t = number-complete 1000000000 t digits (omega arith) (few, p.front) in
    let both : (let o : Option ℕ = None in o ≡ Some t) = sym unread ∙ read in cc

pub time_is : (first digits asked : List ℕ) (t : ℕ) → first ≡ digits ++ 32 ∷ asked → number_read 1000000000 digits ≡ Some t → IsTime t asked first
time_is first digits asked t is read =
    let parts = number-sound 1000000000 t digits read in (parts.0, is ∙ ap (λ (d : List ℕ). d ++ 32 ∷ asked) parts.1)

pub job_test : (asked : List ℕ) (r : Bool) → r ≡ pointwise eqb (codes "JOB ") (take 4 asked) → (r ≡ true) ↔ JobText asked
job_test asked r e =
    let parts = starts_is Decides-eqb asked (codes "JOB ") r e in
    ((λ is. let j : JobText asked = (drop 4 asked, parts.0 is) in j), (λ (j : JobText asked). parts.1 j.0 j.1))
