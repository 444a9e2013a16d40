-- The values of parameters.
-- serves: digit_unit, file, parameter, short_file, ReadLemmas, SaidLemmas, WalkLemmas, crates above
use Rattle.std.proofs.Common.{Bool, Err, IfOk, List, None, Ok, Option, Result, Some, [], ap, arith, codes, drop, eqb-true, get_or, le-leb, leb-true, length, min, refl, subst, sym, true, ℕ, ◌+◌, ◌-◌, ◌<◌, ◌≤◌, ◌∙◌, ◌∷◌, ◌++◌, ◌^◌, ◌≡◌}
use Rattle.std.specs.Prelude.{if◌then◌else◌, is_some, nat_le, ◌&&◌, ◌==◌}
use Rattle.std.specs.Fmt.{decimal}
use Rattle.std.specs.List.{find}
use Rattle.std.specs.Option.{option_and_then, option_map}
use Rattle.std.specs.Prelude.{IfSome, IsOkAnd}
use Rattle.std.specs.Result.{result_ok}
use Rattle.g_name.specs.declared.bad_name.BadName.{BadName}
use Rattle.std.proofs.Math.Bridge.{le_prop}
use Rattle.std.proofs.lemmas.Bool.{and_from, and_parts, cond_both, false≢true}
use Rattle.std.proofs.lemmas.Fmt.{decimal_digit}
use Rattle.std.proofs.lemmas.List.{append-nil}
use Rattle.std.proofs.lemmas.Option.{cond_some, option_and_then_some, same_Some, some_pair_parts}
use Rattle.g_lang.proofs.ValueLemmas.{behind-append, behind-is, same_text-eq}
use Rattle.g_lang.specs.Conditions.{is_param_letter}
use Rattle.g_lang.specs.LineReader.{behind}
use Rattle.g_lines.proofs.NumberLemmas.{number-complete, number-sound}
use Rattle.g_lines.specs.Numbers.{number_read}
use Rattle.g_name.proofs.PathLemmas.{has_read, name_read_of, reader_of, reads_name, whole_name, whole_of, whole_text}
use Rattle.g_name.specs.Grammar.{is_user_text, is_word}
use Rattle.g_name.specs.Machine.{run}
use Rattle.g_name.specs.Names.{IsName, Name, name_text, path_name}
use Rattle.g_name.specs.Order.{same_text}
use Rattle.g_name.specs.Reading.{is_whole, name_read, start, step}
use Rattle.g_name.specs.declared.path.Path.{Path}
use Rattle.g_name.specs.declared.path_reader.PathReader.{PathReader}
use Rattle.g_peri.specs.declared.unit.Kind.{Kind}
use Rattle.g_peri.specs.declared.unit.Kind.TheVariants as unit_kind
use Rattle.g_peri.specs.declared.unit.Unit as unit
use Rattle.g_plain.specs.declared.calls.BudgetKind.{BudgetKind}
use Rattle.g_plain.specs.declared.calls.BudgetKind.TheVariants as kind
use Rattle.g_trap.specs.declared.mode_set.Mode.{Mode}
use Rattle.g_trap.specs.declared.mode_set.Mode.TheVariants as mode
use Rattle.g_verbs.specs.Ranges.{IsGeneration, clamped, clamped_range, path_with, unit_with}
use Rattle.g_verbs.specs.Forms.{IsOf}
use Rattle.g_verbs.specs.Tables.{IsBeforeDigit}
use Rattle.g_verbs.specs.VerbReader.{all_modes, amount_read, budget_or, budget_read, digit_unit, file_read, is_of, kind_front, letter_read, local_read, mode_read, unit_read, user_read, whole_path}
use Rattle.g_monitor.specs.Parts.{mode_word}
use Rattle.g_verbs.specs.Parameters.{IsAmount, IsFile, IsLocal, IsUnit, IsUser, kind_word, most_of, unit_word}
use Rattle.g_verbs.specs.declared.form.Form.{Form}
use Rattle.g_verbs.specs.declared.form.Form.TheVariants as form

some_in : {A : Type 0} (o : Option A) → is_some o ≡ true → (x : A) × (o ≡ Some x)
some_in None is = absurd (false≢true is)
some_in (Some x) is = (x, refl)

is_there : {A : Type 0} (o : Option A) (x : A) → o ≡ Some x → is_some o ≡ true
is_there o x is = ap is_some is

pub found : {A : Type 0} (test : A → Bool) (xs : List A) (x : A) → find test xs ≡ Some x → test x ≡ true
found test [] x is = absurd cc
found {A = A} test (y ∷ ys) x is =
    cond_both (test y) (Some y) (find test ys) (λ (o : Option A). o ≡ Some x → test x ≡ true)
    (λ holds same. subst (λ (z : A). test z ≡ true) (same_Some y x same) holds) (λ fails same. found test ys x same) is

-- files
path_of : Option (List ℕ) → List ℕ → (g : Option ℕ) → Option (List ℕ) → IsGeneration g → Path
path_of user local generation lang range = record { user = user; local = local; generation = generation; lang = lang; in_range = range }

one_range : (g : ℕ) (h h' : IsGeneration (Some g)) → h ≡ h'
one_range g h h' = ap (λ (a : 1 ≤ g). (a, h.1)) (le_prop h.0 h'.0) ∙ ap (λ (b : g ≤ 4095). (h'.0, b)) (le_prop h.1 h'.1)

moved : (user lang : Option (List ℕ)) (local : List ℕ) (g g' : ℕ) → g ≡ g' → (h : IsGeneration (Some g)) (h' : IsGeneration (Some g'))
    → path_of user local (Some g) lang h ≡ path_of user local (Some g') lang h'
unfolding path_of
moved user lang local g g' e h =
    subst (λ (k : ℕ). (h' : IsGeneration (Some k)) → path_of user local (Some g) lang h ≡ path_of user local (Some k) lang h') e
    (λ h'. ap (path_of user local (Some g) lang) (one_range g h h'))

clamped-same : (g : ℕ) → 1 ≤ g → g ≤ 4095 → clamped g ≡ g
clamped-same g least most = omega arith

same_path : (user lang : Option (List ℕ)) (local : List ℕ) (g : Option ℕ) (h : IsGeneration g)
    → path_with (record { user = user; local = local; generation = g; lang = lang }) ≡ path_of user local g lang h
unfolding path_of
same_path user lang local None h = refl
same_path user lang local (Some g) h = moved user lang local (clamped g) g (clamped-same g h.0 h.1) (clamped_range (Some g)) h

path_with-path : (path : Path) → path_with (path_name path) ≡ path
unfolding path_of
path_with-path path = same_path path.user path.lang path.local path.generation path.in_range

clamped_option : (g : Option ℕ) → IsGeneration g → option_map clamped g ≡ g
clamped_option None h = refl
clamped_option (Some g) h = ap (λ (n : ℕ). let o : Option ℕ = Some n in o) (clamped-same g h.0 h.1)

path_with-name : (n : Name) → IsName n → path_name (path_with n) ≡ n
path_with-name n is =
    ap (λ (g : Option ℕ). let m : Name = record { user = n.user; local = n.local; generation = g; lang = n.lang } in m) (clamped_option n.generation is.generation)

file_sound : (text : List ℕ) (path : Path) (o : Option PathReader) → run step (Some start) text ≡ o → option_and_then whole_path o ≡ Some path → IsFile path text
file_sound text path None read is = absurd cc
file_sound text path (Some r) read is =
    let parts = cond_some (is_whole r) (path_with (name_read r)) path is in
    let has = has_read text r read in
    let named : IsName (name_read r) = whole_name r has.known parts.0 in
    let name : name_read r ≡ path_name path = sym (path_with-name (name_read r) named) ∙ ap path_name parts.1 in
    (subst IsName name named, sym has.text ∙ whole_text r has.known parts.0 ∙ ap name_text name)

pub file-sound : (text : List ℕ) (path : Path) → file_read text ≡ Some path → IsFile path text
file-sound text path is = file_sound text path (run step (Some start) text) refl is

pub file-complete : (path : Path) (text : List ℕ) → IsFile path text → file_read text ≡ Some path
file-complete path text is =
    let n = path_name path in
    let read : run step (Some start) text ≡ Some (reader_of n) = ap (run step (Some start)) is.1 ∙ reads_name n is.0 in
    let there : whole_path (reader_of n) ≡ Some (path_with (name_read (reader_of n))) =
    ap (λ (b : Bool). let none : Option Path = None in if b then Some (path_with (name_read (reader_of n))) else none) (whole_of n is.0) in
    ap (option_and_then whole_path) read ∙ there
    ∙ ap (λ (m : Name). let o : Option Path = Some (path_with m) in o) (name_read_of n is.0) ∙ ap (λ (p : Path). let o : Option Path = Some p in o) (path_with-path path)

none_file : (text : List ℕ) (e : BadName) (o : Option Path) → file_read text ≡ o
    → ((n : Name) → IsName n → text ≡ name_text n → IsOkAnd {E = BadName} (Err e) (λ (p : Path). path_name p ≡ n)) → None ≡ file_read text
none_file text e None read is = sym read
none_file text e (Some path) read is = let file = file-sound text path read in absurd (is (path_name path) file.0 file.1)

-- the result for the text of a file
pub file-answers : (text : List ℕ) (r : Result Path BadName) (o : Option Path) → o ≡ result_ok r → IfOk r (λ p. IsName (path_name p) × (text ≡ name_text (path_name p)))
    → ((n : Name) → IsName n → text ≡ name_text n → IsOkAnd r (λ p. path_name p ≡ n)) → o ≡ file_read text
file-answers text (Ok path) o same ok read = same ∙ sym (file-complete path text ok)
file-answers text (Err e) o same ok read = same ∙ none_file text e (file_read text) refl read

-- a local name, optionally followed by a generation of one digit
abbrev pub short_name : List ℕ → Option ℕ → Name
short_name local generation = record { user = None; local = local; generation = generation; lang = None }

short_is : (word : List ℕ) (g : Option ℕ) → is_word word ≡ true → IsGeneration g → IsName (short_name word g)
short_is word g is range = record { user = tt; local = is; generation = range; lang = tt }

pub file_of_word : (text : List ℕ) (path : Path) → is_word text ≡ true → path_name path ≡ short_name text None → IsFile path text
file_of_word text path is named = subst (λ (n : Name). IsName n × (text ≡ name_text n)) (sym named) (short_is text None is tt, sym (append-nil text))

pub digit_range : (g : ℕ) → (1 ≤ g) × (g ≤ 9) → IsGeneration (Some g)
digit_range g range = (range.0, omega (arith, range.1))

file_with_digit : (text word : List ℕ) (g : ℕ) (path : Path) → IsBeforeDigit text word g → is_word word ≡ true → path_name path ≡ short_name word (Some g) → IsFile path text
file_with_digit text word g path before is named =
    let small : g < 10 = omega (arith, before.range.1) in
    let digits : (48 + g) ∷ [] ≡ decimal g = sym (decimal_digit g small) in
    subst (λ (n : Name). IsName n × (text ≡ name_text n)) (sym named)
    (short_is word (Some g) is (digit_range g before.range), before.parts ∙ ap (λ (ds : List ℕ). word ++ ((codes "(" ++ ds) ++ codes ")")) digits)

pub digit_file : (text word : List ℕ) (g : ℕ) (o : Option Path) → IsBeforeDigit text word g
    → IfSome o (λ path. (is_word word ≡ true) × (path_name path ≡ short_name word (Some g))) → IfSome o (λ path. IsFile path text)
digit_file text word g None before named = tt
digit_file text word g (Some path) before named = file_with_digit text word g path before named.0 named.1

-- users and local names
user_sound : (text user : List ℕ) → is_user_text text ≡ true → drop 1 text ≡ user → IsUser user text
user_sound [] user is rest = absurd (false≢true is)
user_sound (c ∷ word) user is rest =
    let parts = and_parts (c == 58) (is_word word) is in
    let colon : c ≡ 58 = eqb-true c 58 parts.0 in
    let same : word ≡ user = rest in
    (subst (λ (w : List ℕ). is_word w ≡ true) same parts.1, cc)

pub user-sound : (text user : List ℕ) → user_read text ≡ Some user → IsUser user text
user-sound text user is = let parts = cond_some (is_user_text text) (drop 1 text) user is in user_sound text user parts.0 parts.1

pub user-complete : (user text : List ℕ) → IsUser user text → user_read text ≡ Some user
user-complete user text is = ap user_read is.1 ∙ ap (λ (b : Bool). let none : Option (List ℕ) = None in if b then Some user else none) is.0

pub local-sound : (text local : List ℕ) → local_read text ≡ Some local → IsLocal local text
local-sound text local is = let parts = cond_some (is_word text) text local is in (subst (λ (w : List ℕ). is_word w ≡ true) parts.1 parts.0, parts.1)

pub local-complete : (local text : List ℕ) → IsLocal local text → local_read text ≡ Some local
local-complete local text is = ap local_read is.1 ∙ ap (λ (b : Bool). let none : Option (List ℕ) = None in if b then Some local else none) is.0

-- amounts
front_parts : (kind : BudgetKind) (digits : List ℕ) → kind_front kind ++ digits ≡ kind_word kind ++ (32 ∷ digits)
front_parts kind.Space digits = refl
front_parts kind.Time digits = refl
front_parts kind.Money digits = refl

pub most_small : (kind : BudgetKind) → most_of kind < 2 ^ 64
most_small kind.Space = omega arith
most_small kind.Time = omega arith
most_small kind.Money = omega arith

pub amount-sound : (kind : BudgetKind) (n : ℕ) (text : List ℕ) → amount_read kind text ≡ Some n → IsAmount kind n text
amount-sound kind n text is =
    option_and_then_some (number_read (most_of kind)) (behind (kind_front kind) text) n is
    (λ digits there number.
    let parts = number-sound (most_of kind) n digits number in
    (parts.0, behind-is (kind_front kind) text digits there ∙ front_parts kind digits ∙ ap (λ (ds : List ℕ). kind_word kind ++ (32 ∷ ds)) parts.1))

pub amount-complete : (kind : BudgetKind) (n : ℕ) (text : List ℕ) → IsAmount kind n text → amount_read kind text ≡ Some n
amount-complete kind n text is =
    ap (amount_read kind) (is.1 ∙ sym (front_parts kind (decimal n))) ∙ ap (option_and_then (number_read (most_of kind))) (behind-append (kind_front kind) (decimal n))
    ∙ number-complete (most_of kind) n (decimal n) (most_small kind) (is.0, refl)

-- amounts of any budget
abbrev IsBudget : List ℕ → Option (BudgetKind × ℕ) → Type 0
IsBudget text o = (which : BudgetKind) (n : ℕ) → o ≡ Some (which, n) → IsAmount which n text

budget_or-sound : (text : List ℕ) (kind : BudgetKind) (o : Option ℕ) (others : Option (BudgetKind × ℕ)) → amount_read kind text ≡ o → IsBudget text others → IsBudget text (budget_or kind o others)
budget_or-sound text kind None others read sound which n is = sound which n is
budget_or-sound text kind (Some m) others read sound which n is =
    let parts = some_pair_parts kind which m n is in
    subst (λ (k : BudgetKind). IsAmount k n text) parts.0 (subst (λ (k : ℕ). IsAmount kind k text) parts.1 (amount-sound kind m text read))

no_budget : (text : List ℕ) → IsBudget text None
no_budget text which n is = absurd cc

pub budget-sound : (text : List ℕ) (which : BudgetKind) (n : ℕ) → budget_read text ≡ Some (which, n) → IsAmount which n text
budget-sound text =
    budget_or-sound text kind.Space (amount_read kind.Space text) _ refl
    (budget_or-sound text kind.Time (amount_read kind.Time text) _ refl (budget_or-sound text kind.Money (amount_read kind.Money text) None refl (no_budget text)))

budget_of_kind : (which : BudgetKind) (n : ℕ) → amount_read which (kind_word which ++ (32 ∷ decimal n)) ≡ Some n → budget_read (kind_word which ++ (32 ∷ decimal n)) ≡ Some (which, n)
budget_of_kind kind.Space n is =
    ap (λ (o : Option ℕ). budget_or kind.Space o
    (budget_or kind.Time (amount_read kind.Time (kind_word kind.Space ++ (32 ∷ decimal n))) (budget_or kind.Money (amount_read kind.Money (kind_word kind.Space ++ (32 ∷ decimal n))) None))) is
budget_of_kind kind.Time n is =
    ap (λ (o : Option ℕ). budget_or kind.Time o (budget_or kind.Money (amount_read kind.Money (kind_word kind.Time ++ (32 ∷ decimal n))) None)) is
budget_of_kind kind.Money n is = ap (λ (o : Option ℕ). budget_or kind.Money o None) is

pub budget-complete : (text : List ℕ) (which : BudgetKind) (n : ℕ) → IsAmount which n text → budget_read text ≡ Some (which, n)
budget-complete text which n is =
    ap budget_read is.1 ∙ budget_of_kind which n (amount-complete which n (kind_word which ++ (32 ∷ decimal n)) (is.0, refl))

-- units
unit_at : Kind → (n : ℕ) → n < 8 → unit.Unit
unit_at kind n range = record { kind = kind; number = n; in_range = range }

moved_unit : (kind : Kind) (n m : ℕ) → n ≡ m → (h : n < 8) (h' : m < 8) → unit_at kind n h ≡ unit_at kind m h'
moved_unit kind n m e h =
    subst (λ (k : ℕ). (h' : k < 8) → unit_at kind n h ≡ unit_at kind k h') e (λ h'. ap (unit_at kind n) (le_prop h h'))

unit_with-unit : (u : unit.Unit) → unit_with u.kind u.number ≡ u
unfolding unit_at
unit_with-unit u =
    let range : u.number < 8 = u.in_range in
    let same : min u.number 7 ≡ u.number = omega (arith, range) in
    moved_unit u.kind (min u.number 7) u.number same (unit_with u.kind u.number).in_range u.in_range

digit_sound : (kind : Kind) (rest : List ℕ) (u : unit.Unit) → digit_unit kind rest ≡ Some u → (u.number ≤ 7) × (unit_word kind ++ rest ≡ unit_word u.kind ++ ((48 + u.number) ∷ []))
digit_sound kind [] u is = absurd cc
digit_sound kind (d ∷ e ∷ more) u is = absurd cc
digit_sound kind (d ∷ []) u is =
    let parts = cond_some (nat_le 48 d && nat_le d 55) (unit_with kind (d - 48)) u is in
    let tests = and_parts (nat_le 48 d) (nat_le d 55) parts.0 in
    let low : 48 ≤ d = leb-true 48 d tests.0 in
    let high : d ≤ 55 = leb-true d 55 tests.1 in
    let number : min (d - 48) 7 ≡ u.number = ap (λ (v : unit.Unit). v.number) parts.1 in
    let kinds : kind ≡ u.kind = ap (λ (v : unit.Unit). v.kind) parts.1 in
    let few : u.number ≤ 7 = omega (arith, number, low, high) in
    let digit : d ≡ 48 + u.number = omega (arith, number, low, high) in
    (few, ap (λ (k : Kind). unit_word k ++ (d ∷ [])) kinds ∙ ap (λ (c : ℕ). unit_word u.kind ++ (c ∷ [])) digit)

unit_behind : (kind : Kind) (text rest : List ℕ) (u : unit.Unit) → behind (unit_word kind) text ≡ Some rest → digit_unit kind rest ≡ Some u → IsUnit u text
unit_behind kind text rest u there is = let parts = digit_sound kind rest u is in (parts.0, behind-is (unit_word kind) text rest there ∙ parts.1)

later_unit : (text : List ℕ) (u : unit.Unit) (o : Option (List ℕ)) → behind (codes "*LP") text ≡ o
    → (elim o [ Some rest ↦ digit_unit unit_kind.Lp rest | None ↦ option_and_then (digit_unit unit_kind.Tp) (behind (codes "*TP") text) ]) ≡ Some u → IsUnit u text
later_unit text u (Some rest) there is = unit_behind unit_kind.Lp text rest u there is
later_unit text u None there is =
    option_and_then_some (digit_unit unit_kind.Tp) (behind (codes "*TP") text) u is (λ rest at digit. unit_behind unit_kind.Tp text rest u at digit)

first_unit : (text : List ℕ) (u : unit.Unit) (o : Option (List ℕ)) → behind (codes "*CR") text ≡ o
    → (elim o [
      | Some rest ↦ digit_unit unit_kind.Cr rest
      | None ↦ elim (behind (codes "*LP") text) [ Some rest ↦ digit_unit unit_kind.Lp rest | None ↦ option_and_then (digit_unit unit_kind.Tp) (behind (codes "*TP") text) ]
    ]) ≡ Some u → IsUnit u text
first_unit text u (Some rest) there is = unit_behind unit_kind.Cr text rest u there is
first_unit text u None there is = later_unit text u (behind (codes "*LP") text) refl is

pub unit-sound : (text : List ℕ) (u : unit.Unit) → unit_read text ≡ Some u → IsUnit u text
unit-sound text u is = first_unit text u (behind (codes "*CR") text) refl is

digit_complete : (kind : Kind) (n : ℕ) → n ≤ 7 → digit_unit kind ((48 + n) ∷ []) ≡ Some (unit_with kind n)
digit_complete kind n few =
    let low : 48 ≤ 48 + n = omega arith in
    let high : 48 + n ≤ 55 = omega arith in
    let both : (nat_le 48 (48 + n) && nat_le (48 + n) 55) ≡ true = and_from _ _ (le-leb 48 (48 + n) low) (le-leb (48 + n) 55 high) in
    let back : 48 + n - 48 ≡ n = omega arith in
    ap (λ (b : Bool). let none : Option unit.Unit = None in if b then Some (unit_with kind (48 + n - 48)) else none) both
    ∙ ap (λ (m : ℕ). let o : Option unit.Unit = Some (unit_with kind m) in o) back

pub digit_unit-is : (kind : Kind) (text : List ℕ) (h : get_or text 0 0 - 48 < 8) → length text ≡ 1 → 48 ≤ get_or text 0 0 → get_or text 0 0 ≤ 55
    → ◌≡◌ {A = Option unit.Unit} (Some (record { kind = kind; number = get_or text 0 0 - 48; in_range = h })) (digit_unit kind text)
unfolding unit_at
digit_unit-is kind [] h one low high = absurd (omega (arith, one))
digit_unit-is kind (d ∷ e ∷ more) h one low high = absurd (omega (arith, one))
digit_unit-is kind (d ∷ []) h one low high =
    let tests : (nat_le 48 d && nat_le d 55) ≡ true = and_from _ _ (le-leb 48 d low) (le-leb d 55 high) in
    let number : d - 48 ≡ min (d - 48) 7 = omega (arith, high) in
    ap (λ (u : unit.Unit). let o : Option unit.Unit = Some u in o) (moved_unit kind (d - 48) (min (d - 48) 7) number h (unit_with kind (d - 48)).in_range)
    ∙ sym (ap (λ (b : Bool). let none : Option unit.Unit = None in if b then Some (unit_with kind (d - 48)) else none) tests)

unit_of_kind : (kind : Kind) (digit : ℕ) → unit_read (unit_word kind ++ (digit ∷ [])) ≡ digit_unit kind (digit ∷ [])
unit_of_kind unit_kind.Cr digit = refl
unit_of_kind unit_kind.Lp digit = refl
unit_of_kind unit_kind.Tp digit = refl

pub unit-complete : (u : unit.Unit) (text : List ℕ) → IsUnit u text → unit_read text ≡ Some u
unit-complete u text is =
    ap unit_read is.1 ∙ unit_of_kind u.kind (48 + u.number) ∙ digit_complete u.kind u.number is.0
    ∙ ap (λ (v : unit.Unit). let o : Option unit.Unit = Some v in o) (unit_with-unit u)

-- modes, letters and digits
pub mode-sound : (text : List ℕ) (m : Mode) → mode_read text ≡ Some m → text ≡ mode_word m
mode-sound text m is = sym (same_text-eq (mode_word m) text (found (λ (m : Mode). same_text (mode_word m) text) all_modes m is))

pub mode-complete : (m : Mode) → mode_read (mode_word m) ≡ Some m
mode-complete mode.Read = refl
mode-complete mode.Write = refl
mode-complete mode.Append = refl
mode-complete mode.Execute = refl
mode-complete mode.Erase = refl

pub letter-sound : (text : List ℕ) (letter : ℕ) → letter_read text ≡ Some letter → (is_param_letter letter ≡ true) × (text ≡ letter ∷ [])
letter-sound [] letter is = absurd cc
letter-sound (c ∷ d ∷ more) letter is = absurd cc
letter-sound (c ∷ []) letter is =
    let parts = cond_some (is_param_letter c) c letter is in
    (subst (λ (l : ℕ). is_param_letter l ≡ true) parts.1 parts.0, ap (λ (l : ℕ). l ∷ []) parts.1)

pub letter-complete : (letter : ℕ) → is_param_letter letter ≡ true → letter_read (letter ∷ []) ≡ Some letter
letter-complete letter is = ap (λ (b : Bool). let none : Option ℕ = None in if b then Some letter else none) is

-- a text is of a form if and only if it can be read as one
pub is_of-sound : (form : Form) (text : List ℕ) → is_of form text ≡ true → IsOf form text
is_of-sound form.File text is = let s = some_in (file_read text) is in (s.0, file-sound text s.0 s.1)
is_of-sound form.User text is = let s = some_in (user_read text) is in (s.0, user-sound text s.0 s.1)
is_of-sound form.Local text is = let s = some_in (local_read text) is in (s.0, local-sound text s.0 s.1)
is_of-sound (form.Amount kind) text is = let s = some_in (amount_read kind text) is in (s.0, amount-sound kind s.0 text s.1)
is_of-sound form.AnyAmount text is = let s = some_in (budget_read text) is in (s.0.0, (s.0.1, budget-sound text s.0.0 s.0.1 s.1))
is_of-sound form.Unit text is = let s = some_in (unit_read text) is in (s.0, unit-sound text s.0 s.1)
is_of-sound form.Mode text is = let s = some_in (mode_read text) is in (s.0, mode-sound text s.0 s.1)
is_of-sound form.Letter text is = let s = some_in (letter_read text) is in let parts = letter-sound text s.0 s.1 in (s.0, parts.0, parts.1)
is_of-sound form.Digit text is = let s = some_in (number_read 9 text) is in let parts = number-sound 9 s.0 text s.1 in (s.0, parts.0, parts.1)
is_of-sound form.Text text is = tt

pub is_of-complete : (form : Form) (text : List ℕ) → IsOf form text → is_of form text ≡ true
is_of-complete form.File text is = is_there (file_read text) is.0 (file-complete is.0 text is.1)
is_of-complete form.User text is = is_there (user_read text) is.0 (user-complete is.0 text is.1)
is_of-complete form.Local text is = is_there (local_read text) is.0 (local-complete is.0 text is.1)
is_of-complete (form.Amount kind) text is = is_there (amount_read kind text) is.0 (amount-complete kind is.0 text is.1)
is_of-complete form.AnyAmount text is = is_there (budget_read text) (is.0, is.1.0) (budget-complete text is.0 is.1.0 is.1.1)
is_of-complete form.Unit text is = is_there (unit_read text) is.0 (unit-complete is.0 text is.1)
is_of-complete form.Mode text is = is_there (mode_read text) is.0 (ap mode_read is.1 ∙ mode-complete is.0)
is_of-complete form.Letter text is = is_there (letter_read text) is.0 (ap letter_read is.2 ∙ letter-complete is.0 is.1)
is_of-complete form.Digit text is = is_there (number_read 9 text) is.0 (number-complete 9 is.0 text (omega arith) (is.1, is.2))
is_of-complete form.Text text is = refl
