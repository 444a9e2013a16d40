-- A verb with good parameters says its action.
-- serves: ReadLemmas
use Rattle.std.proofs.Common.{List, Option, Some, [], ap, arith, drop, false, length, map, refl, subst, suc, sym, zero, ℕ, ◌<◌, ◌≤◌, ◌∙◌, ◌∷◌, ◌≡◌}
use Rattle.std.specs.Fmt.{decimal}
use Rattle.std.specs.Prelude.{unwrap_or}
use Rattle.std.specs.List.{slice_get}
use Rattle.std.proofs.lemmas.List.{length-map}
use Rattle.std.proofs.lemmas.Option.{slice_get-get_or}
use Rattle.g_lang.specs.Conditions.{IsLetter}
use Rattle.g_name.specs.declared.path.Path.{Path}
use Rattle.g_peri.specs.declared.unit.Unit as unit
use Rattle.g_plain.specs.declared.calls.BudgetKind.{BudgetKind}
use Rattle.g_plain.specs.declared.calls.BudgetKind.TheVariants as kind
use Rattle.g_trap.specs.declared.mode_set.Mode.{Mode}
use Rattle.g_verbs.proofs.ParamLemmas.{amount-complete, budget-complete, file-complete, letter-complete, local-complete, mode-complete, unit-complete, user-complete}
use Rattle.g_lines.proofs.NumberLemmas.{number-complete}
use Rattle.g_verbs.specs.Ranges.{no_path, no_unit}
use Rattle.g_verbs.specs.Forms.{AreGood, Fits, Forms, IsGoodPlace, IsOf, at_least, just, or_any}
use Rattle.g_verbs.specs.VerbReader.{action_of, amount_of, budget_of, digit_of, file_of, letter_of, local_of, modes_read, money_at, param, unit_of, user_at, user_of, with_mode}
use Rattle.g_monitor.specs.Parts.{mode_word}
use Rattle.g_verbs.specs.Parameters.{AreModes, IsAmount, IsFile, IsLocal, IsUnit, IsUser, modes_of}
use Rattle.g_verbs.specs.Verbs.{MayBeMoney, MayBeText, MayBeUser, Says, macro_forms, verb_forms, verb_word}
use Rattle.g_verbs.specs.declared.form.Form.{Form}
use Rattle.g_verbs.specs.declared.form.Form.TheVariants as form
use Rattle.g_verbs.specs.declared.verb.Verb.{Verb}
use Rattle.g_verbs.specs.declared.verb.Verb.TheVariants as verb

pub file_of-is : (path : Path) (text : List ℕ) → IsFile path text → file_of text ≡ path
file_of-is path text is = ap (λ (o : Option Path). unwrap_or o no_path) (file-complete path text is)

pub user_of-is : (user text : List ℕ) → IsUser user text → user_of text ≡ user
user_of-is user text is = ap (λ (o : Option (List ℕ)). unwrap_or o []) (user-complete user text is)

pub local_of-is : (local text : List ℕ) → IsLocal local text → local_of text ≡ local
local_of-is local text is = ap (λ (o : Option (List ℕ)). unwrap_or o []) (local-complete local text is)

pub amount_of-is : (kind : BudgetKind) (n : ℕ) (text : List ℕ) → IsAmount kind n text → amount_of kind text ≡ n
amount_of-is kind n text is = ap (λ (o : Option ℕ). unwrap_or o 0) (amount-complete kind n text is)

pub budget_of-is : (which : BudgetKind) (n : ℕ) (text : List ℕ) → IsAmount which n text → budget_of text ≡ (which, n)
budget_of-is which n text is = ap (λ (o : Option (BudgetKind × ℕ)). unwrap_or o (kind.Space, 0)) (budget-complete text which n is)

pub unit_of-is : (u : unit.Unit) (text : List ℕ) → IsUnit u text → unit_of text ≡ u
unit_of-is u text is = ap (λ (o : Option unit.Unit). unwrap_or o no_unit) (unit-complete u text is)

pub digit_of-is : (n : ℕ) → n ≤ 9 → digit_of (decimal n) ≡ n
digit_of-is n few = ap (λ (o : Option ℕ). unwrap_or o 0) (number-complete 9 n (decimal n) (omega arith) (few, refl))

pub letter_of-is : (letter : ℕ) → IsLetter letter → letter_of (letter ∷ []) ≡ letter
letter_of-is letter is = ap (λ (o : Option ℕ). unwrap_or o 65) (letter-complete letter is)

file_value : (text : List ℕ) → IsOf form.File text → IsFile (file_of text) text
file_value text is = subst (λ (path : Path). IsFile path text) (sym (file_of-is is.0 text is.1)) is.1

user_value : (text : List ℕ) → IsOf form.User text → IsUser (user_of text) text
user_value text is = subst (λ (user : List ℕ). IsUser user text) (sym (user_of-is is.0 text is.1)) is.1

local_value : (text : List ℕ) → IsOf form.Local text → IsLocal (local_of text) text
local_value text is = subst (λ (local : List ℕ). IsLocal local text) (sym (local_of-is is.0 text is.1)) is.1

amount_value : (kind : BudgetKind) (text : List ℕ) → IsOf (form.Amount kind) text → IsAmount kind (amount_of kind text) text
amount_value kind text is = subst (λ (n : ℕ). IsAmount kind n text) (sym (amount_of-is kind is.0 text is.1)) is.1

budget_value : (text : List ℕ) → IsOf form.AnyAmount text → IsAmount (budget_of text).0 (budget_of text).1 text
budget_value text is = subst (λ (b : BudgetKind × ℕ). IsAmount b.0 b.1 text) (sym (budget_of-is is.0 is.1.0 text is.1.1)) is.1.1

unit_value : (text : List ℕ) → IsOf form.Unit text → IsUnit (unit_of text) text
unit_value text is = subst (λ (u : unit.Unit). IsUnit u text) (sym (unit_of-is is.0 text is.1)) is.1

digit_value : (text : List ℕ) → IsOf form.Digit text → (digit_of text ≤ 9) × (text ≡ decimal (digit_of text))
digit_value text is =
    let same : digit_of text ≡ is.0 = ap digit_of is.2 ∙ digit_of-is is.0 is.1 in
    (subst (λ (n : ℕ). n ≤ 9) (sym same) is.1, is.2 ∙ ap decimal (sym same))

letter_value : (text : List ℕ) → IsOf form.Letter text → IsLetter (letter_of text) × (text ≡ letter_of text ∷ [])
letter_value text is =
    let same : letter_of text ≡ is.0 = ap letter_of is.2 ∙ letter_of-is is.0 is.1 in
    (subst IsLetter (sym same) is.1, is.2 ∙ ap (λ (l : ℕ). l ∷ []) (sym same))

-- no place for no parameter, and for one more
lacks : {A : Type 0} (least place : ℕ) → place < least → least ≤ place → A
lacks least place h h' = absurd (omega (arith, h, h'))

-- the verbs by the forms of their parameters
file_says : (params : List (List ℕ)) → AreGood (just (form.File ∷ [])) params → (a : List ℕ) × IsFile (file_of (param params 0)) a × (params ≡ a ∷ [])
file_says [] good = lacks 1 0 (omega arith) (good 0)
file_says (a ∷ []) good = (a, file_value a (good 0), refl)
file_says (a ∷ b ∷ more) good = absurd (good 1)

files_say : (params : List (List ℕ)) → AreGood (just (form.File ∷ form.File ∷ [])) params
    → (a : List ℕ) × (b : List ℕ) × IsFile (file_of (param params 0)) a × IsFile (file_of (param params 1)) b × (params ≡ a ∷ b ∷ [])
files_say [] good = lacks 2 0 (omega arith) (good 0)
files_say (a ∷ []) good = lacks 2 1 (omega arith) (good 1)
files_say (a ∷ b ∷ []) good = (a, b, file_value a (good 0), file_value b (good 1), refl)
files_say (a ∷ b ∷ c ∷ more) good = absurd (good 2)

rename_says : (params : List (List ℕ)) → AreGood (just (form.File ∷ form.Local ∷ [])) params
    → (a : List ℕ) × (b : List ℕ) × IsFile (file_of (param params 0)) a × IsLocal (local_of (param params 1)) b × (params ≡ a ∷ b ∷ [])
rename_says [] good = lacks 2 0 (omega arith) (good 0)
rename_says (a ∷ []) good = lacks 2 1 (omega arith) (good 1)
rename_says (a ∷ b ∷ []) good = (a, b, file_value a (good 0), local_value b (good 1), refl)
rename_says (a ∷ b ∷ c ∷ more) good = absurd (good 2)

list_says : (params : List (List ℕ)) → AreGood (at_least 0 (form.User ∷ [])) params → MayBeUser (user_at params 0) params
list_says [] good = refl
list_says (a ∷ []) good = (a, user_value a (good 0), refl)
list_says (a ∷ b ∷ more) good = absurd (good 1)

check_says : (params : List (List ℕ)) → AreGood (at_least 1 (form.File ∷ form.User ∷ [])) params
    → (a : List ℕ) × (texts : List (List ℕ)) × IsFile (file_of (param params 0)) a × MayBeUser (user_at params 1) texts × (params ≡ a ∷ texts)
check_says [] good = lacks 1 0 (omega arith) (good 0)
check_says (a ∷ []) good = (a, [], file_value a (good 0), refl, refl)
check_says (a ∷ b ∷ []) good = (a, b ∷ [], file_value a (good 0), (b, user_value b (good 1), refl), refl)
check_says (a ∷ b ∷ c ∷ more) good = absurd (good 2)

new_user_says : (params : List (List ℕ)) → AreGood (at_least 3 (form.User ∷ form.Amount kind.Space ∷ form.Amount kind.Time ∷ form.Amount kind.Money ∷ [])) params
    → (a : List ℕ) × (b : List ℕ) × (c : List ℕ) × (texts : List (List ℕ)) × IsUser (user_of (param params 0)) a × IsAmount kind.Space (amount_of kind.Space (param params 1)) b
    × IsAmount kind.Time (amount_of kind.Time (param params 2)) c × MayBeMoney (money_at params 3) texts × (params ≡ a ∷ b ∷ c ∷ texts)
new_user_says [] good = lacks 3 0 (omega arith) (good 0)
new_user_says (a ∷ []) good = lacks 3 1 (omega arith) (good 1)
new_user_says (a ∷ b ∷ []) good = lacks 3 2 (omega arith) (good 2)
new_user_says (a ∷ b ∷ c ∷ []) good =
    (a, b, c, [], user_value a (good 0), amount_value kind.Space b (good 1), amount_value kind.Time c (good 2), refl, refl)
new_user_says (a ∷ b ∷ c ∷ d ∷ []) good =
    (a, b, c, d ∷ [], user_value a (good 0), amount_value kind.Space b (good 1), amount_value kind.Time c (good 2), (d, amount_value kind.Money d (good 3), refl), refl)
new_user_says (a ∷ b ∷ c ∷ d ∷ e ∷ more) good = absurd (good 4)

budget_says : (params : List (List ℕ)) → AreGood (just (form.User ∷ form.AnyAmount ∷ [])) params
    → (a : List ℕ) × (b : List ℕ) × IsUser (user_of (param params 0)) a × IsAmount (budget_of (param params 1)).0 (budget_of (param params 1)).1 b × (params ≡ a ∷ b ∷ [])
budget_says [] good = lacks 2 0 (omega arith) (good 0)
budget_says (a ∷ []) good = lacks 2 1 (omega arith) (good 1)
budget_says (a ∷ b ∷ []) good = (a, b, user_value a (good 0), budget_value b (good 1), refl)
budget_says (a ∷ b ∷ c ∷ more) good = absurd (good 2)

enter_says : (params : List (List ℕ)) → AreGood (just (form.Digit ∷ [])) params → (digit_of (param params 0) ≤ 9) × (params ≡ decimal (digit_of (param params 0)) ∷ [])
enter_says [] good = lacks 1 0 (omega arith) (good 0)
enter_says (a ∷ []) good = let value = digit_value a (good 0) in (value.0, ap (λ (t : List ℕ). t ∷ []) value.1)
enter_says (a ∷ b ∷ more) good = absurd (good 1)

nothing_says : (params : List (List ℕ)) → AreGood (just []) params → params ≡ []
nothing_says [] good = refl
nothing_says (a ∷ more) good = absurd (good 0)

assign_says : (params : List (List ℕ)) → AreGood (just (form.Unit ∷ form.File ∷ [])) params
    → (a : List ℕ) × (b : List ℕ) × IsUnit (unit_of (param params 0)) a × IsFile (file_of (param params 1)) b × (params ≡ a ∷ b ∷ [])
assign_says [] good = lacks 2 0 (omega arith) (good 0)
assign_says (a ∷ []) good = lacks 2 1 (omega arith) (good 1)
assign_says (a ∷ b ∷ []) good = (a, b, unit_value a (good 0), file_value b (good 1), refl)
assign_says (a ∷ b ∷ c ∷ more) good = absurd (good 2)

release_says : (params : List (List ℕ)) → AreGood (just (form.Unit ∷ [])) params → (a : List ℕ) × IsUnit (unit_of (param params 0)) a × (params ≡ a ∷ [])
release_says [] good = lacks 1 0 (omega arith) (good 0)
release_says (a ∷ []) good = (a, unit_value a (good 0), refl)
release_says (a ∷ b ∷ more) good = absurd (good 1)

set_param_says : (params : List (List ℕ)) → AreGood (at_least 1 (form.Letter ∷ form.Text ∷ [])) params
    → (texts : List (List ℕ)) × IsLetter (letter_of (param params 0)) × MayBeText (slice_get params 1) texts × (params ≡ (letter_of (param params 0) ∷ []) ∷ texts)
set_param_says [] good = lacks 1 0 (omega arith) (good 0)
set_param_says (a ∷ []) good = let value = letter_value a (good 0) in ([], value.0, refl, ap (λ (t : List ℕ). t ∷ []) value.1)
set_param_says (a ∷ b ∷ []) good = let value = letter_value a (good 0) in (b ∷ [], value.0, refl, ap (λ (t : List ℕ). t ∷ b ∷ []) value.1)
set_param_says (a ∷ b ∷ c ∷ more) good = absurd (good 2)

display_says : (params : List (List ℕ)) → AreGood (verb_forms verb.Display) params → 1 ≤ length params
display_says [] good = lacks 1 0 (omega arith) (good 0)
display_says (a ∷ more) good = omega arith

-- modes
five_modes : List Form
five_modes = form.Mode ∷ form.Mode ∷ form.Mode ∷ form.Mode ∷ form.Mode ∷ []

mode_place : (i : ℕ) (text : List ℕ) → Fits (or_any false (slice_get five_modes i)) text → IsOf form.Mode text
unfolding five_modes
mode_place zero text is = is
mode_place (suc zero) text is = is
mode_place (suc (suc zero)) text is = is
mode_place (suc (suc (suc zero))) text is = is
mode_place (suc (suc (suc (suc zero)))) text is = is
mode_place (suc (suc (suc (suc (suc i))))) text is = absurd is

modes_in : (ms : List (List ℕ)) → ((i : ℕ) (text : List ℕ) → slice_get ms i ≡ Some text → IsOf form.Mode text) → (list : List Mode) × (ms ≡ map mode_word list)
modes_in [] each = ([], refl)
modes_in (m ∷ ms) each =
    let first = each 0 m refl in
    let others = modes_in ms (λ i text at. each (suc i) text at) in
    (first.0 ∷ others.0, ap (λ (t : List ℕ). t ∷ ms) first.1 ∙ ap (λ (ts : List (List ℕ)). mode_word first.0 ∷ ts) others.1)

pub modes_read-words : (list : List Mode) → modes_read (map mode_word list) ≡ modes_of list
modes_read-words [] = refl
modes_read-words (m ∷ list) =
    ap (λ (o : Option Mode). with_mode o (modes_read (map mode_word list))) (mode-complete m) ∙ ap (λ (n : ℕ). with_mode (Some m) n) (modes_read-words list)

abbrev pub trap_forms : Forms
trap_forms = verb_forms verb.TrapGo

IsModePlace : List (List ℕ) → Type 0
IsModePlace ms = (i : ℕ) → IsGoodPlace trap_forms (suc (suc i)) (slice_get ms i)

some_mode : (ms : List (List ℕ)) → IsModePlace ms → 1 ≤ length ms
unfolding IsModePlace
some_mode [] good = lacks 3 2 (omega arith) (good 0)
some_mode (m ∷ ms) good = omega arith

few_modes : (ms : List (List ℕ)) → IsModePlace ms → length ms ≤ 5
unfolding IsModePlace
few_modes ms good =
    let no_sixth : 5 < length ms → ⊥ = λ h. subst (IsGoodPlace trap_forms 7) (slice_get-get_or ms 5 [] h) (good 5) in
    omega (arith, no_sixth)

modes_say : (ms : List (List ℕ)) → IsModePlace ms → AreModes (modes_read ms) ms
unfolding IsModePlace five_modes
modes_say ms good =
    let found = modes_in ms (λ i text at. mode_place i text (subst (IsGoodPlace trap_forms (suc (suc i))) at (good i))) in
    let same : length ms ≡ length found.0 = ap length found.1 ∙ length-map found.0 mode_word in
    let some : 1 ≤ length ms = some_mode ms good in
    let few : length ms ≤ 5 = few_modes ms good in
    record {
      list = found.0;
      least = omega (arith, same, some);
      most = omega (arith, same, few);
      words = found.1;
      all = ap modes_read found.1 ∙ modes_read-words found.0;
    }

trap_says : (params : List (List ℕ)) → AreGood trap_forms params
    → (a : List ℕ) × (b : List ℕ) × (texts : List (List ℕ)) × IsFile (file_of (param params 0)) a × IsUser (user_of (param params 1)) b
    × AreModes (modes_read (drop 2 params)) texts × (params ≡ a ∷ b ∷ texts)
unfolding IsModePlace
trap_says [] good = lacks 3 0 (omega arith) (good 0)
trap_says (a ∷ []) good = lacks 3 1 (omega arith) (good 1)
trap_says (a ∷ b ∷ ms) good = (a, b, ms, file_value a (good 0), user_value b (good 1), modes_say ms (λ i. good (suc (suc i))), refl)

-- EACH VERB
pub good-says : (v : Verb) (params : List (List ℕ)) (rest : List ℕ) → AreGood (verb_forms v) params → Says (action_of v params rest) (verb_word v) params rest
good-says verb.Input params rest good = (refl, file_says params good)
good-says verb.Copy params rest good = (refl, files_say params good)
good-says verb.Append params rest good = (refl, files_say params good)
good-says verb.Erase params rest good = (refl, file_says params good)
good-says verb.Rename params rest good = (refl, rename_says params good)
good-says verb.ListFile params rest good = (refl, file_says params good)
good-says verb.ListDir params rest good = (refl, list_says params good)
good-says verb.TrapGo params rest good = (refl, trap_says params good)
good-says verb.TrapStop params rest good = (refl, trap_says params good)
good-says verb.TrapCheck params rest good = (refl, check_says params good)
good-says verb.NewUser params rest good = (refl, new_user_says params good)
good-says verb.Budget params rest good = (refl, budget_says params good)
good-says verb.Retrieve params rest good = (refl, file_says params good)
good-says verb.Load params rest good = (refl, file_says params good)
good-says verb.Plan params rest good = (refl, files_say params good)
good-says verb.Enter params rest good = let e = enter_says params good in (refl, e.0, e.1)
good-says verb.Resume params rest good = (refl, nothing_says params good)
good-says verb.Assign params rest good = (refl, assign_says params good)
good-says verb.Release params rest good = (refl, release_says params good)
good-says verb.Delete params rest good = (refl, nothing_says params good)
good-says verb.SetParam params rest good = (refl, set_param_says params good)
good-says verb.Display params rest good = (refl, display_says params good, refl)
good-says verb.EndJob params rest good = (refl, nothing_says params good)

-- a macro has 24 parameters at most
pub macro-few : (params : List (List ℕ)) → AreGood macro_forms params → length params ≤ 24
macro-few params good =
    let no_more : 24 < length params → ⊥ = λ h. subst (IsGoodPlace macro_forms 24) (slice_get-get_or params 24 [] h) (good 24) in
    omega (arith, no_more)
