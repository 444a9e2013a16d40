-- Verbs that are read without building their list of parameters: those of one file and of two, RENAME, and DISPLAY.
-- serves: file_and_local, only_file, read_by, read_file, read_files, read_known (grammar, sound), read_rename, two_files, crates above
use Rattle.std.proofs.Common.{Err, IfOk, List, MatchOption, None, Ok, Option, Result, Some, [], ap, arith, length, refl, subst, suc, sym, true, zero, ℕ, ◌-◌, ◌≤◌, ◌∙◌, ◌∷◌, ◌≡◌, ◌≢◌}
use Rattle.std.specs.List.{slice_get}
use Rattle.g_lang.proofs.ParseLemmas.{params-some}
use Rattle.g_lang.specs.LineReader.{params_read}
use Rattle.g_name.specs.Grammar.{is_word}
use Rattle.g_name.specs.declared.path.Path.{Path}
use Rattle.g_verbs.proofs.ReadLemmas.{read-asked, reading-right, said-sound}
use Rattle.g_verbs.proofs.WalkLemmas.{Walked, walked}
use Rattle.g_verbs.specs.Forms.{AreGood, Forms, IsFirstWrong, IsGoodPlace, just}
use Rattle.g_verbs.specs.Tables.{is_display, is_of_one_file, is_of_two_files, is_rename}
use Rattle.g_verbs.specs.VerbReader.{action_of, action_read, asked, file_of, file_read, first_wrong, is_of, local_of, local_read, param}
use Rattle.g_verbs.specs.Verbs.{IsActionRead, IsRead, IsSound, Reads, forms_with, verb_forms, verb_of}
use Rattle.g_verbs.specs.declared.action.Action.{Action}
use Rattle.g_verbs.specs.declared.action.Action.TheVariants as action
use Rattle.g_verbs.specs.declared.fault.VerbFault.{VerbFault}
use Rattle.g_verbs.specs.declared.fault.VerbFault.TheVariants.{BadParameter}
use Rattle.g_verbs.specs.declared.form.Form.{Form}
use Rattle.g_verbs.specs.declared.form.Form.TheVariants as form
use Rattle.g_verbs.specs.declared.verb.Verb.{Verb}
use Rattle.g_verbs.specs.declared.verb.Verb.TheVariants as verb

good_alone : (text : List ℕ) (path : Path) → file_read text ≡ Some path → AreGood (just (form.File ∷ [])) (text ∷ [])
good_alone text path read =
    let none : first_wrong (just (form.File ∷ [])) (text ∷ []) ≡ None = rw read refl in
    subst (Walked (just (form.File ∷ [])) (text ∷ [])) none (walked (just (form.File ∷ [])) (text ∷ []))

file_alone : (text : List ℕ) (path : Path) → file_read text ≡ Some path → path ≡ file_of (param (text ∷ []) 0)
file_alone text path read = rw read refl

-- if one parameter is wrong, not all are good
not_good : (f : Forms) (params : List (List ℕ)) (index : ℕ) → first_wrong f params ≡ Some index → AreGood f params → ⊥
not_good f params index is good = let first : IsFirstWrong f params index = subst (Walked f params) is (walked f params) in first.wrong (good (index - 1))

no_file : (text : List ℕ) → file_read text ≡ None → AreGood (just (form.File ∷ [])) (text ∷ []) → ⊥
no_file text none = not_good (just (form.File ∷ [])) (text ∷ []) 1 (rw none refl)

pub not-alone : (params : List (List ℕ)) → length params ≢ 1 → AreGood (just (form.File ∷ [])) params → ⊥
not-alone [] other good = let some = good 0 in omega (arith, some)
not-alone (text ∷ []) other good = other refl
not-alone (text ∷ next ∷ texts) other good = good 1

pub only-file : (params : List (List ℕ)) (text : List ℕ) (o : Option Path) → params ≡ text ∷ [] → o ≡ file_read text
    → MatchOption o (AreGood (just (form.File ∷ [])) params → ⊥) (λ path. AreGood (just (form.File ∷ [])) params × (path ≡ file_of (param params 0)))
only-file params text None same read = subst (λ (ps : List (List ℕ)). AreGood (just (form.File ∷ [])) ps → ⊥) (sym same) (no_file text (sym read))
only-file params text (Some path) same read =
    subst (λ (ps : List (List ℕ)). AreGood (just (form.File ∷ [])) ps × (path ≡ file_of (param ps 0))) (sym same) (good_alone text path (sym read), file_alone text path (sym read))

-- two parameters
good_two : (f : Form) (a b : List ℕ) (path : Path) → file_read a ≡ Some path → is_of f b ≡ true → AreGood (just (form.File ∷ f ∷ [])) (a ∷ b ∷ [])
good_two f a b path read is =
    let none : first_wrong (just (form.File ∷ f ∷ [])) (a ∷ b ∷ []) ≡ None = rw (read, is) refl in
    subst (Walked (just (form.File ∷ f ∷ [])) (a ∷ b ∷ [])) none (walked (just (form.File ∷ f ∷ [])) (a ∷ b ∷ []))

pub two_files : (params : List (List ℕ)) (a b : List ℕ) (from to : Path) → params ≡ a ∷ b ∷ [] → Some from ≡ file_read a → Some to ≡ file_read b
    → AreGood (just (form.File ∷ form.File ∷ [])) params × (from ≡ file_of (param params 0)) × (to ≡ file_of (param params 1))
two_files params a b from to same one two =
    subst (λ (ps : List (List ℕ)). AreGood (just (form.File ∷ form.File ∷ [])) ps × (from ≡ file_of (param ps 0)) × (to ≡ file_of (param ps 1))) (sym same)
    (good_two form.File a b from (sym one) (rw (sym two) refl), rw (sym one) refl, rw (sym two) refl)

pub file_and_local : (params : List (List ℕ)) (a b : List ℕ) (file : Path) (to : List ℕ) → params ≡ a ∷ b ∷ [] → Some file ≡ file_read a → Some to ≡ local_read b
    → AreGood (just (form.File ∷ form.Local ∷ [])) params × (file ≡ file_of (param params 0)) × (to ≡ local_of (param params 1))
file_and_local params a b file to same one two =
    subst (λ (ps : List (List ℕ)). AreGood (just (form.File ∷ form.Local ∷ [])) ps × (file ≡ file_of (param ps 0)) × (to ≡ local_of (param ps 1))) (sym same)
    (good_two form.Local a b file (sym one) (rw (sym two) refl), rw (sym one) refl, rw (sym two) refl)

-- the parameters of DISPLAY are any texts, at least one
display_later : (place : ℕ) (o : Option (List ℕ)) → IsGoodPlace (verb_forms verb.Display) (suc place) o
display_later place None = omega arith
display_later place (Some text) = tt

pub display-good : (params : List (List ℕ)) → 1 ≤ length params → AreGood (verb_forms verb.Display) params
display-good [] some place = absurd (omega (arith, some))
display-good (text ∷ texts) some zero = tt
display-good (text ∷ texts) some (suc place) = display_later place (slice_get texts place)

-- their actions
displays : (v : Option Verb) → is_display v ≡ true → v ≡ Some verb.Display
displays (Some verb.Display) is = refl
displays other is = absurd cc

pub display-read : (name rest : List ℕ) (v : Option Verb) → v ≡ verb_of name → is_display v ≡ true → is_word name ≡ true → (rest ≡ [] → ⊥)
    → action_read name (params_read rest) rest ≡ Ok (action.Display rest)
display-read name rest v is display word some =
    let there : verb_of name ≡ Some verb.Display = sym is ∙ displays v display in
    (read-asked name (params_read rest) rest (verb_forms verb.Display) (params_read rest) (Some verb.Display) (action.Display rest) (ap forms_with (sym there)) refl (sym there) word
    (display-good (params_read rest) (params-some rest some)) refl).reads

file_forms : (v : Option Verb) → is_of_one_file v ≡ true → forms_with v ≡ just (form.File ∷ [])
file_forms (Some verb.Input) is = refl
file_forms (Some verb.Erase) is = refl
file_forms (Some verb.ListFile) is = refl
file_forms (Some verb.Retrieve) is = refl
file_forms (Some verb.Load) is = refl
file_forms other is = absurd cc

files_forms : (v : Option Verb) → is_of_two_files v ≡ true → forms_with v ≡ just (form.File ∷ form.File ∷ [])
files_forms (Some verb.Copy) is = refl
files_forms (Some verb.Append) is = refl
files_forms (Some verb.Plan) is = refl
files_forms other is = absurd cc

renames : (v : Option Verb) → is_rename v ≡ true → v ≡ Some verb.Rename
renames (Some verb.Rename) is = refl
renames other is = absurd cc

-- a verb whose parameters are good, by their text
alone : (name rest text : List ℕ) (v : Option Verb) (forms : Forms) (asked_for : Action) → v ≡ verb_of name → is_word name ≡ true → forms_with v ≡ forms
    → text ≡ rest → AreGood forms (params_read text) → asked_for ≡ asked v name (params_read text) rest → action_read name (params_read rest) rest ≡ Ok asked_for
alone name rest text v forms asked_for is word are same good asks =
    (read-asked name (params_read rest) rest forms (params_read rest) v asked_for (sym are ∙ ap forms_with is) refl is word
    (subst (λ (ts : List ℕ). AreGood forms (params_read ts)) same good)
    (subst (λ (ts : List ℕ). asked_for ≡ asked v name (params_read ts) rest) same asks)).reads

pub file-read : (name rest text : List ℕ) (v : Option Verb) (path : Path) (asked_for : Action) → v ≡ verb_of name → is_word name ≡ true → is_of_one_file v ≡ true
    → text ≡ rest → AreGood (just (form.File ∷ [])) (params_read text) × (path ≡ file_of (param (params_read text) 0))
    → ((params : List (List ℕ)) → path ≡ file_of (param params 0) → asked_for ≡ asked v name params rest) → action_read name (params_read rest) rest ≡ Ok asked_for
file-read name rest text v path asked_for is word kind same found asks =
    alone name rest text v (just (form.File ∷ [])) asked_for is word (file_forms v kind) same found.0 (asks (params_read text) found.1)

pub files-read : (name rest text : List ℕ) (v : Option Verb) (files : Path × Path) (asked_for : Action) → v ≡ verb_of name → is_word name ≡ true → is_of_two_files v ≡ true
    → text ≡ rest
    → AreGood (just (form.File ∷ form.File ∷ [])) (params_read text) × (files.0 ≡ file_of (param (params_read text) 0)) × (files.1 ≡ file_of (param (params_read text) 1))
    → ((params : List (List ℕ)) → files.0 ≡ file_of (param params 0) → files.1 ≡ file_of (param params 1) → asked_for ≡ asked v name params rest)
    → action_read name (params_read rest) rest ≡ Ok asked_for
files-read name rest text v files asked_for is word kind same found asks =
    alone name rest text v (just (form.File ∷ form.File ∷ [])) asked_for is word (files_forms v kind) same found.0 (asks (params_read text) found.1 found.2)

pub rename-read : (name rest text : List ℕ) (v : Option Verb) (both : Path × List ℕ) (asked_for : Action) → v ≡ verb_of name → is_word name ≡ true → is_rename v ≡ true
    → text ≡ rest
    → AreGood (just (form.File ∷ form.Local ∷ [])) (params_read text) × (both.0 ≡ file_of (param (params_read text) 0)) × (both.1 ≡ local_of (param (params_read text) 1))
    → ((params : List (List ℕ)) → both.0 ≡ file_of (param params 0) → both.1 ≡ local_of (param params 1) → asked_for ≡ action_of verb.Rename params [])
    → action_read name (params_read rest) rest ≡ Ok asked_for
rename-read name rest text v both asked_for is word kind same found asks =
    let which : v ≡ Some verb.Rename = renames v kind in
    alone name rest text (Some verb.Rename) (just (form.File ∷ form.Local ∷ [])) asked_for (sym which ∙ is) word refl same found.0 (asks (params_read text) found.1 found.2)

-- what the reading of a verb says
pub read_reads : (name : List ℕ) (params : List (List ℕ)) (rest : List ℕ) (r : Result Action VerbFault) → is_word name ≡ true → IsActionRead (action_read name params rest) r
    → Reads name params rest r
read_reads name params rest (Ok a) word is = subst (IsRead name params rest) is (reading-right name params rest word)
read_reads name params rest (Err (BadParameter index)) word is = subst (IsRead name params rest) is (reading-right name params rest word)

pub read_sound : (name : List ℕ) (params : List (List ℕ)) (rest : List ℕ) (r : Result Action VerbFault) → is_word name ≡ true → IsActionRead (action_read name params rest) r
    → IfOk r IsSound
read_sound name params rest (Ok a) word is = said-sound a name params rest (read_reads name params rest (Ok a) word is)
read_sound name params rest (Err fault) word is = tt
