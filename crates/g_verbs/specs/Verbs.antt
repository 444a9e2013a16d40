-- The verbs: their names, their parameters, and the action that each requests.
use Rattle.std.specs.Fmt.{decimal}
use Rattle.std.specs.List.{find}
use Rattle.std.specs.Prelude.{Err, IfSome, List, None, Ok, Option, Result, Some, [], codes, length, replicate, true, ℕ, ◌∷◌, ◌≡◌, ◌≤◌}
use Rattle.g_lang.specs.Conditions.{IsLetter}
use Rattle.g_name.specs.Grammar.{is_word}
use Rattle.g_name.specs.Order.{same_text}
use Rattle.g_name.specs.declared.path.Path.{Path}
use Rattle.g_plain.specs.declared.calls.BudgetKind.TheVariants as kind
use Rattle.g_verbs.specs.Forms.{Forms, IsFirstWrong, at_least, just}
use Rattle.g_verbs.specs.Parameters.{AreModes, IsAmount, IsFile, IsLocal, IsUnit, IsUser, most_of}
use Rattle.g_verbs.specs.declared.action.Action.{Action}
use Rattle.g_verbs.specs.declared.action.Action.TheVariants.{Append, Assign, Budget, Copy, Delete, Display, EndJob, Enter, Erase, Input, ListDir, ListFile, Load, Macro, NewUser, Plan, Release, Rename, Resume, Retrieve, SetParam, TrapCheck, TrapGo, TrapStop}
use Rattle.g_verbs.specs.declared.fault.VerbFault.{VerbFault}
use Rattle.g_verbs.specs.declared.fault.VerbFault.TheVariants.{BadParameter}
use Rattle.g_verbs.specs.declared.form.Form.TheVariants as form
use Rattle.g_verbs.specs.declared.verb.Verb.{Verb}
use Rattle.g_verbs.specs.declared.verb.Verb.TheVariants as verb

-- The verbs that are no macros.
abbrev pub verbs : List Verb
verbs =
    verb.Input ∷ verb.Copy ∷ verb.Append ∷ verb.Erase ∷ verb.Rename ∷ verb.ListFile ∷ verb.ListDir ∷ verb.TrapGo ∷ verb.TrapStop
    ∷ verb.TrapCheck ∷ verb.NewUser ∷ verb.Budget ∷ verb.Retrieve ∷ verb.Load ∷ verb.Plan ∷ verb.Enter ∷ verb.Resume
    ∷ verb.Assign ∷ verb.Release ∷ verb.Delete ∷ verb.SetParam ∷ verb.Display ∷ verb.EndJob ∷ []

-- The name of a verb.
abbrev pub verb_word : Verb → List ℕ
verb_word verb.Input = codes "INPUT"
verb_word verb.Copy = codes "COPY"
verb_word verb.Append = codes "APPEND"
verb_word verb.Erase = codes "ERASE"
verb_word verb.Rename = codes "RENAME"
verb_word verb.ListFile = codes "LISTFILE"
verb_word verb.ListDir = codes "LISTDIR"
verb_word verb.TrapGo = codes "TRAPGO"
verb_word verb.TrapStop = codes "TRAPSTOP"
verb_word verb.TrapCheck = codes "TRAPCHECK"
verb_word verb.NewUser = codes "NEWUSER"
verb_word verb.Budget = codes "BUDGET"
verb_word verb.Retrieve = codes "RETRIEVE"
verb_word verb.Load = codes "LOAD"
verb_word verb.Plan = codes "PLAN"
verb_word verb.Enter = codes "ENTER"
verb_word verb.Resume = codes "RESUME"
verb_word verb.Assign = codes "ASSIGN"
verb_word verb.Release = codes "RELEASE"
verb_word verb.Delete = codes "DELETE"
verb_word verb.SetParam = codes "SETPARAM"
verb_word verb.Display = codes "DISPLAY"
verb_word verb.EndJob = codes "ENDJOB"

-- The verb of a name; the name of a macro has none.
abbrev pub verb_of : List ℕ → Option Verb
verb_of name = find (λ verb. same_text (verb_word verb) name) verbs

-- THE PARAMETERS OF EACH VERB.
abbrev pub verb_forms : Verb → Forms
verb_forms verb.Input = just (form.File ∷ [])
verb_forms verb.Copy = just (form.File ∷ form.File ∷ [])
verb_forms verb.Append = just (form.File ∷ form.File ∷ [])
verb_forms verb.Erase = just (form.File ∷ [])
verb_forms verb.Rename = just (form.File ∷ form.Local ∷ [])
verb_forms verb.ListFile = just (form.File ∷ [])
verb_forms verb.ListDir = at_least 0 (form.User ∷ [])
verb_forms verb.TrapGo = at_least 3 (form.File ∷ form.User ∷ form.Mode ∷ form.Mode ∷ form.Mode ∷ form.Mode ∷ form.Mode ∷ [])
verb_forms verb.TrapStop = at_least 3 (form.File ∷ form.User ∷ form.Mode ∷ form.Mode ∷ form.Mode ∷ form.Mode ∷ form.Mode ∷ [])
verb_forms verb.TrapCheck = at_least 1 (form.File ∷ form.User ∷ [])
verb_forms verb.NewUser = at_least 3 (form.User ∷ form.Amount kind.Space ∷ form.Amount kind.Time ∷ form.Amount kind.Money ∷ [])
verb_forms verb.Budget = just (form.User ∷ form.AnyAmount ∷ [])
verb_forms verb.Retrieve = just (form.File ∷ [])
verb_forms verb.Load = just (form.File ∷ [])
verb_forms verb.Plan = just (form.File ∷ form.File ∷ [])
verb_forms verb.Enter = just (form.Digit ∷ [])
verb_forms verb.Resume = just []
verb_forms verb.Assign = just (form.Unit ∷ form.File ∷ [])
verb_forms verb.Release = just (form.Unit ∷ [])
verb_forms verb.Delete = just []
verb_forms verb.SetParam = at_least 1 (form.Letter ∷ form.Text ∷ [])
verb_forms verb.Display = record { all = form.Text ∷ []; least = 1; any_more = true }
verb_forms verb.EndJob = just []

-- The parameters of a macro: up to 24 texts.
abbrev pub macro_forms : Forms
macro_forms = at_least 0 (replicate 24 form.Text)

-- The parameters of a verb, or of a macro.
abbrev pub forms_with : Option Verb → Forms
forms_with None = macro_forms
forms_with (Some verb) = verb_forms verb

-- The parameters that a name requires.
abbrev pub forms_of : List ℕ → Forms
forms_of name = forms_with (verb_of name)

-- A user, or no parameter.
abbrev pub MayBeUser : Option (List ℕ) → List (List ℕ) → Type 0
MayBeUser None texts = texts ≡ []
MayBeUser (Some user) texts = (text : List ℕ) × IsUser user text × (texts ≡ text ∷ [])

-- An amount of MONEY, or no parameter.
abbrev pub MayBeMoney : Option ℕ → List (List ℕ) → Type 0
MayBeMoney None texts = texts ≡ []
MayBeMoney (Some n) texts = (text : List ℕ) × IsAmount kind.Money n text × (texts ≡ text ∷ [])

-- A text, or no parameter.
abbrev pub MayBeText : Option (List ℕ) → List (List ℕ) → Type 0
MayBeText None texts = texts ≡ []
MayBeText (Some text) texts = texts ≡ text ∷ []

-- A verb with exactly one file.
abbrev pub FileVerb : List ℕ → Path → List ℕ → List (List ℕ) → Type 0
FileVerb word file name params = (name ≡ word) × ((a : List ℕ) × IsFile file a × (params ≡ a ∷ []))

-- A verb with exactly two files.
abbrev pub TwoFiles : List ℕ → Path → Path → List ℕ → List (List ℕ) → Type 0
TwoFiles word from to name params =
    (name ≡ word) × ((a : List ℕ) × (b : List ℕ) × IsFile from a × IsFile to b × (params ≡ a ∷ b ∷ []))

-- TRAPGO and TRAPSTOP.
abbrev pub TrapVerb : List ℕ → Path → List ℕ → ℕ → List ℕ → List (List ℕ) → Type 0
TrapVerb word file user modes name params =
    (name ≡ word)
    × ((a : List ℕ) × (b : List ℕ) × (texts : List (List ℕ)) × IsFile file a × IsUser user b × AreModes modes texts × (params ≡ a ∷ b ∷ texts))

-- THE VERBS: this name with these parameters requests this action; `rest` is the text of the parameters.
abbrev pub Says : Action → List ℕ → List (List ℕ) → List ℕ → Type 0
Says (Input file) name params rest = FileVerb (codes "INPUT") file name params
Says (Copy from to) name params rest = TwoFiles (codes "COPY") from to name params
Says (Append from to) name params rest = TwoFiles (codes "APPEND") from to name params
Says (Erase file) name params rest = FileVerb (codes "ERASE") file name params
Says (Rename file to) name params rest =
    (name ≡ codes "RENAME") × ((a : List ℕ) × (b : List ℕ) × IsFile file a × IsLocal to b × (params ≡ a ∷ b ∷ []))
Says (ListFile file) name params rest = FileVerb (codes "LISTFILE") file name params
Says (ListDir user) name params rest = (name ≡ codes "LISTDIR") × MayBeUser user params
Says (TrapGo file user modes) name params rest = TrapVerb (codes "TRAPGO") file user modes name params
Says (TrapStop file user modes) name params rest = TrapVerb (codes "TRAPSTOP") file user modes name params
Says (TrapCheck file user) name params rest =
    (name ≡ codes "TRAPCHECK") × ((a : List ℕ) × (texts : List (List ℕ)) × IsFile file a × MayBeUser user texts × (params ≡ a ∷ texts))
Says (NewUser user space time money) name params rest =
    (name ≡ codes "NEWUSER")
    × ((a : List ℕ) × (b : List ℕ) × (c : List ℕ) × (texts : List (List ℕ)) × IsUser user a × IsAmount kind.Space space b × IsAmount kind.Time time c
    × MayBeMoney money texts × (params ≡ a ∷ b ∷ c ∷ texts))
Says (Budget user which amount) name params rest =
    (name ≡ codes "BUDGET") × ((a : List ℕ) × (b : List ℕ) × IsUser user a × IsAmount which amount b × (params ≡ a ∷ b ∷ []))
Says (Retrieve file) name params rest = FileVerb (codes "RETRIEVE") file name params
Says (Load file) name params rest = FileVerb (codes "LOAD") file name params
Says (Plan from to) name params rest = TwoFiles (codes "PLAN") from to name params
Says (Enter n) name params rest = (name ≡ codes "ENTER") × (n ≤ 9) × (params ≡ decimal n ∷ [])
Says Resume name params rest = (name ≡ codes "RESUME") × (params ≡ [])
Says (Assign unit file) name params rest =
    (name ≡ codes "ASSIGN") × ((a : List ℕ) × (b : List ℕ) × IsUnit unit a × IsFile file b × (params ≡ a ∷ b ∷ []))
Says (Release unit) name params rest = (name ≡ codes "RELEASE") × ((a : List ℕ) × IsUnit unit a × (params ≡ a ∷ []))
Says Delete name params rest = (name ≡ codes "DELETE") × (params ≡ [])
Says (SetParam letter text) name params rest =
    (name ≡ codes "SETPARAM") × ((texts : List (List ℕ)) × IsLetter letter × MayBeText text texts × (params ≡ (letter ∷ []) ∷ texts))
Says (Display text) name params rest = (name ≡ codes "DISPLAY") × (1 ≤ length params) × (text ≡ rest)
Says EndJob name params rest = (name ≡ codes "ENDJOB") × (params ≡ [])
Says (Macro called given) name params rest =
    (verb_of name ≡ None) × (is_word name ≡ true) × (called ≡ name) × (given ≡ params) × (length params ≤ 24)

-- THE BAD PARAMETER: the first, from 1, that doesn't have the verb's form, or is one too many, or is missing.
abbrev pub IsBadParameter : List ℕ → List (List ℕ) → ℕ → Type 0
IsBadParameter name params index = IsFirstWrong (forms_of name) params index

-- The right result of reading a verb.
abbrev pub IsRead : List ℕ → List (List ℕ) → List ℕ → Result Action ℕ → Type 0
IsRead name params rest (Ok action) = Says action name params rest
IsRead name params rest (Err index) = IsBadParameter name params index

-- The result of reading a verb.
abbrev pub Reads : List ℕ → List (List ℕ) → List ℕ → Result Action VerbFault → Type 0
Reads name params rest (Ok action) = Says action name params rest
Reads name params rest (Err (BadParameter index)) = IsBadParameter name params index

-- The reading of a verb, as a result of the code.
abbrev pub IsActionRead : Result Action ℕ → Result Action VerbFault → Type 0
IsActionRead r (Ok action) = r ≡ Ok action
IsActionRead r (Err (BadParameter index)) = r ≡ Err index

-- The numbers of an action are within the limits of the store's calls, of the order code and of the levels.
abbrev pub IsSound : Action → Type 0
IsSound (NewUser user space time money) = (space ≤ 65535) × (time ≤ 1000000000) × IfSome money (λ m. m ≤ 1000000000)
IsSound (Budget user which amount) = amount ≤ most_of which
IsSound (Enter n) = n ≤ 9
IsSound (SetParam letter text) = IsLetter letter
IsSound (Macro name params) = length params ≤ 24
IsSound action = Unit {0}
