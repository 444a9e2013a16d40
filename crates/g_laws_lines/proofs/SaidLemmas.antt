-- What a line without a byte 10 says has no byte 10, and neither have the names of the action that it requests.
-- serves: TurnLemmas, WorkLemmas
use Rattle.std.proofs.Common.{◌≡◌, ◌++◌, ℕ, true, List, [], ◌∷◌, map, Option, Some, None, IfSome, unwrap_or, Result, Ok, Err, refl, sym, ◌∙◌, ap, subst}
use Rattle.std.specs.Option.{option_map}
use Rattle.std.proofs.lemmas.Bool.{and_from, and_parts}
use Rattle.g_lang.proofs.ParseLemmas.{read-grammar}
use Rattle.g_lang.specs.Conditions.{cond_text}
use Rattle.g_lang.specs.LineReader.{reading}
use Rattle.g_lang.specs.Lines.{IsReading, IsWritten, LineSaid, Reading, Said, SaidGoto, SaidIf, SaidVerb, SaidWhenever, Written, WrittenGoto, WrittenIf, WrittenVerb, WrittenWhenever, command_text, line_text, option_text, params_text, said_by}
use Rattle.g_lang.specs.Words.{joined, spaces, trimmed}
use Rattle.g_name.specs.Grammar.{is_word}
use Rattle.g_name.specs.declared.path.Path.{Path}
use Rattle.g_verbs.proofs.ReadLemmas.{reading-right}
use Rattle.g_verbs.specs.Parameters.{IsFile}
use Rattle.g_verbs.specs.VerbReader.{action_read}
use Rattle.g_verbs.specs.Verbs.{IsRead, MayBeText, MayBeUser, Says}
use Rattle.g_verbs.specs.declared.action.Action.{Action}
use Rattle.g_verbs.specs.declared.action.Action.TheVariants as action
use Rattle.g_laws_lines.proofs.LevelLemmas.{trimmed_line}
use Rattle.g_laws_lines.proofs.PrintLemmas.{IsFinePath, path_fine}
use Rattle.g_laws_lines.proofs.TextLemmas.{are_lines, is_line, line_parts, word_line}

-- what a command says: its name is a word, and its texts have no byte 10
abbrev pub IsFineSaid : Said → Type 0
IsFineSaid (SaidGoto label) = Unit {0}
IsFineSaid (SaidIf cond inner) = IsFineSaid inner
IsFineSaid (SaidWhenever cond text) = is_line text ≡ true
IsFineSaid (SaidVerb name params rest) = (is_word name ≡ true) × (are_lines params ≡ true) × (is_line rest ≡ true)

-- PARAMETERS
joined_lines : (parts : List (List ℕ)) → is_line (joined parts) ≡ true → are_lines (map trimmed parts) ≡ true
joined_lines [] is = refl
joined_lines (part ∷ []) is = and_from _ _ (trimmed_line part is) refl
joined_lines (part ∷ more ∷ parts) is =
    let both = line_parts part (44 ∷ joined (more ∷ parts)) is in
    and_from _ _ (trimmed_line part both.0) (joined_lines (more ∷ parts) both.1)

params_lines : (gap : ℕ) (parts : List (List ℕ)) → is_line (params_text gap parts) ≡ true → is_line (joined parts) ≡ true
params_lines gap [] is = refl
params_lines gap (part ∷ parts) is = (line_parts (spaces gap) (joined (part ∷ parts)) is).1

-- A COMMAND
written_fine : (w : Written) → IsWritten w → is_line (command_text w) ≡ true → IsFineSaid (said_by w)
written_fine (WrittenGoto label) well is = tt
written_fine (WrittenIf cond inner) well is = written_fine inner well.1 (line_parts (cond_text cond) (44 ∷ command_text inner) is).1
written_fine (WrittenWhenever cond inner) well is = (line_parts (cond_text cond) (44 ∷ command_text inner) is).1
written_fine (WrittenVerb name gap parts) well is =
    let rest = params_lines gap parts (line_parts name (params_text gap parts) is).1 in
    ((and_parts _ _ well.0).0, joined_lines parts rest, rest)

option_fine : (command : Option Written) → IfSome command IsWritten → is_line (option_text command) ≡ true → IfSome (option_map said_by command) IsFineSaid
option_fine None well is = tt
option_fine (Some command) well is = written_fine command well is

grammar_fine : (text : List ℕ) (said : LineSaid) → is_line text ≡ true → IsReading text (Ok said) → IfSome said.command IsFineSaid
grammar_fine text said is (l, well, text_is, said_is) =
    let all : is_line (line_text l) ≡ true = subst (λ (t : List ℕ). is_line t ≡ true) text_is is in
    let behind_front = line_parts (spaces l.front) (unwrap_or l.label [] ++ (spaces l.gap ++ (option_text l.command ++ spaces l.back))) all in
    let behind_label = line_parts (unwrap_or l.label []) (spaces l.gap ++ (option_text l.command ++ spaces l.back)) behind_front.1 in
    let behind_gap = line_parts (spaces l.gap) (option_text l.command ++ spaces l.back) behind_label.1 in
    let command = line_parts (option_text l.command) (spaces l.back) behind_gap.1 in
    subst (λ (s : LineSaid). IfSome s.command IsFineSaid) (sym said_is) (option_fine l.command well.command command.0)

abbrev pub IsFineReading : Reading → Type 0
IsFineReading (Ok said) = IfSome said.command IsFineSaid
IsFineReading (Err place) = Unit {0}

pub reading_fine : (text : List ℕ) → is_line text ≡ true → IsFineReading (reading text)
reading_fine text is = by (reading text) refl
  where
    by : (r : Reading) → reading text ≡ r → IsFineReading r
    by (Ok said) e = grammar_fine text said is (read-grammar text said e)
    by (Err place) e = tt

-- AN ACTION
abbrev pub IsFineAction : Action → Type 0
IsFineAction (action.Input file) = IsFinePath file
IsFineAction (action.Copy from to) = IsFinePath from × IsFinePath to
IsFineAction (action.Append from to) = IsFinePath from × IsFinePath to
IsFineAction (action.Erase file) = IsFinePath file
IsFineAction (action.Rename file to) = IsFinePath file × (is_line to ≡ true)
IsFineAction (action.ListFile file) = IsFinePath file
IsFineAction (action.ListDir user) = IfSome user (λ u. is_line u ≡ true)
IsFineAction (action.TrapGo file user modes) = IsFinePath file
IsFineAction (action.TrapStop file user modes) = IsFinePath file
IsFineAction (action.TrapCheck file user) = IsFinePath file
IsFineAction (action.NewUser user space time money) = is_line user ≡ true
IsFineAction (action.Budget user kind amount) = Unit {0}
IsFineAction (action.Retrieve file) = IsFinePath file
IsFineAction (action.Load file) = IsFinePath file
IsFineAction (action.Plan from to) = IsFinePath from × IsFinePath to
IsFineAction (action.Enter entry) = Unit {0}
IsFineAction action.Resume = Unit {0}
IsFineAction (action.Assign unit file) = IsFinePath file
IsFineAction (action.Release unit) = Unit {0}
IsFineAction action.Delete = Unit {0}
IsFineAction (action.SetParam letter text) = is_line (unwrap_or text []) ≡ true
IsFineAction (action.Display text) = is_line text ≡ true
IsFineAction action.EndJob = Unit {0}
IsFineAction (action.Macro name params) = (is_line name ≡ true) × (are_lines params ≡ true)

file_fine : (path : Path) (text : List ℕ) → IsFile path text → IsFinePath path
file_fine path text is = path_fine path is.0

may_be_fine : (user : Option (List ℕ)) (texts : List (List ℕ)) → MayBeUser user texts → IfSome user (λ u. is_line u ≡ true)
may_be_fine None texts may = tt
may_be_fine (Some user) texts (text, is, texts_are) = word_line user is.0

text_fine : (text : Option (List ℕ)) (texts : List (List ℕ)) → are_lines texts ≡ true → MayBeText text texts → is_line (unwrap_or text []) ≡ true
text_fine None texts are may = refl
text_fine (Some text) texts are may = (and_parts _ _ (ap are_lines (sym may) ∙ are)).0

says_fine : (asked : Action) (name : List ℕ) (params : List (List ℕ)) (rest : List ℕ) → is_word name ≡ true → are_lines params ≡ true → is_line rest ≡ true → Says asked name params rest → IsFineAction asked
says_fine (action.Input file) name params rest word are is says = file_fine file says.1.0 says.1.1
says_fine (action.Copy from to) name params rest word are is (n, (a, b, one, two, e)) = (file_fine from a one, file_fine to b two)
says_fine (action.Append from to) name params rest word are is (n, (a, b, one, two, e)) = (file_fine from a one, file_fine to b two)
says_fine (action.Erase file) name params rest word are is (n, (a, one, e)) = file_fine file a one
says_fine (action.Rename file to) name params rest word are is (n, (a, b, one, two, e)) = (file_fine file a one, word_line to two.0)
says_fine (action.ListFile file) name params rest word are is (n, (a, one, e)) = file_fine file a one
says_fine (action.ListDir user) name params rest word are is (n, may) = may_be_fine user params may
says_fine (action.TrapGo file user modes) name params rest word are is (n, (a, b, texts, one, two, all, e)) = file_fine file a one
says_fine (action.TrapStop file user modes) name params rest word are is (n, (a, b, texts, one, two, all, e)) = file_fine file a one
says_fine (action.TrapCheck file user) name params rest word are is (n, (a, texts, one, may, e)) = file_fine file a one
says_fine (action.NewUser user space time money) name params rest word are is (n, (a, b, c, texts, one, two, three, may, e)) = word_line user one.0
says_fine (action.Budget user kind amount) name params rest word are is says = tt
says_fine (action.Retrieve file) name params rest word are is (n, (a, one, e)) = file_fine file a one
says_fine (action.Load file) name params rest word are is (n, (a, one, e)) = file_fine file a one
says_fine (action.Plan from to) name params rest word are is (n, (a, b, one, two, e)) = (file_fine from a one, file_fine to b two)
says_fine (action.Enter entry) name params rest word are is says = tt
says_fine action.Resume name params rest word are is says = tt
says_fine (action.Assign unit file) name params rest word are is (n, (a, b, one, two, e)) = file_fine file b two
says_fine (action.Release unit) name params rest word are is says = tt
says_fine action.Delete name params rest word are is says = tt
says_fine (action.SetParam letter text) name params rest word are is (n, (texts, letter_is, may, e)) = text_fine text texts (and_parts _ _ (ap are_lines (sym e) ∙ are)).1 may
says_fine (action.Display text) name params rest word are is (n, some, e) = ap is_line e ∙ is
says_fine action.EndJob name params rest word are is says = tt
says_fine (action.Macro called given) name params rest word are is (none, w, name_is, given_is, few) = (ap is_line name_is ∙ word_line name w, ap are_lines given_is ∙ are)

abbrev pub IsFineAsked : Result Action ℕ → Type 0
IsFineAsked (Ok asked) = IsFineAction asked
IsFineAsked (Err index) = Unit {0}

pub action_fine : (name : List ℕ) (params : List (List ℕ)) (rest : List ℕ) → is_word name ≡ true → are_lines params ≡ true → is_line rest ≡ true → IsFineAsked (action_read name params rest)
action_fine name params rest word are is = by (action_read name params rest) (reading-right name params rest word)
  where
    by : (r : Result Action ℕ) → IsRead name params rest r → IsFineAsked r
    by (Ok asked) says = says_fine asked name params rest word are is says
    by (Err index) bad = tt
