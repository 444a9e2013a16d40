-- Lines split after their label, and parsed directly if their command is a verb or a GOTO.
-- serves: parse, parse_command
use Rattle.std.proofs.Common.{Err, IfOk, IfSome, List, None, Ok, Option, Result, Some, [], ap, append-nil, arith, codes, is_ok, length, refl, subst, suc, sym, true, zero, ℕ, ⊎_elim, ◌-◌, ◌==◌, ◌∙◌, ◌∷◌, ◌≡◌, ◌≢◌, ◌≤◌}
use Rattle.std.proofs.lemmas.Bool.{cases_Bool, cond_both, false≢true}
use Rattle.std.specs.Prelude.{if◌then◌else◌}
use Rattle.g_lang.proofs.ParseLemmas.{bad-grammar, read-grammar, verb_reads}
use Rattle.g_lang.proofs.ReadLemmas.{by_command, by_label, command-ends, option-read, verb-other, verb-word, word_back}
use Rattle.g_lang.proofs.ReadingLemmas.{keeps-reading, none_wrong, reading_is}
use Rattle.g_lang.proofs.RestLemmas.{only-lines}
use Rattle.g_lang.proofs.SpaceLemmas.{back-same, word-no_space}
use Rattle.g_lang.proofs.ValueLemmas.{behind-is, not_keyword, same_text-eq}
use Rattle.g_lang.proofs.VerbLemmas.{behind_short, goto_line, labelled_goto, labelled_verb, params_short, verb_line, word_cut}
use Rattle.g_lang.specs.LineReader.{Front, Params, behind, behind_word, line_read, option_read, params_read, read_trimmed, reading, verb_read, wrong_from}
use Rattle.g_lang.specs.Lines.{IsCommandText, IsLineText, KeepsCommand, LineSaid, Reading, Said, SaidGoto, SaidVerb, Written, WrittenGoto, command_text, is_verb}
use Rattle.g_lang.specs.Meaning.{IsReadAs, Reads, command_said, line_said}
use Rattle.g_lang.specs.Texts.{HasCommands, IsCut, ReadsParams}
use Rattle.g_lang.specs.Words.{before_rest, is_label, is_that_label, trimmed, without_back, without_front, word_of}
use Rattle.g_lang.specs.declared.fault.LangFault.{LangFault}
use Rattle.g_lang.specs.declared.fault.LangFault.TheVariants.{BadLine, NoMemory}
use Rattle.g_lang.specs.declared.line.Line.{Line}
use Rattle.g_name.specs.Order.{same_text}

-- the spaces at both ends can be removed in either order
front_step : (c : ℕ) (cs w : List ℕ) → w ≡ without_back cs → without_front w ≡ without_back (without_front cs)
    → without_front (before_rest c w) ≡ without_back (without_front (c ∷ cs))
front_step c cs [] is again =
    cond_both (c == 32) [] (c ∷ []) (λ (t : List ℕ). without_front t ≡ without_back (without_front (c ∷ cs)))
    (λ space. rw space again)
    (λ other. let bare : before_rest c [] ≡ c ∷ [] = rw other refl in rw other (sym bare ∙ ap (before_rest c) is))
front_step c cs (d ∷ ds) is again =
    cond_both (c == 32) zero zero (λ _. without_front (c ∷ d ∷ ds) ≡ without_back (without_front (c ∷ cs)))
    (λ space. rw space again)
    (λ other. rw other (ap (before_rest c) is))

front_back : (t : List ℕ) → without_front (without_back t) ≡ without_back (without_front t)
front_back [] = refl
front_back (c ∷ cs) = front_step c cs (without_back cs) refl (front_back cs)

-- the rest after the first word of a text without its trailing spaces
behind_step : (c : ℕ) (cs w : List ℕ) → w ≡ without_back cs → behind_word w ≡ without_back (behind_word cs)
    → behind_word (before_rest c w) ≡ without_back (behind_word (c ∷ cs))
behind_step c cs [] is again =
    cond_both (c == 32) [] (c ∷ []) (λ (t : List ℕ). behind_word t ≡ without_back (behind_word (c ∷ cs)))
    (λ space. rw space (ap without_front is ∙ front_back cs))
    (λ other. rw other again)
behind_step c cs (d ∷ ds) is again =
    cond_both (c == 32) zero zero (λ _. behind_word (c ∷ d ∷ ds) ≡ without_back (behind_word (c ∷ cs)))
    (λ space. rw space (ap without_front is ∙ front_back cs))
    (λ other. rw other again)

behind_back : (t : List ℕ) → behind_word (without_back t) ≡ without_back (behind_word t)
behind_back [] = refl
behind_back (c ∷ cs) = behind_step c cs (without_back cs) refl (behind_back cs)

-- what a split line says
abbrev said_of : Option (List ℕ) → Option Said → LineSaid
said_of label command = record { label = label; command = command }

pub cut_read : (text : List ℕ) (label : Option (List ℕ)) (command : List ℕ) → IsCut (without_front text) label command
    → line_read text ≡ said_of label (option_read (without_back command))
cut_read text None command cut =
    by_command (trimmed text) (option_read (without_back command)) (ap is_label (word_back (without_front text)) ∙ cut.0)
    (ap (λ (t : List ℕ). option_read (without_back t)) (sym cut.1))
cut_read text (Some label) command cut =
    by_label (trimmed text) label (option_read (without_back command)) (ap is_label cut.1 ∙ cut.0) (word_back (without_front text) ∙ sym cut.1)
    (ap option_read (behind_back (without_front text) ∙ ap without_back (sym cut.2)))

-- a line without spaces at its ends
pub cut_trimmed : (text : List ℕ) (label : Option (List ℕ)) (command : List ℕ) (said : Option Said) → IsCut text label command → said ≡ option_read command
    → said_of label said ≡ read_trimmed text
cut_trimmed text None command said cut same = sym (by_command text said cut.0 (ap option_read (sym cut.1) ∙ sym same))
cut_trimmed text (Some label) command said cut same =
    sym (by_label text label said (ap is_label cut.1 ∙ cut.0) (sym cut.1) (ap option_read (sym cut.2) ∙ sym same))

pub cut_commands : (text : List ℕ) (label : Option (List ℕ)) (command : List ℕ) → IsCut text label command → HasCommands text → command ≢ [] → IsCommandText command
cut_commands text None command cut has some = subst IsCommandText (sym cut.1) (has.1 cut.0 (λ none. some (cut.1 ∙ none)))
cut_commands text (Some label) command cut has some = subst IsCommandText (sym cut.2) (has.0 cut.0 (λ none. some (cut.2 ∙ none)))

pub cut_label : (line : List ℕ) (label : Option (List ℕ)) (command : List ℕ) → IsCut line label command → label ≡ (if is_label (word_of line) then Some (word_of line) else None)
cut_label line None command cut = rw cut.0 refl
cut_label line (Some label) command cut = rw cut.0 (ap (λ (t : List ℕ). let o : Option (List ℕ) = Some t in o) cut.1)

-- the first word is a label, or it isn't this one
pub has_word : (word label : List ℕ) → is_label label ≡ true → same_text word label ≡ is_that_label label (if is_label word then Some word else None)
has_word word label is =
    cond_both (is_label word) (Some word) None (λ (o : Option (List ℕ)). same_text word label ≡ is_that_label label o) (λ holds. refl)
    (λ fails. ⊎_elim (λ same. absurd (false≢true (sym fails ∙ ap is_label (same_text-eq word label same) ∙ is))) (λ other. other) (cases_Bool (same_text word label)))

-- a line with a verb goes wrong where its parameters do
verb_wrong : (text : List ℕ) (label : Option (List ℕ)) (command : List ℕ) → IsCut (without_front text) label command → is_verb (word_of command) ≡ true
    → wrong_from Front 0 text ≡ wrong_from (Params 0) (length text - length (behind_word command)) (behind_word command)
verb_wrong text None command cut verb =
    verb_line text (ap (λ (t : List ℕ). is_verb (word_of t)) (sym cut.1) ∙ verb)
    ∙ ap (λ (t : List ℕ). wrong_from (Params 0) (length text - length (behind_word t)) (behind_word t)) (sym cut.1)
verb_wrong text (Some label) command cut verb =
    labelled_verb text cut.0 (ap (λ (t : List ℕ). is_verb (word_of t)) (sym cut.2) ∙ verb)
    ∙ ap (λ (t : List ℕ). wrong_from (Params 0) (length text - length (behind_word t)) (behind_word t)) (sym cut.2)

goto_wrong : (text : List ℕ) (label : Option (List ℕ)) (command to : List ℕ) → IsCut (without_front text) label command → behind (codes "GOTO ") command ≡ Some to
    → is_label to ≡ true → wrong_from Front 0 text ≡ None
goto_wrong text None command to cut goes is = goto_line text to (ap (behind (codes "GOTO ")) (sym cut.1) ∙ goes) is
goto_wrong text (Some label) command to cut goes is = labelled_goto text to cut.0 (ap (behind (codes "GOTO ")) (sym cut.2) ∙ goes) is

pub cut_short : (text : List ℕ) (label : Option (List ℕ)) (command : List ℕ) → IsCut (without_front text) label command → length (behind_word command) ≤ length text
cut_short text None command cut =
    let same = ap (λ (t : List ℕ). length (behind_word t)) cut.1 in
    omega (arith, same, behind_short text)
cut_short text (Some label) command cut =
    let same = ap (λ (t : List ℕ). length (behind_word t)) cut.2 in
    omega (arith, same, params_short text)

-- a verb
verb_option : (t : List ℕ) → is_verb (word_of t) ≡ true → option_read t ≡ Some (verb_read t)
verb_option [] verb = absurd (false≢true verb)
verb_option (c ∷ cs) verb =
    let t = c ∷ cs in
    let cut = word_cut t in
    let none = word-no_space (word_of t) (verb-word (word_of t) verb) in
    let other = verb-other (word_of t) verb in
    let no_if : behind (codes "IF ") t ≡ None = ap (behind (codes "IF ")) cut.whole ∙ not_keyword (codes "IF") (word_of t) cut.rest refl none cut.space other.0 in
    let no_whenever : behind (codes "WHENEVER ") t ≡ None =
    ap (behind (codes "WHENEVER ")) cut.whole ∙ not_keyword (codes "WHENEVER") (word_of t) cut.rest refl none cut.space other.1 in
    let no_goto : behind (codes "GOTO ") t ≡ None = ap (behind (codes "GOTO ")) cut.whole ∙ not_keyword (codes "GOTO") (word_of t) cut.rest refl none cut.space other.2 in
    ap (λ (s : Said). Some s) (verb_reads t (suc (length cs)) no_if no_whenever no_goto)

abbrev verb_with : List ℕ → List ℕ → Option Said
verb_with name rest = Some (SaidVerb name (params_read rest) rest)

verb_back : (command : List ℕ) → is_verb (word_of command) ≡ true
    → option_read (without_back command) ≡ verb_with (word_of command) (without_back (behind_word command))
verb_back command verb =
    verb_option (without_back command) (ap is_verb (word_back command) ∙ verb)
    ∙ ap (λ (name : List ℕ). verb_with name (behind_word (without_back command))) (word_back command)
    ∙ ap (verb_with (word_of command)) (behind_back command)

pub verb_cut : (text : List ℕ) (label : Option (List ℕ)) (command name params rest : List ℕ) (from : ℕ) → IsCut (without_front text) label command
    → (is_verb (word_of command) ≡ true) → name ≡ word_of command → params ≡ behind_word command → from ≡ length text - length params
    → ReadsParams from params (Ok rest) → reading text ≡ Ok (said_of label (verb_with name rest))
verb_cut text label command name params rest from cut verb named behind_it at read =
    let place : wrong_from (Params 0) (length text - length (behind_word command)) (behind_word command) ≡ None =
    ap (λ (t : List ℕ). wrong_from (Params 0) (length text - length t) t) (sym behind_it) ∙ ap (λ (n : ℕ). wrong_from (Params 0) n params) (sym at) ∙ read.0 in
    let said : option_read (without_back command) ≡ verb_with name rest =
    verb_back command verb ∙ ap (λ (n : List ℕ). verb_with n (without_back (behind_word command))) (sym named)
    ∙ ap (verb_with name) (ap without_back (sym behind_it) ∙ sym read.1) in
    reading_is text None (verb_wrong text label command cut verb ∙ place)
    ∙ ap (λ (s : LineSaid). let r : Reading = Ok s in r) (cut_read text label command cut ∙ ap (said_of label) said)

pub verb_fault : (text : List ℕ) (label : Option (List ℕ)) (command params : List ℕ) (from : ℕ) (fault : LangFault) → IsCut (without_front text) label command
    → (is_verb (word_of command) ≡ true) → params ≡ behind_word command → from ≡ length text - length params
    → ReadsParams from params (Err fault) → IsReadAs (reading text) (Err fault)
verb_fault text label command params from fault cut verb behind_it at read =
    by_fault fault (verb_wrong text label command cut verb
    ∙ ap (λ (t : List ℕ). wrong_from (Params 0) (length text - length t) t) (sym behind_it) ∙ ap (λ (n : ℕ). wrong_from (Params 0) n params) (sym at)) read
  where
    by_fault : (f : LangFault) → wrong_from Front 0 text ≡ wrong_from (Params 0) from params → ReadsParams from params (Err f) → IsReadAs (reading text) (Err f)
    by_fault (BadLine place) same is = reading_is text (Some place) (same ∙ is)
    by_fault NoMemory same is = ap (λ (r : Reading). is_ok r) (reading_is text None (same ∙ is))

-- a GOTO
pub goto_cut : (text : List ℕ) (label : Option (List ℕ)) (command to : List ℕ) → IsCut (without_front text) label command → behind (codes "GOTO ") command ≡ Some to
    → is_label to ≡ true → reading text ≡ Ok (said_of label (Some (SaidGoto to)))
goto_cut text label command to cut goes is =
    let w : Written = WrittenGoto to in
    let back : without_back (command_text w) ≡ command_text w = ap without_back (sym (append-nil (command_text w))) ∙ back-same (command_text w) 0 (command-ends w is) in
    let said : option_read (without_back command) ≡ Some (SaidGoto to) =
    ap (λ (t : List ℕ). option_read (without_back t)) (behind-is (codes "GOTO ") command to goes) ∙ ap option_read back ∙ option-read w is in
    reading_is text None (goto_wrong text label command to cut goes is)
    ∙ ap (λ (s : LineSaid). let r : Reading = Ok s in r) (cut_read text label command cut ∙ ap (said_of label) said)

-- WHAT IS READ is what the grammar says
line_ok : (text : List ℕ) (o : Option ℕ) → wrong_from Front 0 text ≡ o → is_ok (reading text) ≡ true → IsLineText text
line_ok text None is ok = only-lines text (none_wrong Front 0 text is)
line_ok text (Some place) is ok = absurd (false≢true (sym (ap (λ (r : Reading). is_ok r) (reading_is text (Some place) is)) ∙ ok))

pub reads_grammar : (text : List ℕ) (r : Result Line LangFault) → IsReadAs (reading text) r → Reads text r
reads_grammar text (Ok line) is = read-grammar text (line_said line) is
reads_grammar text (Err (BadLine place)) is = bad-grammar text place is
reads_grammar text (Err NoMemory) is = line_ok text (wrong_from Front 0 text) refl is

pub reads_waiting : (text : List ℕ) (r : Result Line LangFault) → IsReadAs (reading text) r → IfOk r (λ line. IfSome (command_said line.command) KeepsCommand)
reads_waiting text (Ok line) is = keeps-reading text (line_said line) (read-grammar text (line_said line) is)
reads_waiting text (Err fault) is = tt
