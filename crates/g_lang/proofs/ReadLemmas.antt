-- A written line is read as what it says.
-- serves: +read_command, lines_are_read_by_the_grammar, parse_by_steps, CutLemmas, ReadingLemmas, TakeLemmas, VerbLemmas
use Rattle.std.proofs.Common.{IfSome, List, None, Option, Some, [], ap, append-nil, append_assoc, arith, codes, cond, false, is_some, leb-true, length, length-append, map, nat_le, not, option_map, refl, subst, suc, sym, true, zero, ℕ, ◌&&◌, ◌++◌, ◌+◌, ◌==◌, ◌||◌, ◌∙◌, ◌∷◌, ◌≡◌, ◌≤◌}
use Rattle.std.proofs.lemmas.Bool.{and_from, and_parts, and_right, cond-false, cond-true, cond_both, false≢true, lt-leb, not-true, or_parts}
use Rattle.std.proofs.lemmas.List.Elements.{recursion_from_All}
use Rattle.std.specs.List.{AllByRecursion, list_all}
use Rattle.std.specs.Prelude.{if◌then◌else◌}
use Rattle.g_lang.proofs.SpaceLemmas.{EndsWell, StartsWell, at_space, behind-front, digit-name_char, ends-append, front-same, front-spaces, front_of_spaces, label-no_space, letter-name_char, name_char-no_space, no_space, no_space-ends, spaces-add, spaces-two, starts-append, trim-text, trimmed-ends, trimmed-starts, word-front, word-no_space}
use Rattle.g_lang.proofs.ValueLemmas.{are_parts, before-part, behind-part, cond-part, cond-read, not_keyword, parts-joined}
use Rattle.g_lang.specs.Conditions.{IsCond, cond_text}
use Rattle.g_lang.specs.LineReader.{before_comma, behind, behind_comma, behind_word, command_read, cond_read, line_read, option_read, params_read, parts_of, read_trimmed, verb_read}
use Rattle.g_lang.specs.Lines.{AreParts, IsCommandText, IsLine, IsLineText, IsWritten, KeepsCommand, LineSaid, Said, SaidIf, SaidVerb, SaidWhenever, Written, WrittenGoto, WrittenIf, WrittenLine, WrittenVerb, WrittenWhenever, command_text, is_verb, line_text, params_text, said_by, said_in}
use Rattle.g_lang.specs.Texts.{HasCommands, IsVerbText}
use Rattle.g_lang.specs.Words.{before_rest, is_label, is_part, joined, label_in, spaces, trimmed, without_back, without_front, word_of}
use Rattle.g_lang.specs.declared.line.Cond.{Cond}
use Rattle.g_name.specs.Grammar.{is_digit, is_letter, is_name_char, is_word}
use Rattle.g_name.specs.Order.{same_text}

-- a text that begins with a letter
abbrev pub LetterFirst : List ℕ → Type 0
LetterFirst [] = ⊥
LetterFirst (c ∷ cs) = is_letter c ≡ true

pub letter-starts : (t : List ℕ) → LetterFirst t → StartsWell t
letter-starts [] letter = absurd letter
letter-starts (c ∷ cs) letter = name_char-no_space c (letter-name_char c letter)

pub letter_no_digit : (c : ℕ) → is_letter c ≡ true → is_digit c ≡ false
letter_no_digit c is =
    let low : 65 ≤ c = leb-true 65 c (and_parts (nat_le 65 c) (nat_le c 90) is).0 in
    and_right (nat_le 48 c) (nat_le c 57) (lt-leb c 57 (omega arith))

pub word-letter : (name : List ℕ) → is_word name ≡ true → LetterFirst name
word-letter [] is = absurd (false≢true is)
word-letter (c ∷ cs) is = (and_parts (is_letter c) (nat_le (length cs) 11) (and_parts (is_letter c && nat_le (length cs) 11) (list_all is_name_char cs) is).0).0

pub letter-append : (xs ys : List ℕ) → LetterFirst xs → LetterFirst (xs ++ ys)
letter-append [] ys letter = absurd letter
letter-append (x ∷ xs) ys letter = letter

pub verb-word : (name : List ℕ) → is_verb name ≡ true → is_word name ≡ true
verb-word name is = (and_parts (is_word name) (not (same_text name (codes "IF") || same_text name (codes "WHENEVER") || same_text name (codes "GOTO"))) is).0

pub verb-other : (name : List ℕ) → is_verb name ≡ true
    → (same_text name (codes "IF") ≡ false) × (same_text name (codes "WHENEVER") ≡ false) × (same_text name (codes "GOTO") ≡ false)
verb-other name is =
    let none = not-true _ (and_parts (is_word name) (not (same_text name (codes "IF") || same_text name (codes "WHENEVER") || same_text name (codes "GOTO"))) is).1 in
    let two = or_parts (same_text name (codes "IF") || same_text name (codes "WHENEVER")) (same_text name (codes "GOTO")) none in
    let one = or_parts (same_text name (codes "IF")) (same_text name (codes "WHENEVER")) two.0 in
    (one.0, one.1, two.1)

pub params-at : (gap : ℕ) (parts : List (List ℕ)) → AreParts gap parts → at_space (params_text gap parts) ≡ true
params-at gap [] are = refl
params-at zero (part ∷ parts) are = absurd (let h = are.0 in omega (arith, h))
params-at (suc gap) (part ∷ parts) are = refl

pub all-parts : (parts : List (List ℕ)) → AllByRecursion (λ p. is_part 0 p ≡ true) parts → are_parts parts ≡ true
all-parts [] all = refl
all-parts (part ∷ parts) all = and_from _ _ all.0 (all-parts parts all.1)

front-params : (gap : ℕ) (parts : List (List ℕ)) → AreParts gap parts → without_front (params_text gap parts) ≡ joined parts
front-params gap [] are = refl
front-params gap (part ∷ parts) are =
    front-spaces gap (joined (part ∷ parts)) ∙ front-same (joined (part ∷ parts)) (trimmed-starts (joined (part ∷ parts)) are.2)

some-params : (t : List ℕ) → StartsWell t → params_read t ≡ map trimmed (parts_of 0 t)
some-params [] starts = absurd starts
some-params (c ∷ cs) starts = refl

params-read : (gap : ℕ) (parts : List (List ℕ)) → AreParts gap parts → params_read (joined parts) ≡ map trimmed parts
params-read gap [] are = refl
params-read gap (part ∷ parts) are =
    some-params (joined (part ∷ parts)) (trimmed-starts (joined (part ∷ parts)) are.2)
    ∙ ap (λ (ps : List (List ℕ)). map trimmed ps) (parts-joined part parts (all-parts (part ∷ parts) (recursion_from_All _ (part ∷ parts) are.1)))

verb-read : (name : List ℕ) (gap : ℕ) (parts : List (List ℕ)) → IsWritten (WrittenVerb name gap parts)
    → verb_read (name ++ params_text gap parts) ≡ SaidVerb name (map trimmed parts) (joined parts)
verb-read name gap parts is =
    let none = word-no_space name (verb-word name is.0) in
    let at = params-at gap parts is.1 in
    let rest : behind_word (name ++ params_text gap parts) ≡ joined parts =
    behind-front name (params_text gap parts) none at ∙ front-params gap parts is.1 in
    rw (word-front name (params_text gap parts) none at, rest, params-read gap parts is.1) refl

-- the number of conditions and labels at the front
abbrev pub need : Written → ℕ
need (WrittenGoto label) = 1
need (WrittenIf cond inner) = suc (need inner)
need (WrittenWhenever cond inner) = 1
need (WrittenVerb name gap parts) = 0

command-verb : (n : ℕ) (name : List ℕ) (gap : ℕ) (parts : List (List ℕ)) → IsWritten (WrittenVerb name gap parts)
    → command_read n (name ++ params_text gap parts) ≡ SaidVerb name (map trimmed parts) (joined parts)
command-verb zero name gap parts is = verb-read name gap parts is
command-verb (suc n) name gap parts is =
    let none = word-no_space name (verb-word name is.0) in
    let at = params-at gap parts is.1 in
    let other = verb-other name is.0 in
    let no_if : behind (codes "IF ") (name ++ params_text gap parts) ≡ None = not_keyword (codes "IF") name (params_text gap parts) refl none at other.0 in
    let no_whenever : behind (codes "WHENEVER ") (name ++ params_text gap parts) ≡ None = not_keyword (codes "WHENEVER") name (params_text gap parts) refl none at other.1 in
    let no_goto : behind (codes "GOTO ") (name ++ params_text gap parts) ≡ None = not_keyword (codes "GOTO") name (params_text gap parts) refl none at other.2 in
    rw (no_if, no_whenever, no_goto, command_read) (verb-read name gap parts is)

pub cond-read-of : (cond : Cond) (t : List ℕ) → IsCond cond → cond_read (before_comma 0 (cond_text cond ++ 44 ∷ t)) ≡ cond
cond-read-of cond t is = ap cond_read (before-part 0 (cond_text cond) t (cond-part cond.negated cond.test is)) ∙ cond-read cond.negated cond.test

pub command-read : (n : ℕ) (w : Written) → IsWritten w → need w ≤ n → command_read n (command_text w) ≡ said_by w
command-read zero (WrittenGoto label) is enough = absurd (omega (arith, enough))
command-read (suc n) (WrittenGoto label) is enough = refl
command-read zero (WrittenIf cond inner) is enough = absurd (omega (arith, enough))
command-read (suc n) (WrittenIf cond inner) is enough =
    let less : need inner ≤ n = omega (arith, enough) in
    ap (λ (c : Cond). SaidIf c (command_read n (behind_comma 0 (cond_text cond ++ 44 ∷ command_text inner)))) (cond-read-of cond (command_text inner) is.0)
    ∙ ap (λ (t : List ℕ). SaidIf cond (command_read n t)) (behind-part 0 (cond_text cond) (command_text inner) (cond-part cond.negated cond.test is.0))
    ∙ ap (λ (s : Said). SaidIf cond s) (command-read n inner is.1 less)
command-read zero (WrittenWhenever cond inner) is enough = absurd (omega (arith, enough))
command-read (suc n) (WrittenWhenever cond inner) is enough =
    ap (λ (c : Cond). SaidWhenever c (behind_comma 0 (cond_text cond ++ 44 ∷ command_text inner))) (cond-read-of cond (command_text inner) is.0)
    ∙ ap (λ (t : List ℕ). SaidWhenever cond t) (behind-part 0 (cond_text cond) (command_text inner) (cond-part cond.negated cond.test is.0))
command-read n (WrittenVerb name gap parts) is enough = command-verb n name gap parts is

-- the text of a command begins with a letter and ends with no space
pub command-letter : (w : Written) → IsWritten w → LetterFirst (command_text w)
command-letter (WrittenGoto label) is = refl
command-letter (WrittenIf cond inner) is = refl
command-letter (WrittenWhenever cond inner) is = refl
command-letter (WrittenVerb name gap parts) is = letter-append name (params_text gap parts) (word-letter name (verb-word name is.0))

word-ends : (name : List ℕ) → LetterFirst name → no_space name ≡ true → EndsWell name
word-ends [] letter none = absurd letter
word-ends (c ∷ cs) letter none = no_space-ends c cs none

label-ends : (label : List ℕ) → is_label label ≡ true → EndsWell label
label-ends [] is = absurd (false≢true is)
label-ends (c ∷ cs) is = no_space-ends c cs (label-no_space (c ∷ cs) is)

verb-ends : (name : List ℕ) (gap : ℕ) (parts : List (List ℕ)) → is_word name ≡ true → AreParts gap parts → EndsWell (name ++ params_text gap parts)
verb-ends name gap [] is are = subst EndsWell (sym (append-nil name)) (word-ends name (word-letter name is) (word-no_space name is))
verb-ends name gap (part ∷ parts) is are =
    ends-append name (spaces gap ++ joined (part ∷ parts)) (ends-append (spaces gap) (joined (part ∷ parts)) (trimmed-ends (joined (part ∷ parts)) are.2))

pub command-ends : (w : Written) → IsWritten w → EndsWell (command_text w)
command-ends (WrittenGoto label) is = ends-append (codes "GOTO ") label (label-ends label is)
command-ends (WrittenIf cond inner) is =
    ends-append (codes "IF ") (cond_text cond ++ 44 ∷ command_text inner)
    (ends-append (cond_text cond) (44 ∷ command_text inner) (ends-append (44 ∷ []) (command_text inner) (command-ends inner is.1)))
command-ends (WrittenWhenever cond inner) is =
    ends-append (codes "WHENEVER ") (cond_text cond ++ 44 ∷ command_text inner)
    (ends-append (cond_text cond) (44 ∷ command_text inner) (ends-append (44 ∷ []) (command_text inner) (command-ends inner is.1)))
command-ends (WrittenVerb name gap parts) is = verb-ends name gap parts (verb-word name is.0) is.1

-- a command has fewer conditions than bytes
need-length : (w : Written) → need w ≤ length (command_text w)
need-length (WrittenGoto label) = omega arith
need-length (WrittenIf cond inner) = omega (arith, need-length inner, length-append (cond_text cond) (44 ∷ command_text inner))
need-length (WrittenWhenever cond inner) = omega arith
need-length (WrittenVerb name gap parts) = omega arith

some-read : (t : List ℕ) → LetterFirst t → option_read t ≡ Some (command_read (length t) t)
some-read [] letter = absurd letter
some-read (c ∷ cs) letter = refl

pub option-read : (w : Written) → IsWritten w → option_read (command_text w) ≡ Some (said_by w)
option-read w is =
    some-read (command_text w) (command-letter w is)
    ∙ ap (λ (s : Said). Some s) (command-read (length (command_text w)) w is (need-length w))

no_label : (t : List ℕ) → LetterFirst t → is_label (word_of t) ≡ false
no_label [] letter = absurd letter
no_label (c ∷ cs) letter = rw (name_char-no_space c (letter-name_char c letter), letter_no_digit c letter) refl

label-starts : (label : List ℕ) → is_label label ≡ true → StartsWell label
label-starts [] is = absurd (false≢true is)
label-starts (c ∷ cs) is =
    let first = (and_parts (is_digit c) (nat_le (length cs) 11) (and_parts (is_digit c && nat_le (length cs) 11) (list_all is_name_char cs) is).0).0 in
    name_char-no_space c (digit-name_char c first)

-- what is read once the spaces at the ends are removed
abbrev labelled : List ℕ → LineSaid
labelled t = record { label = Some (word_of t); command = option_read (behind_word t) }

abbrev bare : List ℕ → LineSaid
bare t = record { label = None; command = option_read t }

pub by_label : (t label : List ℕ) (o : Option Said) → is_label label ≡ true → word_of t ≡ label → option_read (behind_word t) ≡ o
    → read_trimmed t ≡ record { label = Some label; command = o }
by_label t label o is word more =
    let holds : is_label (word_of t) ≡ true = ap is_label word ∙ is in
    cond-true (is_label (word_of t)) (labelled t) (bare t) holds ∙ rw (word, more) refl

pub by_command : (t : List ℕ) (o : Option Said) → is_label (word_of t) ≡ false → option_read t ≡ o → read_trimmed t ≡ record { label = None; command = o }
by_command t o none more = cond-false (is_label (word_of t)) (labelled t) (bare t) none ∙ rw more refl

abbrev the_line : ℕ → Option (List ℕ) → ℕ → Option Written → ℕ → WrittenLine
the_line front label gap command back = record { front = front; label = label; gap = gap; command = command; back = back }

-- what a line is split into
abbrev CutAs : Option (List ℕ) → Option Written → List ℕ → Type 0
CutAs None None t = t ≡ []
CutAs None (Some w) t = t ≡ command_text w
CutAs (Some label) None t = (word_of t ≡ label) × (behind_word t ≡ [])
CutAs (Some label) (Some w) t = (word_of t ≡ label) × (behind_word t ≡ command_text w)

cut_as : (front : ℕ) (label : Option (List ℕ)) (gap : ℕ) (command : Option Written) (back : ℕ) → IfSome label (λ label. is_label label ≡ true) → IfSome command IsWritten
    → ((is_some label && is_some command) ≡ true → 1 ≤ gap) → CutAs label command (trimmed (line_text (the_line front label gap command back)))
cut_as front None gap None back label_is command_is apart =
    ap without_back (front-spaces front (spaces gap ++ spaces back) ∙ front-spaces gap (spaces back) ∙ front_of_spaces back)
cut_as front None gap (Some w) back label_is command_is apart =
    ap trimmed (spaces-add front gap (command_text w ++ spaces back))
    ∙ trim-text (front + gap) back (command_text w) (letter-starts (command_text w) (command-letter w command_is)) (command-ends w command_is)
cut_as front (Some label) gap None back label_is command_is apart =
    let none = label-no_space label label_is in
    let t : trimmed (line_text (the_line front (Some label) gap None back)) ≡ label =
    ap (λ (ts : List ℕ). trimmed (spaces front ++ (label ++ ts))) (spaces-two gap back)
    ∙ trim-text front (gap + back) label (label-starts label label_is) (label-ends label label_is) in
    let word : word_of label ≡ label = sym (ap word_of (append-nil label)) ∙ word-front label [] none refl in
    let rest : behind_word label ≡ [] = sym (ap behind_word (append-nil label)) ∙ behind-front label [] none refl in
    (ap word_of t ∙ word, ap behind_word t ∙ rest)
cut_as front (Some label) zero (Some w) back label_is command_is apart = absurd (let h = apart refl in omega (arith, h))
cut_as front (Some label) (suc gap) (Some w) back label_is command_is apart =
    let none = label-no_space label label_is in
    let whole = label ++ (spaces (suc gap) ++ command_text w) in
    let grouped : label ++ (spaces (suc gap) ++ (command_text w ++ spaces back)) ≡ whole ++ spaces back =
    ap (λ (ts : List ℕ). label ++ ts) (sym (append_assoc (spaces (suc gap)) (command_text w) (spaces back)))
    ∙ sym (append_assoc label (spaces (suc gap) ++ command_text w) (spaces back)) in
    let ends : EndsWell whole =
    ends-append label (spaces (suc gap) ++ command_text w) (ends-append (spaces (suc gap)) (command_text w) (command-ends w command_is)) in
    let t : trimmed (line_text (the_line front (Some label) (suc gap) (Some w) back)) ≡ whole =
    ap (λ (ts : List ℕ). trimmed (spaces front ++ ts)) grouped
    ∙ trim-text front back whole (starts-append label (spaces (suc gap) ++ command_text w) (label-starts label label_is)) ends in
    let rest : behind_word whole ≡ command_text w =
    behind-front label (spaces (suc gap) ++ command_text w) none refl ∙ front-spaces (suc gap) (command_text w)
    ∙ front-same (command_text w) (letter-starts (command_text w) (command-letter w command_is)) in
    (ap word_of t ∙ word-front label (spaces (suc gap) ++ command_text w) none refl, ap behind_word t ∙ rest)

read_cut : (label : Option (List ℕ)) (command : Option Written) (t : List ℕ) → IfSome label (λ label. is_label label ≡ true) → IfSome command IsWritten
    → CutAs label command t → read_trimmed t ≡ record { label = label; command = option_map said_by command }
read_cut None None t label_is command_is cut = ap read_trimmed cut
read_cut None (Some w) t label_is command_is cut =
    ap read_trimmed cut ∙ by_command (command_text w) (Some (said_by w)) (no_label (command_text w) (command-letter w command_is)) (option-read w command_is)
read_cut (Some label) None t label_is command_is cut = by_label t label None label_is cut.0 (ap option_read cut.1)
read_cut (Some label) (Some w) t label_is command_is cut = by_label t label (Some (said_by w)) label_is cut.0 (ap option_read cut.1 ∙ option-read w command_is)

-- A WRITTEN LINE is read as what it says
pub line-read : (l : WrittenLine) → IsLine l → line_read (line_text l) ≡ said_in l
line-read l is =
    read_cut l.label l.command (trimmed (line_text l)) is.label is.command (cut_as l.front l.label l.gap l.command l.back is.label is.command is.apart)

commands_cut : (label : Option (List ℕ)) (command : Option Written) (t : List ℕ) → IfSome label (λ label. is_label label ≡ true) → IfSome command IsWritten
    → CutAs label command t → HasCommands t
commands_cut None None t label_is command_is cut =
    (λ is some. absurd (some (ap behind_word cut)), λ isnt some. absurd (some cut))
commands_cut None (Some w) t label_is command_is cut = (
  λ is some. absurd (false≢true (sym (ap (λ (ts : List ℕ). is_label (word_of ts)) cut ∙ no_label (command_text w) (command-letter w command_is)) ∙ is)),
  λ isnt some. (w, command_is, cut),
)
commands_cut (Some label) None t label_is command_is cut =
    (λ is some. absurd (some cut.1), λ isnt some. absurd (false≢true (sym isnt ∙ ap is_label cut.0 ∙ label_is)))
commands_cut (Some label) (Some w) t label_is command_is cut =
    (λ is some. (w, command_is, cut.1), λ isnt some. absurd (false≢true (sym isnt ∙ ap is_label cut.0 ∙ label_is)))

-- the rest of a line that isn't a label is a command
pub line-commands : (text : List ℕ) → IsLineText text → HasCommands (trimmed text)
line-commands text line =
    let l = line.0 in
    let is = line.1 in
    subst (λ (t : List ℕ). HasCommands (trimmed t)) (sym line.2)
    (commands_cut l.label l.command (trimmed (line_text l)) is.label is.command (cut_as l.front l.label l.gap l.command l.back is.label is.command is.apart))

-- which command a text is
pub if-inside : (t rest : List ℕ) → IsCommandText t → behind (codes "IF ") t ≡ Some rest → IsCommandText (behind_comma 0 rest)
if-inside t rest command front = inside command.0 command.1 (ap (behind (codes "IF ")) (sym command.2) ∙ front)
  where
    inside : (w : Written) → IsWritten w → behind (codes "IF ") (command_text w) ≡ Some rest → IsCommandText (behind_comma 0 rest)
    inside (WrittenGoto label) is front = absurd cc
    inside (WrittenIf cond w) is front =
        let same : cond_text cond ++ (44 ∷ command_text w) ≡ rest = cc in
        (w, is.1, ap (behind_comma 0) (sym same) ∙ behind-part 0 (cond_text cond) (command_text w) (cond-part cond.negated cond.test is.0))
    inside (WrittenWhenever cond w) is front = absurd cc
    inside (WrittenVerb name gap parts) is front =
        let none = not_keyword (codes "IF") name (params_text gap parts) refl (word-no_space name (verb-word name is.0)) (params-at gap parts is.1) (verb-other name is.0).0 in
        let gone = sym none ∙ front in
        absurd cc

pub goto-label : (t label : List ℕ) → IsCommandText t → behind (codes "GOTO ") t ≡ Some label → is_label label ≡ true
goto-label t label command front = inside command.0 command.1 (ap (behind (codes "GOTO ")) (sym command.2) ∙ front)
  where
    inside : (w : Written) → IsWritten w → behind (codes "GOTO ") (command_text w) ≡ Some label → is_label label ≡ true
    inside (WrittenGoto other) is front = let same : other ≡ label = cc in ap is_label (sym same) ∙ is
    inside (WrittenIf cond w) is front = absurd cc
    inside (WrittenWhenever cond w) is front = absurd cc
    inside (WrittenVerb name gap parts) is front =
        let none = not_keyword (codes "GOTO") name (params_text gap parts) refl (word-no_space name (verb-word name is.0)) (params-at gap parts is.1) (verb-other name is.0).2 in
        let gone = sym none ∙ front in
        absurd cc

pub verb-text : (t : List ℕ) → IsCommandText t → behind (codes "IF ") t ≡ None → behind (codes "WHENEVER ") t ≡ None → behind (codes "GOTO ") t ≡ None → IsVerbText t
verb-text t command no_if no_whenever no_goto =
    subst IsVerbText (sym command.2)
    (inside command.0 command.1 (ap (behind (codes "IF ")) (sym command.2) ∙ no_if) (ap (behind (codes "WHENEVER ")) (sym command.2) ∙ no_whenever)
    (ap (behind (codes "GOTO ")) (sym command.2) ∙ no_goto))
  where
    inside : (w : Written) → IsWritten w → behind (codes "IF ") (command_text w) ≡ None → behind (codes "WHENEVER ") (command_text w) ≡ None
        → behind (codes "GOTO ") (command_text w) ≡ None → IsVerbText (command_text w)
    inside (WrittenGoto label) is a b c = absurd cc
    inside (WrittenIf cond w) is a b c = absurd cc
    inside (WrittenWhenever cond w) is a b c = absurd cc
    inside (WrittenVerb name gap parts) is a b c =
        ap is_word (word-front name (params_text gap parts) (word-no_space name (verb-word name is.0)) (params-at gap parts is.1)) ∙ verb-word name is.0

-- the first word is that of the text without its trailing spaces
word_before : (c : ℕ) (cs w : List ℕ) → word_of w ≡ word_of cs → word_of (before_rest c w) ≡ word_of (c ∷ cs)
word_before c cs [] same =
    cond_both (c == 32) [] (c ∷ []) (λ (t : List ℕ). word_of t ≡ word_of (c ∷ cs)) (λ space. rw space refl)
    (λ other. rw other (ap (λ (t : List ℕ). c ∷ t) same))
word_before c cs (d ∷ ds) same = ap (λ (ts : List ℕ). if c == 32 then [] else c ∷ ts) same

pub word_back : (t : List ℕ) → word_of (without_back t) ≡ word_of t
word_back [] = refl
word_back (c ∷ cs) = word_before c cs (without_back cs) (word_back cs)

abbrev label_by : List ℕ → Option (List ℕ)
label_by word = if is_label word then Some word else None

read_label : (t : List ℕ) → (read_trimmed t).label ≡ label_by (word_of t)
read_label t =
    cond_both (is_label (word_of t)) (labelled t) (bare t) (λ (s : LineSaid). s.label ≡ label_by (word_of t)) (λ is. rw is refl) (λ isnt. rw isnt refl)

-- THE LABEL of a line is its first word
pub label-line : (l : WrittenLine) → IsLine l → label_in (line_text l) ≡ l.label
label-line l is =
    ap label_by (sym (word_back (without_front (line_text l)))) ∙ sym (read_label (trimmed (line_text l)))
    ∙ ap (λ (s : LineSaid). s.label) (line-read l is)

-- a stored command is the text of a command
pub keeps-said : (w : Written) → IsWritten w → KeepsCommand (said_by w)
keeps-said (WrittenGoto label) is = tt
keeps-said (WrittenIf cond w) is = keeps-said w is.1
keeps-said (WrittenWhenever cond w) is = (w, is.1, refl)
keeps-said (WrittenVerb name gap parts) is = tt
