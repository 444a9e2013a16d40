-- What the code reads from a text of the grammar.
-- serves: +read_command, is_input_line, only_param, parse_by_steps, read_option, two_params, CutLemmas, ParamLemmas, crates above
use Rattle.std.proofs.Common.{Bor, Err, IfOk, List, MatchOption, None, Ok, Option, Result, Some, [], ap, arith, codes, cond, false, is_some, le_refl, length, length-append, map, refl, subst, suc, sym, true, zero, ℕ, ◌+◌, ◌<◌, ◌∙◌, ◌∷◌, ◌≡◌, ◌≤◌}
use Rattle.std.proofs.lemmas.Bool.{cond_both, false≢true}
use Rattle.std.proofs.lemmas.List.{length-map}
use Rattle.g_lang.proofs.PartLemmas.{some-parts}
use Rattle.g_lang.proofs.ReadingLemmas.{none_wrong, reading-grammar, reading_is}
use Rattle.g_lang.proofs.RestLemmas.{only-lines}
use Rattle.g_lang.proofs.ValueLemmas.{behind-is}
use Rattle.g_lang.specs.LineReader.{Front, before_comma, behind, behind_comma, behind_word, command_read, cond_read, line_read, option_read, params_read, parts_of, reading, verb_read, wrong_from}
use Rattle.g_lang.specs.Lines.{IsLineText, IsReading, LineSaid, Said, SaidGoto, SaidIf, SaidWhenever}
use Rattle.g_lang.specs.Meaning.{command_said, is_input_of, is_input_said, said_inside}
use Rattle.g_lang.specs.Texts.{bytes_left, params_left}
use Rattle.g_lang.specs.Words.{is_label, trimmed, word_of}
use Rattle.g_lang.specs.declared.line.Command.{Command}
use Rattle.g_lang.specs.declared.line.Command.TheVariants.{Blank, Goto, If', Verb, Whenever}
use Rattle.g_lang.specs.declared.line.Cond.{Cond}
use Rattle.g_name.specs.Order.{same_text}

pub params-first : (text : Bor (List ℕ)) → (text.now ≡ [] → ⊥) → params_left (Some text) ≡ params_read text.now
params-first text some = first text.now some
  where
    first : (t : List ℕ) → (t ≡ [] → ⊥) → map trimmed (parts_of 0 t) ≡ params_read t
    first [] some = absurd (some refl)
    first (c ∷ cs) some = refl

pub left-more : (rest part : List ℕ) (more : Option (Bor (List ℕ))) → MatchOption more (parts_of 0 rest ≡ part ∷ []) (λ r. parts_of 0 rest ≡ part ∷ parts_of 0 r.now)
    → map trimmed (parts_of 0 rest) ≡ trimmed part ∷ params_left more
left-more rest part None is = ap (map trimmed) is
left-more rest part (Some r) is = ap (map trimmed) is

pub left-less : (rest : List ℕ) (more : Option (Bor (List ℕ))) → MatchOption more (behind_comma 0 rest ≡ []) (λ r. (r.now ≡ behind_comma 0 rest) × (length r.now < length rest))
    → bytes_left more < suc (length rest)
left-less rest None is = omega arith
left-less rest (Some r) is = let h = is.1 in omega (arith, h)

-- no parameter, the only one, or several
pub params-some : (text : List ℕ) → (text ≡ [] → ⊥) → 1 ≤ length (params_read text)
params-some [] some = absurd (some refl)
params-some (c ∷ cs) some = omega (arith, some-parts 0 (c ∷ cs), length-map (parts_of 0 (c ∷ cs)) trimmed)

pub more-params : (text part rest : List ℕ) → parts_of 0 text ≡ part ∷ parts_of 0 rest → length (params_read text) ≡ 1 → ⊥
more-params [] part rest is one = absurd (omega (arith, one))
more-params (c ∷ cs) part rest is one =
    let more : 1 ≤ length (parts_of 0 rest) = some-parts 0 rest in
    let whole : length (parts_of 0 (c ∷ cs)) ≡ suc (length (parts_of 0 rest)) = ap length is in
    omega (arith, one, more, whole, length-map (parts_of 0 (c ∷ cs)) trimmed)

pub more-than-two : (text first rest second others : List ℕ) → parts_of 0 text ≡ first ∷ parts_of 0 rest → parts_of 0 rest ≡ second ∷ parts_of 0 others
    → length (params_read text) ≡ 2 → ⊥
more-than-two [] first rest second others is more two = absurd (omega (arith, two))
more-than-two (c ∷ cs) first rest second others is more two =
    let some : 1 ≤ length (parts_of 0 others) = some-parts 0 others in
    let behind : length (parts_of 0 rest) ≡ suc (length (parts_of 0 others)) = ap length more in
    let whole : length (parts_of 0 (c ∷ cs)) ≡ suc (length (parts_of 0 rest)) = ap length is in
    omega (arith, two, some, behind, whole, length-map (parts_of 0 (c ∷ cs)) trimmed)

-- which lines are an INPUT
goto_input : (t : List ℕ) (o : Option (List ℕ)) → behind (codes "GOTO ") t ≡ o
    → is_input_of (Some (elim o [ Some label ↦ SaidGoto label | None ↦ verb_read t ])) ≡ same_text (word_of t) (codes "INPUT")
goto_input t None is = refl
goto_input t (Some label) is = sym (ap (λ (ts : List ℕ). same_text (word_of ts) (codes "INPUT")) (behind-is (codes "GOTO ") t label is))

whenever_input : (t : List ℕ) (o : Option (List ℕ)) → behind (codes "WHENEVER ") t ≡ o
    → is_input_of (Some (elim o [
      | Some rest ↦ SaidWhenever (cond_read (before_comma 0 rest)) (behind_comma 0 rest)
      | None ↦ elim (behind (codes "GOTO ") t) [ Some label ↦ SaidGoto label | None ↦ verb_read t ]
    ])) ≡ same_text (word_of t) (codes "INPUT")
whenever_input t None is = goto_input t (behind (codes "GOTO ") t) refl
whenever_input t (Some rest) is = sym (ap (λ (ts : List ℕ). same_text (word_of ts) (codes "INPUT")) (behind-is (codes "WHENEVER ") t rest is))

if_input : (n : ℕ) (t : List ℕ) (o : Option (List ℕ)) → behind (codes "IF ") t ≡ o
    → is_input_of (Some (elim o [
      | Some rest ↦ SaidIf (cond_read (before_comma 0 rest)) (command_read n (behind_comma 0 rest))
      | None ↦ elim (behind (codes "WHENEVER ") t) [
        | Some rest ↦ SaidWhenever (cond_read (before_comma 0 rest)) (behind_comma 0 rest)
        | None ↦ elim (behind (codes "GOTO ") t) [ Some label ↦ SaidGoto label | None ↦ verb_read t ]
      ]
    ])) ≡ same_text (word_of t) (codes "INPUT")
if_input n t None is = whenever_input t (behind (codes "WHENEVER ") t) refl
if_input n t (Some rest) is = sym (ap (λ (ts : List ℕ). same_text (word_of ts) (codes "INPUT")) (behind-is (codes "IF ") t rest is))

command_input : (n : ℕ) (t : List ℕ) → is_input_of (Some (command_read n t)) ≡ same_text (word_of t) (codes "INPUT")
command_input zero t = refl
command_input (suc n) t = if_input n t (behind (codes "IF ") t) refl

option_input : (t : List ℕ) → is_input_of (option_read t) ≡ same_text (word_of t) (codes "INPUT")
option_input [] = refl
option_input (c ∷ cs) = command_input (suc (length cs)) (c ∷ cs)

-- a text in which something is wrong isn't an INPUT
pub wrong-input : (text : List ℕ) (o : Option ℕ) → o ≡ wrong_from Front 0 text → is_some o ≡ true → false ≡ is_input_said (reading text)
wrong-input text None is some = absurd (false≢true some)
wrong-input text (Some place) is some = sym (ap is_input_said (reading_is text (Some place) (sym is)))

right_reading : (text : List ℕ) (o : Option ℕ) → o ≡ wrong_from Front 0 text → is_some o ≡ false → reading text ≡ Ok (line_read text)
right_reading text None is none = reading_is text None (sym is)
right_reading text (Some place) is none = absurd (false≢true (sym none))

pub right-input : (text : List ℕ) (o : Option ℕ) (command : List ℕ) → o ≡ wrong_from Front 0 text → is_some o ≡ false
    → (is_label (word_of (trimmed text)) ≡ true → command ≡ behind_word (trimmed text)) → (is_label (word_of (trimmed text)) ≡ false → command ≡ trimmed text)
    → same_text (word_of command) (codes "INPUT") ≡ is_input_said (reading text)
right-input text o command is none label bare =
    let t = trimmed text in
    cond_both (is_label (word_of t)) (record { label = Some (word_of t); command = option_read (behind_word t) }) (record { label = None; command = option_read t })
    (λ (said : LineSaid). same_text (word_of command) (codes "INPUT") ≡ is_input_of said.command)
    (λ holds. ap (λ (ts : List ℕ). same_text (word_of ts) (codes "INPUT")) (label holds) ∙ sym (option_input (behind_word t)))
    (λ fails. ap (λ (ts : List ℕ). same_text (word_of ts) (codes "INPUT")) (bare fails) ∙ sym (option_input t))
    ∙ sym (ap is_input_said (right_reading text o is none))

-- the values of the code
pub inside-said : (inner : Command) (said : Said) → command_said inner ≡ Some said → said_inside inner ≡ said
inside-said Blank said is = absurd cc
inside-said (If' cond p inner) said is = cc
inside-said (Goto label) said is = cc
inside-said (Whenever cond command) said is = cc
inside-said (Verb name rest) said is = cc

-- what a line is read as
pub right-grammar : (text : List ℕ) (o : Option ℕ) → o ≡ wrong_from Front 0 text → o ≡ None → reading text ≡ Ok (line_read text)
right-grammar text o is none = reading_is text None (sym is ∙ none)

pub right-line : (text : List ℕ) (o : Option ℕ) → o ≡ wrong_from Front 0 text → o ≡ None → IsLineText text
right-line text o is none = only-lines text (none_wrong Front 0 text (sym is ∙ none))

pub read-grammar : (text : List ℕ) (said : LineSaid) → reading text ≡ Ok said → IsReading text (Ok said)
read-grammar text said is = subst (IsReading text) is (reading-grammar text)

pub bad-grammar : (text : List ℕ) (place : ℕ) → reading text ≡ Err place → IsReading text (Err place)
bad-grammar text place is = subst (IsReading text) is (reading-grammar text)

-- commands with conditions
pub behind-length : (f t r : List ℕ) → behind f t ≡ Some r → length t ≡ length f + length r
behind-length f t r is = ap length (behind-is f t r is) ∙ length-append f r

pub if-read : (t rest : List ℕ) (cond : Cond) (inner : Command) (n : ℕ) → behind (codes "IF ") t ≡ Some rest → length t ≤ n → cond ≡ cond_read (before_comma 0 rest)
    → length (behind_comma 0 rest) ≤ length rest
    → ((m : ℕ) → length (behind_comma 0 rest) ≤ m → command_said inner ≡ Some (command_read m (behind_comma 0 rest)))
    → ◌≡◌ {A = Option Said} (Some (SaidIf cond (said_inside inner))) (Some (command_read n t))
if-read t rest cond inner zero front enough is shorter again = absurd (omega (arith, enough, behind-length (codes "IF ") t rest front))
if-read t rest cond inner (suc n) front enough is shorter again =
    let room : length (behind_comma 0 rest) ≤ n = omega (arith, enough, shorter, behind-length (codes "IF ") t rest front) in
    let said : said_inside inner ≡ command_read n (behind_comma 0 rest) = inside-said inner (command_read n (behind_comma 0 rest)) (again n room) in
    rw (is, said, front, command_read) refl

pub whenever-read : (t rest : List ℕ) (cond : Cond) (command : List ℕ) (n : ℕ) → behind (codes "IF ") t ≡ None → behind (codes "WHENEVER ") t ≡ Some rest → length t ≤ n
    → cond ≡ cond_read (before_comma 0 rest) → command ≡ behind_comma 0 rest
    → ◌≡◌ {A = Option Said} (Some (SaidWhenever cond command)) (Some (command_read n t))
whenever-read t rest cond command zero no_if front enough is same = absurd (omega (arith, enough, behind-length (codes "WHENEVER ") t rest front))
whenever-read t rest cond command (suc n) no_if front enough is same = rw (is, same, no_if, front, command_read) refl

pub verb_reads : (t : List ℕ) (n : ℕ) → behind (codes "IF ") t ≡ None → behind (codes "WHENEVER ") t ≡ None → behind (codes "GOTO ") t ≡ None → command_read n t ≡ verb_read t
verb_reads t zero no_if no_whenever no_goto = refl
verb_reads t (suc n) no_if no_whenever no_goto = rw (no_if, no_whenever, no_goto, command_read) refl

pub verb-reads : {E : Type 0} (t : List ℕ) (n : ℕ) (r : Result Command E) → behind (codes "IF ") t ≡ None → behind (codes "WHENEVER ") t ≡ None → behind (codes "GOTO ") t ≡ None
    → IfOk r (λ command. command_said command ≡ Some (verb_read t)) → IfOk r (λ command. command_said command ≡ Some (command_read n t))
verb-reads t n (Ok command) no_if no_whenever no_goto is = is ∙ ap (λ (s : Said). Some s) (sym (verb_reads t n no_if no_whenever no_goto))
verb-reads t n (Err e) no_if no_whenever no_goto is = tt

some_option : (t : List ℕ) → (length t ≡ 0 → ⊥) → option_read t ≡ Some (command_read (length t) t)
some_option [] some = absurd (some refl)
some_option (c ∷ cs) some = refl

pub option-reads : {E : Type 0} (t : List ℕ) (r : Result Command E) → (length t ≡ 0 → ⊥)
    → ((n : ℕ) → length t ≤ n → IfOk r (λ command. command_said command ≡ Some (command_read n t))) → IfOk r (λ command. command_said command ≡ option_read t)
option-reads t (Ok command) some is = is (length t) (le_refl (length t)) ∙ sym (some_option t some)
option-reads t (Err e) some is = tt
