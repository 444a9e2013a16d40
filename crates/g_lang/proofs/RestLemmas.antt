-- The texts that the reader accepts from a state are the rests of a line: for each state the possible rest, and for each byte how it extends that
-- rest.
-- serves: CutLemmas, ParseLemmas, ReadingLemmas
use Rattle.std.proofs.Common.{All, Bool, IfSome, List, None, Option, Some, [], ap, append-nil, append_assoc, arith, codes, eqb-true, false, is_some, le-leb, length, ltb-true, nat_lt, not, pred, refl, subst, suc, sym, true, ℕ, ⊎_elim, ◌&&◌, ◌++◌, ◌+◌, ◌-◌, ◌<◌, ◌==◌, ◌||◌, ◌∙◌, ◌∷◌, ◌≡◌, ◌≤◌}
use Rattle.std.proofs.lemmas.Bool.{and_from, and_parts, cases_Bool, cond_both, false≢true, not-true, not_from_false, or_cases, or_from, or_parts}
use Rattle.std.proofs.lemmas.List.Elements.{All-from_recursion}
use Rattle.std.specs.List.{AllByRecursion, list_all}
use Rattle.std.specs.Prelude.{if◌then◌else◌}
use Rattle.g_lang.proofs.PartLemmas.{AreParams, ParamsRest, params-rest}
use Rattle.g_lang.proofs.PlaceLemmas.{takes}
use Rattle.g_lang.proofs.SpaceLemmas.{spaces-two}
use Rattle.g_lang.proofs.TakeLemmas.{goes-on}
use Rattle.g_lang.proofs.ValueLemmas.{are_parts, same_text-eq}
use Rattle.g_lang.specs.Conditions.{IsCond, IsTest, cond_text, is_param_letter, is_plain_text, test_text}
use Rattle.g_lang.specs.LineReader.{AComma, ALabel, ALetter, ATest, ATestFrom, AText, Back, BeforeComma, Fixed, Front, Gap, InGoto, InLabel, InText, Letter, Next, Params, State, VerbGap, Word, fixed, in_params, in_word, may_end, state_behind_word, step}
use Rattle.g_lang.specs.Lines.{IsLineText, IsWritten, Written, WrittenGoto, WrittenIf, WrittenLine, WrittenVerb, WrittenWhenever, command_text, is_input, is_verb, line_text, option_text}
use Rattle.g_lang.specs.Words.{is_label, is_part, is_printed, joined, spaces}
use Rattle.g_lang.specs.declared.line.Cond.{Cond}
use Rattle.g_lang.specs.declared.line.Test.{Test}
use Rattle.g_lang.specs.declared.line.Test.TheVariants.{Absent, CommandError, Deleted, Equals, Failed, Halted, Present}
use Rattle.g_name.proofs.WordLemmas.{may_be-from_word, word-push}
use Rattle.g_name.specs.Grammar.{is_digit, is_letter, is_name_char, is_word}
use Rattle.g_name.specs.Order.{same_text}
use Rattle.g_name.specs.Words.{may_be_word}

-- a command and its trailing spaces; after a condition it is no INPUT
pub record CommandRest (inner : Bool) (text : List ℕ) : Type 0 where
  pub written : Written
  pub is : IsWritten written
  pub other : (is_input written && inner) ≡ false
  pub back : ℕ
  pub same : text ≡ command_text written ++ spaces back

-- a comma and the command after a condition
pub record CommaRest (text : List ℕ) : Type 0 where
  pub more : List ℕ
  pub rest : CommandRest true more
  pub same : text ≡ 44 ∷ more

-- the rest of a text in brackets
pub record TextRest (text : List ℕ) : Type 0 where
  pub plain : List ℕ
  pub is : is_plain_text plain ≡ true
  pub more : List ℕ
  pub rest : CommaRest more
  pub same : text ≡ plain ++ (41 ∷ more)

-- what follows a parameter's letter
abbrev BehindLetter : Bool → List ℕ → Type 0
BehindLetter true text = (more : List ℕ) × TextRest more × (text ≡ codes ")=(" ++ more)
BehindLetter false text = (more : List ℕ) × CommaRest more × (text ≡ codes ")" ++ more)

pub record LetterRest (equals : Bool) (text : List ℕ) : Type 0 where
  pub letter : ℕ
  pub is : is_param_letter letter ≡ true
  pub more : List ℕ
  pub rest : BehindLetter equals more
  pub same : text ≡ letter ∷ more

pub record TestRest (text : List ℕ) : Type 0 where
  pub test : Test
  pub is : IsTest test
  pub more : List ℕ
  pub rest : CommaRest more
  pub same : text ≡ test_text test ++ more

pub record CondRest (text : List ℕ) : Type 0 where
  pub cond : Cond
  pub is : IsCond cond
  pub more : List ℕ
  pub rest : CommaRest more
  pub same : text ≡ cond_text cond ++ more

abbrev NextRest : Next → List ℕ → Type 0
NextRest ATest text = TestRest text
NextRest AComma text = CommaRest text
NextRest AText text = TextRest text
NextRest (ALetter equals) text = LetterRest equals text

-- the rest of a fixed text
pub record FixedRest (fixed : List ℕ) (next : Next) (text : List ℕ) : Type 0 where
  pub more : List ℕ
  pub rest : NextRest next more
  pub same : text ≡ fixed ++ more

-- the rest of a line after a label, and after the label's space
pub record LabelRest (n : ℕ) (text : List ℕ) : Type 0 where
  pub chars : List ℕ
  pub all : list_all is_name_char chars ≡ true
  pub fits : length chars ≤ 12 - n
  pub gap : ℕ
  pub command : Option Written
  pub is : IfSome command IsWritten
  pub apart : is_some command ≡ true → 1 ≤ gap
  pub back : ℕ
  pub same : text ≡ chars ++ (spaces gap ++ (option_text command ++ spaces back))

pub record GapRest (text : List ℕ) : Type 0 where
  pub gap : ℕ
  pub command : Option Written
  pub is : IfSome command IsWritten
  pub back : ℕ
  pub same : text ≡ spaces gap ++ (option_text command ++ spaces back)

-- the rest of a GOTO's label
pub record GotoRest (text : List ℕ) : Type 0 where
  pub label : List ℕ
  pub is : is_label label ≡ true
  pub back : ℕ
  pub same : text ≡ label ++ spaces back

pub record GotoMore (n : ℕ) (text : List ℕ) : Type 0 where
  pub chars : List ℕ
  pub all : list_all is_name_char chars ≡ true
  pub fits : length chars ≤ 12 - n
  pub back : ℕ
  pub same : text ≡ chars ++ spaces back

abbrev Rest : State → List ℕ → Type 0
Rest Front text = IsLineText text
Rest (InLabel n) text = LabelRest n text
Rest Gap text = GapRest text
Rest (Word word inner) text = may_be_word word ≡ true → CommandRest inner (word ++ text)
Rest (ATestFrom true) text = TestRest text
Rest (ATestFrom false) text = CondRest text
Rest (Fixed f rest next) text = FixedRest (f ∷ rest) next text
Rest (Letter equals) text = LetterRest equals text
Rest InText text = TextRest text
Rest BeforeComma text = CommaRest text
Rest ALabel text = GotoRest text
Rest (InGoto n) text = GotoMore n text
Rest Back text = (n : ℕ) × (text ≡ spaces n)
Rest VerbGap text = ParamsRest text
Rest (Params depth) text = takes (Params depth) text ≡ true

-- a byte before the rest of the next state is the rest of this one
abbrev Goes : State → ℕ → List ℕ → Option State → Type 0
Goes s c cs None = Unit {0}
Goes s c cs (Some t) = Rest t cs → Rest s (c ∷ cs)

-- a known byte before a text
at_byte : (c k : ℕ) (cs ts : List ℕ) → (c == k) ≡ true → cs ≡ ts → c ∷ cs ≡ k ∷ ts
at_byte c k cs ts is same = ap (λ (b : ℕ). b ∷ cs) (eqb-true c k is) ∙ ap (λ (us : List ℕ). k ∷ us) same

before : (c : ℕ) (cs ts : List ℕ) → cs ≡ ts → c ∷ cs ≡ c ∷ ts
before c cs ts same = ap (λ (us : List ℕ). c ∷ us) same

-- a line by the place where it begins
abbrev the_line : ℕ → Option (List ℕ) → ℕ → Option Written → ℕ → WrittenLine
the_line front label gap command back = record { front = front; label = label; gap = gap; command = command; back = back }

from_command : (text : List ℕ) → CommandRest false text → IsLineText text
from_command text r =
    (the_line 0 None 0 (Some r.written) r.back, record { label = tt; command = r.is; apart = λ both. absurd (false≢true both) }, r.same)

from_label : (c : ℕ) (cs : List ℕ) → is_digit c ≡ true → LabelRest 1 cs → IsLineText (c ∷ cs)
from_label c cs digit r =
    let short : length r.chars ≤ 11 = let h = r.fits in omega (arith, h) in (
      the_line 0 (Some (c ∷ r.chars)) r.gap r.command r.back,
      record { label = and_from _ _ (and_from _ _ digit (le-leb (length r.chars) 11 short)) r.all; command = r.is; apart = r.apart },
      before c cs (r.chars ++ (spaces r.gap ++ (option_text r.command ++ spaces r.back))) r.same,
    )

from_space : (c : ℕ) (cs : List ℕ) → (c == 32) ≡ true → IsLineText cs → IsLineText (c ∷ cs)
from_space c cs space r =
    let l = r.0 in (
      the_line (suc l.front) l.label l.gap l.command l.back,
      record { label = r.1.label; command = r.1.command; apart = r.1.apart },
      at_byte c 32 cs (line_text l) space r.2,
    )

goes_word : (inner : Bool) (c : ℕ) (cs : List ℕ) → Goes (Word [] inner) c cs (in_word [] inner c)
goes_word inner c cs =
    cond_both (is_letter c) (Some (Word (c ∷ []) inner)) None (Goes (Word [] inner) c cs)
    (λ letter r may. r (and_from _ _ (and_from _ _ letter refl) refl)) (λ _. tt)

from_word : (s : State) (c : ℕ) (cs : List ℕ) (o : Option State) → (CommandRest false (c ∷ cs) → Rest s (c ∷ cs)) → Goes (Word [] false) c cs o → Goes s c cs o
from_word s c cs None onto from = tt
from_word s c cs (Some t) onto from = λ r. onto (from r refl)

goes_front : (c : ℕ) (cs : List ℕ) → Goes Front c cs (step c Front)
goes_front c cs =
    cond_both (c == 32) (Some Front) (if is_digit c then Some (InLabel 1) else in_word [] false c) (Goes Front c cs)
    (λ space. from_space c cs space)
    (λ _. cond_both (is_digit c) (Some (InLabel 1)) (in_word [] false c) (Goes Front c cs)
    (λ digit. from_label c cs digit)
    (λ _. from_word Front c cs (in_word [] false c) (from_command (c ∷ cs)) (goes_word false c cs)))

label_char : (n c : ℕ) (cs : List ℕ) → (is_name_char c && nat_lt n 12) ≡ true → LabelRest (n + 1) cs → LabelRest n (c ∷ cs)
label_char n c cs char r =
    let both = and_parts (is_name_char c) (nat_lt n 12) char in
    let room : n < 12 = ltb-true n 12 both.1 in
    record {
      chars = c ∷ r.chars;
      all = and_from _ _ both.0 r.all;
      fits = let h = r.fits in omega (arith, h, room);
      gap = r.gap;
      command = r.command;
      is = r.is;
      apart = r.apart;
      back = r.back;
      same = before c cs (r.chars ++ (spaces r.gap ++ (option_text r.command ++ spaces r.back))) r.same;
    }

label_space : (n c : ℕ) (cs : List ℕ) → (c == 32) ≡ true → GapRest cs → LabelRest n (c ∷ cs)
label_space n c cs space r = record {
  chars = [];
  all = refl;
  fits = omega arith;
  gap = suc r.gap;
  command = r.command;
  is = r.is;
  apart = λ some. omega arith;
  back = r.back;
  same = at_byte c 32 cs (spaces r.gap ++ (option_text r.command ++ spaces r.back)) space r.same;
}

goes_label : (n c : ℕ) (cs : List ℕ) → Goes (InLabel n) c cs (step c (InLabel n))
goes_label n c cs =
    cond_both (is_name_char c && nat_lt n 12) (Some (InLabel (n + 1))) (if c == 32 then Some Gap else None) (Goes (InLabel n) c cs)
    (λ char. label_char n c cs char)
    (λ _. cond_both (c == 32) (Some Gap) None (Goes (InLabel n) c cs) (λ space. label_space n c cs space) (λ _. tt))

gap_space : (c : ℕ) (cs : List ℕ) → (c == 32) ≡ true → GapRest cs → GapRest (c ∷ cs)
gap_space c cs space r = record {
  gap = suc r.gap;
  command = r.command;
  is = r.is;
  back = r.back;
  same = at_byte c 32 cs (spaces r.gap ++ (option_text r.command ++ spaces r.back)) space r.same;
}

gap_command : (text : List ℕ) → CommandRest false text → GapRest text
gap_command text r = record { gap = 0; command = Some r.written; is = r.is; back = r.back; same = r.same }

goes_gap : (c : ℕ) (cs : List ℕ) → Goes Gap c cs (step c Gap)
goes_gap c cs =
    cond_both (c == 32) (Some Gap) (in_word [] false c) (Goes Gap c cs)
    (λ space. gap_space c cs space)
    (λ _. from_word Gap c cs (in_word [] false c) (gap_command (c ∷ cs)) (goes_word false c cs))

-- a keyword and its space
and_true : (b : Bool) → (b && true) ≡ false → b ≡ false
and_true b is = ⊎_elim (λ holds. absurd (false≢true (sym is ∙ and_from b true holds refl))) (λ fails. fails) (cases_Bool b)

cond_command : (inner : Bool) (cs : List ℕ) (r : CondRest cs) → CommandRest inner (codes "IF " ++ cs)
cond_command inner cs r =
    let w = r.rest.rest.written in
    let behind_cond : cs ≡ (cond_text r.cond ++ (44 ∷ command_text w)) ++ spaces r.rest.rest.back =
    r.same ∙ ap (λ (ts : List ℕ). cond_text r.cond ++ ts) (r.rest.same ∙ ap (λ (ts : List ℕ). 44 ∷ ts) r.rest.rest.same)
    ∙ sym (append_assoc (cond_text r.cond) (44 ∷ command_text w) (spaces r.rest.rest.back)) in
    record {
      written = WrittenIf r.cond w;
      is = (r.is, r.rest.rest.is, and_true (is_input w) r.rest.rest.other);
      other = refl;
      back = r.rest.rest.back;
      same = ap (λ (ts : List ℕ). codes "IF " ++ ts) behind_cond;
    }

whenever_command : (inner : Bool) (cs : List ℕ) (r : CondRest cs) → CommandRest inner (codes "WHENEVER " ++ cs)
whenever_command inner cs r =
    let w = r.rest.rest.written in
    let behind_cond : cs ≡ (cond_text r.cond ++ (44 ∷ command_text w)) ++ spaces r.rest.rest.back =
    r.same ∙ ap (λ (ts : List ℕ). cond_text r.cond ++ ts) (r.rest.same ∙ ap (λ (ts : List ℕ). 44 ∷ ts) r.rest.rest.same)
    ∙ sym (append_assoc (cond_text r.cond) (44 ∷ command_text w) (spaces r.rest.rest.back)) in
    record {
      written = WrittenWhenever r.cond w;
      is = (r.is, r.rest.rest.is, and_true (is_input w) r.rest.rest.other);
      other = refl;
      back = r.rest.rest.back;
      same = ap (λ (ts : List ℕ). codes "WHENEVER " ++ ts) behind_cond;
    }

goto_command : (inner : Bool) (cs : List ℕ) (r : GotoRest cs) → CommandRest inner (codes "GOTO " ++ cs)
goto_command inner cs r = record {
  written = WrittenGoto r.label;
  is = r.is;
  other = refl;
  back = r.back;
  same = ap (λ (ts : List ℕ). codes "GOTO " ++ ts) r.same;
}

-- a keyword before its text
keyword : (k word : List ℕ) (inner : Bool) (c : ℕ) (cs : List ℕ) → same_text word k ≡ true → (c == 32) ≡ true → CommandRest inner (k ++ (32 ∷ cs)) → CommandRest inner (word ++ (c ∷ cs))
keyword k word inner c cs is space r =
    subst (CommandRest inner)
    (ap (λ (w : List ℕ). w ++ (32 ∷ cs)) (sym (same_text-eq word k is)) ∙ ap (λ (b : ℕ). word ++ (b ∷ cs)) (sym (eqb-true c 32 space))) r

verb_of : (name : List ℕ) → is_word name ≡ true → same_text name (codes "IF") ≡ false → same_text name (codes "WHENEVER") ≡ false → same_text name (codes "GOTO") ≡ false → is_verb name ≡ true
verb_of name is a b c = and_from _ _ is (not_from_false _ (or_from _ _ (or_from _ _ a b) c))

bare_verb : (inner : Bool) (name : List ℕ) (back : ℕ) → is_verb name ≡ true → (same_text name (codes "INPUT") && inner) ≡ false → CommandRest inner (name ++ spaces back)
bare_verb inner name back is other = record {
  written = WrittenVerb name 0 [];
  is = (is, tt);
  other = other;
  back = back;
  same = ap (λ (ts : List ℕ). ts ++ spaces back) (sym (append-nil name));
}

parts_all : (parts : List (List ℕ)) → are_parts parts ≡ true → AllByRecursion (λ p. is_part 0 p ≡ true) parts
parts_all [] are = tt
parts_all (part ∷ parts) are = let both = and_parts (is_part 0 part) (are_parts parts) are in (both.0, parts_all parts both.1)

verb_with : (inner : Bool) (name : List ℕ) (gap : ℕ) (parts : List (List ℕ)) (back : ℕ) → is_verb name ≡ true → (same_text name (codes "INPUT") && inner) ≡ false → AreParams parts
    → CommandRest inner (name ++ (32 ∷ (spaces gap ++ (joined parts ++ spaces back))))
verb_with inner name gap [] back is other are =
    subst (λ (ts : List ℕ). CommandRest inner (name ++ (32 ∷ ts))) (sym (spaces-two gap back)) (bare_verb inner name (suc (gap + back)) is other)
verb_with inner name gap (part ∷ parts) back is other are =
    let j = joined (part ∷ parts) in
    let all : All (λ p. is_part 0 p ≡ true) (part ∷ parts) = All-from_recursion (λ p. is_part 0 p ≡ true) (part ∷ parts) (parts_all (part ∷ parts) are.0) in
    record {
      written = WrittenVerb name (suc gap) (part ∷ parts);
      is = (is, (omega arith, all, are.1));
      other = other;
      back = back;
      same = ap (λ (ts : List ℕ). name ++ (32 ∷ ts)) (sym (append_assoc (spaces gap) j (spaces back))) ∙ sym (append_assoc name (spaces (suc gap) ++ j) (spaces back));
    }

verb_params : (inner : Bool) (name : List ℕ) (c : ℕ) (cs : List ℕ) → (c == 32) ≡ true → is_verb name ≡ true → (same_text name (codes "INPUT") && inner) ≡ false → ParamsRest cs → CommandRest inner (name ++ (c ∷ cs))
verb_params inner name c cs space is other r =
    subst (λ (ts : List ℕ). CommandRest inner (name ++ ts)) (sym (at_byte c 32 cs (spaces r.gap ++ (joined r.parts ++ spaces r.back)) space r.same))
    (verb_with inner name r.gap r.parts r.back is other r.are)

goes_behind_word : (first : ℕ) (word : List ℕ) (inner : Bool) (c : ℕ) (cs : List ℕ) → (c == 32) ≡ true → Goes (Word (first ∷ word) inner) c cs (state_behind_word (first ∷ word) inner)
goes_behind_word first word inner c cs space =
    let name = first ∷ word in
    cond_both (same_text name (codes "IF") || same_text name (codes "WHENEVER")) (Some (ATestFrom false))
    (if same_text name (codes "GOTO") then Some ALabel else if same_text name (codes "INPUT") && inner then None else Some VerbGap)
    (Goes (Word name inner) c cs)
    (λ either r may.
    ⊎_elim (λ is. keyword (codes "IF") name inner c cs is space (cond_command inner cs r)) (λ is. keyword (codes "WHENEVER") name inner c cs is space (whenever_command inner cs r))
    (or_cases (same_text name (codes "IF")) (same_text name (codes "WHENEVER")) either))
    (λ neither.
    let others = or_parts (same_text name (codes "IF")) (same_text name (codes "WHENEVER")) neither in
    cond_both (same_text name (codes "GOTO")) (Some ALabel) (if same_text name (codes "INPUT") && inner then None else Some VerbGap) (Goes (Word name inner) c cs)
    (λ is r may. keyword (codes "GOTO") name inner c cs is space (goto_command inner cs r))
    (λ no_goto.
    cond_both (same_text name (codes "INPUT") && inner) None (Some VerbGap) (Goes (Word name inner) c cs) (λ _. tt)
    (λ other r may. verb_params inner name c cs space (verb_of name may others.0 others.1 no_goto) other r)))

goes_in_word : (first : ℕ) (word : List ℕ) (inner : Bool) (c : ℕ) (cs : List ℕ) → Goes (Word (first ∷ word) inner) c cs (in_word (first ∷ word) inner c)
goes_in_word first word inner c cs =
    cond_both (is_name_char c && nat_lt (length word) 11) (Some (Word ((first ∷ word) ++ c ∷ []) inner)) (if c == 32 then state_behind_word (first ∷ word) inner else None)
    (Goes (Word (first ∷ word) inner) c cs)
    (λ next r may. subst (CommandRest inner) (append_assoc (first ∷ word) (c ∷ []) cs) (r (may_be-from_word ((first ∷ word) ++ c ∷ []) (word-push (first ∷ word) c may next))))
    (λ _. cond_both (c == 32) (state_behind_word (first ∷ word) inner) None (Goes (Word (first ∷ word) inner) c cs)
    (λ space. goes_behind_word first word inner c cs space) (λ _. tt))

-- conditions
as_cond : (negated : Bool) (text : List ℕ) → TestRest text → Rest (ATestFrom negated) text
as_cond true text r = r
as_cond false text r = record { cond = record { negated = false; test = r.test }; is = r.is; more = r.more; rest = r.rest; same = r.same }

-- a text in brackets, with what follows
bracketed : (front : List ℕ) (r : List ℕ) (t : TextRest r) → front ++ r ≡ (front ++ (t.plain ++ codes ")")) ++ t.more
bracketed front r t =
    ap (λ (ts : List ℕ). front ++ ts) (t.same ∙ sym (append_assoc t.plain (41 ∷ []) t.more)) ∙ sym (append_assoc front (t.plain ++ codes ")") t.more)

test_error : (c : ℕ) (cs : List ℕ) → (c == 67) ≡ true → FixedRest (codes "OMMAND ERROR") AComma cs → TestRest (c ∷ cs)
test_error c cs is r = record { test = CommandError; is = tt; more = r.more; rest = r.rest; same = at_byte c 67 cs (codes "OMMAND ERROR" ++ r.more) is r.same }

test_failed : (c : ℕ) (cs : List ℕ) → (c == 70) ≡ true → FixedRest (codes "AILED") AComma cs → TestRest (c ∷ cs)
test_failed c cs is r = record { test = Failed; is = tt; more = r.more; rest = r.rest; same = at_byte c 70 cs (codes "AILED" ++ r.more) is r.same }

test_halted : (c : ℕ) (cs : List ℕ) → (c == 72) ≡ true → FixedRest (codes "ALTED(") AText cs → TestRest (c ∷ cs)
test_halted c cs is r = record {
  test = Halted r.rest.plain;
  is = r.rest.is;
  more = r.rest.more;
  rest = r.rest.rest;
  same = at_byte c 72 cs (codes "ALTED(" ++ r.more) is r.same ∙ bracketed (codes "HALTED(") r.more r.rest;
}

test_deleted : (c : ℕ) (cs : List ℕ) → (c == 68) ≡ true → FixedRest (codes "ELETED(") AText cs → TestRest (c ∷ cs)
test_deleted c cs is r = record {
  test = Deleted r.rest.plain;
  is = r.rest.is;
  more = r.rest.more;
  rest = r.rest.rest;
  same = at_byte c 68 cs (codes "ELETED(" ++ r.more) is r.same ∙ bracketed (codes "DELETED(") r.more r.rest;
}

test_present : (c : ℕ) (cs : List ℕ) → (c == 80) ≡ true → FixedRest (codes "RESENT(%") (ALetter false) cs → TestRest (c ∷ cs)
test_present c cs is r = record {
  test = Present r.rest.letter;
  is = r.rest.is;
  more = r.rest.rest.0;
  rest = r.rest.rest.1;
  same = at_byte c 80 cs (codes "RESENT(%" ++ r.more) is r.same
      ∙ ap (λ (ts : List ℕ). codes "PRESENT(%" ++ ts) (r.rest.same ∙ ap (λ (ts : List ℕ). r.rest.letter ∷ ts) r.rest.rest.2);
}

test_absent : (c : ℕ) (cs : List ℕ) → (c == 65) ≡ true → FixedRest (codes "BSENT(%") (ALetter false) cs → TestRest (c ∷ cs)
test_absent c cs is r = record {
  test = Absent r.rest.letter;
  is = r.rest.is;
  more = r.rest.rest.0;
  rest = r.rest.rest.1;
  same = at_byte c 65 cs (codes "BSENT(%" ++ r.more) is r.same
      ∙ ap (λ (ts : List ℕ). codes "ABSENT(%" ++ ts) (r.rest.same ∙ ap (λ (ts : List ℕ). r.rest.letter ∷ ts) r.rest.rest.2);
}

test_string : (c : ℕ) (cs : List ℕ) → (c == 83) ≡ true → FixedRest (codes "TRING(%") (ALetter true) cs → TestRest (c ∷ cs)
test_string c cs is r =
    let letter = r.rest.letter in
    let t = r.rest.rest.1 in
    record {
      test = Equals letter t.plain;
      is = (r.rest.is, t.is);
      more = t.more;
      rest = t.rest;
      same = at_byte c 83 cs (codes "TRING(%" ++ r.more) is r.same
          ∙ ap (λ (ts : List ℕ). codes "STRING(%" ++ ts) (r.rest.same ∙ ap (λ (ts : List ℕ). letter ∷ ts) r.rest.rest.2)
          ∙ bracketed (codes "STRING(%" ++ (letter ∷ codes ")=(")) r.rest.rest.0 t;
    }

test_not : (c : ℕ) (cs : List ℕ) → (c == 78) ≡ true → FixedRest (codes "OT ") ATest cs → CondRest (c ∷ cs)
test_not c cs is r = record {
  cond = record { negated = true; test = r.rest.test };
  is = r.rest.is;
  more = r.rest.more;
  rest = r.rest.rest;
  same = at_byte c 78 cs (codes "OT " ++ r.more) is r.same ∙ ap (λ (ts : List ℕ). codes "NOT " ++ ts) r.rest.same;
}

abbrev test_chain : ℕ → Option State
test_chain c =
    if c == 67 then Some (fixed (codes "OMMAND ERROR") AComma)
    else if c == 70 then Some (fixed (codes "AILED") AComma)
    else if c == 72 then Some (fixed (codes "ALTED(") AText)
    else if c == 68 then Some (fixed (codes "ELETED(") AText)
    else if c == 80 then Some (fixed (codes "RESENT(%") (ALetter false))
    else if c == 65 then Some (fixed (codes "BSENT(%") (ALetter false))
    else if c == 83 then Some (fixed (codes "TRING(%") (ALetter true))
    else None

goes_test : (negated : Bool) (c : ℕ) (cs : List ℕ) → Goes (ATestFrom negated) c cs (test_chain c)
goes_test negated c cs =
    cond_both (c == 67) _ _ (Goes (ATestFrom negated) c cs) (λ is r. as_cond negated (c ∷ cs) (test_error c cs is r))
    (λ _. cond_both (c == 70) _ _ (Goes (ATestFrom negated) c cs) (λ is r. as_cond negated (c ∷ cs) (test_failed c cs is r))
    (λ _. cond_both (c == 72) _ _ (Goes (ATestFrom negated) c cs) (λ is r. as_cond negated (c ∷ cs) (test_halted c cs is r))
    (λ _. cond_both (c == 68) _ _ (Goes (ATestFrom negated) c cs) (λ is r. as_cond negated (c ∷ cs) (test_deleted c cs is r))
    (λ _. cond_both (c == 80) _ _ (Goes (ATestFrom negated) c cs) (λ is r. as_cond negated (c ∷ cs) (test_present c cs is r))
    (λ _. cond_both (c == 65) _ _ (Goes (ATestFrom negated) c cs) (λ is r. as_cond negated (c ∷ cs) (test_absent c cs is r))
    (λ _. cond_both (c == 83) _ _ (Goes (ATestFrom negated) c cs) (λ is r. as_cond negated (c ∷ cs) (test_string c cs is r))
    (λ _. tt)))))))

goes_cond : (negated : Bool) (c : ℕ) (cs : List ℕ) → Goes (ATestFrom negated) c cs (step c (ATestFrom negated))
goes_cond true c cs =
    cond_both (c == 78 && false) (Some (fixed (codes "OT ") ATest)) (test_chain c) (Goes (ATestFrom true) c cs)
    (λ is. absurd (false≢true (and_parts (c == 78) false is).1)) (λ _. goes_test true c cs)
goes_cond false c cs =
    cond_both (c == 78 && true) (Some (fixed (codes "OT ") ATest)) (test_chain c) (Goes (ATestFrom false) c cs)
    (λ is r. test_not c cs (and_parts (c == 78) true is).0 r) (λ _. goes_test false c cs)

-- what is left of a fixed text
fixed_rest : (rest : List ℕ) (next : Next) (text : List ℕ) → Rest (fixed rest next) text → FixedRest rest next text
fixed_rest [] ATest text r = record { more = text; rest = r; same = refl }
fixed_rest [] AComma text r = record { more = text; rest = r; same = refl }
fixed_rest [] AText text r = record { more = text; rest = r; same = refl }
fixed_rest [] (ALetter equals) text r = record { more = text; rest = r; same = refl }
fixed_rest (c ∷ rest) next text r = r

fixed_byte : (f : ℕ) (rest : List ℕ) (next : Next) (c : ℕ) (cs : List ℕ) → (c == f) ≡ true → FixedRest rest next cs → FixedRest (f ∷ rest) next (c ∷ cs)
fixed_byte f rest next c cs is r = record { more = r.more; rest = r.rest; same = at_byte c f cs (rest ++ r.more) is r.same }

goes_fixed : (f : ℕ) (rest : List ℕ) (next : Next) (c : ℕ) (cs : List ℕ) → Goes (Fixed f rest next) c cs (step c (Fixed f rest next))
goes_fixed f rest next c cs =
    cond_both (c == f) (Some (fixed rest next)) None (Goes (Fixed f rest next) c cs)
    (λ is r. fixed_byte f rest next c cs is (fixed_rest rest next cs r)) (λ _. tt)

goes_letter : (equals : Bool) (c : ℕ) (cs : List ℕ) → Goes (Letter equals) c cs (step c (Letter equals))
goes_letter true c cs =
    cond_both (is_param_letter c) (Some (fixed (codes ")=(") AText)) None (Goes (Letter true) c cs)
    (λ is r. record { letter = c; is = is; more = cs; rest = (r.more, r.rest, r.same); same = refl }) (λ _. tt)
goes_letter false c cs =
    cond_both (is_param_letter c) (Some (fixed (codes ")") AComma)) None (Goes (Letter false) c cs)
    (λ is r. record { letter = c; is = is; more = cs; rest = (r.more, r.rest, r.same); same = refl }) (λ _. tt)

goes_text : (c : ℕ) (cs : List ℕ) → Goes InText c cs (step c InText)
goes_text c cs =
    cond_both (c == 41) (Some BeforeComma) (if is_printed c && not (c == 40) then Some InText else None) (Goes InText c cs)
    (λ is r. record { plain = []; is = refl; more = cs; rest = r; same = at_byte c 41 cs cs is refl })
    (λ other. cond_both (is_printed c && not (c == 40)) (Some InText) None (Goes InText c cs)
    (λ is r. record {
      plain = c ∷ r.plain;
      is = and_from _ _ (and_from _ _ is (not_from_false _ other)) r.is;
      more = r.more;
      rest = r.rest;
      same = before c cs (r.plain ++ (41 ∷ r.more)) r.same;
    })
    (λ _. tt))

goes_comma : (c : ℕ) (cs : List ℕ) → Goes BeforeComma c cs (step c BeforeComma)
goes_comma c cs =
    cond_both (c == 44) (Some (Word [] true)) None (Goes BeforeComma c cs)
    (λ is r. record { more = cs; rest = r refl; same = at_byte c 44 cs cs is refl }) (λ _. tt)

goes_a_label : (c : ℕ) (cs : List ℕ) → Goes ALabel c cs (step c ALabel)
goes_a_label c cs =
    cond_both (is_digit c) (Some (InGoto 1)) None (Goes ALabel c cs)
    (λ digit r.
    let short : length r.chars ≤ 11 = let h = r.fits in omega (arith, h) in
    record {
      label = c ∷ r.chars;
      is = and_from _ _ (and_from _ _ digit (le-leb (length r.chars) 11 short)) r.all;
      back = r.back;
      same = before c cs (r.chars ++ spaces r.back) r.same;
    })
    (λ _. tt)

goto_char : (n c : ℕ) (cs : List ℕ) → (is_name_char c && nat_lt n 12) ≡ true → GotoMore (n + 1) cs → GotoMore n (c ∷ cs)
goto_char n c cs char r =
    let both = and_parts (is_name_char c) (nat_lt n 12) char in
    let room : n < 12 = ltb-true n 12 both.1 in
    record {
      chars = c ∷ r.chars;
      all = and_from _ _ both.0 r.all;
      fits = let h = r.fits in omega (arith, h, room);
      back = r.back;
      same = before c cs (r.chars ++ spaces r.back) r.same;
    }

goes_goto : (n c : ℕ) (cs : List ℕ) → Goes (InGoto n) c cs (step c (InGoto n))
goes_goto n c cs =
    cond_both (is_name_char c && nat_lt n 12) (Some (InGoto (n + 1))) (if c == 32 then Some Back else None) (Goes (InGoto n) c cs)
    (λ char. goto_char n c cs char)
    (λ _. cond_both (c == 32) (Some Back) None (Goes (InGoto n) c cs)
    (λ space r. record { chars = []; all = refl; fits = omega arith; back = suc r.0; same = at_byte c 32 cs (spaces r.0) space r.1 }) (λ _. tt))

goes_back : (c : ℕ) (cs : List ℕ) → Goes Back c cs (step c Back)
goes_back c cs =
    cond_both (c == 32) (Some Back) None (Goes Back c cs) (λ space r. (suc r.0, at_byte c 32 cs (spaces r.0) space r.1)) (λ _. tt)

-- parameters
goes_params : (d c : ℕ) (cs : List ℕ) → Goes (Params d) c cs (step c (Params d))
goes_params d c cs =
    cond_both (c == 40) (Some (Params (d + 1))) (if c == 41 then (if d == 0 then None else Some (Params (pred d))) else if is_printed c then Some (Params d) else None)
    (Goes (Params d) c cs)
    (λ opens r. goes-on c (Params d) (Params (d + 1)) cs (rw opens refl) ∙ r)
    (λ no_open. cond_both (c == 41) (if d == 0 then None else Some (Params (pred d))) (if is_printed c then Some (Params d) else None) (Goes (Params d) c cs)
    (λ closes. cond_both (d == 0) None (Some (Params (pred d))) (Goes (Params d) c cs) (λ _. tt)
    (λ deep r. goes-on c (Params d) (Params (pred d)) cs (rw (no_open, closes, deep) refl) ∙ r))
    (λ no_close. cond_both (is_printed c) (Some (Params d)) None (Goes (Params d) c cs)
    (λ printed r. goes-on c (Params d) (Params d) cs (rw (no_open, no_close, printed) refl) ∙ r) (λ _. tt)))

as_params : (c : ℕ) (cs : List ℕ) (o : Option State) → (c == 32) ≡ false → Goes (Params 0) c cs o → Goes VerbGap c cs o
as_params c cs None other from = tt
as_params c cs (Some t) other from = λ r. params-rest (c ∷ cs) other (from r)

goes_verb_gap : (c : ℕ) (cs : List ℕ) → Goes VerbGap c cs (step c VerbGap)
goes_verb_gap c cs =
    cond_both (c == 32) (Some VerbGap) (in_params 0 c) (Goes VerbGap c cs)
    (λ space r. record { gap = suc r.gap; parts = r.parts; back = r.back; are = r.are; same = at_byte c 32 cs (spaces r.gap ++ (joined r.parts ++ spaces r.back)) space r.same })
    (λ other. as_params c cs (in_params 0 c) other (goes_params 0 c cs))

goes : (s : State) (c : ℕ) (cs : List ℕ) → Goes s c cs (step c s)
goes Front c cs = goes_front c cs
goes (InLabel n) c cs = goes_label n c cs
goes Gap c cs = goes_gap c cs
goes (Word [] inner) c cs = goes_word inner c cs
goes (Word (first ∷ word) inner) c cs = goes_in_word first word inner c cs
goes (ATestFrom negated) c cs = goes_cond negated c cs
goes (Fixed f rest next) c cs = goes_fixed f rest next c cs
goes (Letter equals) c cs = goes_letter equals c cs
goes InText c cs = goes_text c cs
goes BeforeComma c cs = goes_comma c cs
goes ALabel c cs = goes_a_label c cs
goes (InGoto n) c cs = goes_goto n c cs
goes Back c cs = goes_back c cs
goes VerbGap c cs = goes_verb_gap c cs
goes (Params d) c cs = goes_params d c cs

-- where a line may end
end_word : (first : ℕ) (word : List ℕ) (inner : Bool) → may_end (Word (first ∷ word) inner) ≡ true → may_be_word (first ∷ word) ≡ true → CommandRest inner ((first ∷ word) ++ [])
end_word first word inner ends may =
    let name = first ∷ word in
    let none = not-true _ ends in
    let input = or_parts (same_text name (codes "IF") || same_text name (codes "WHENEVER") || same_text name (codes "GOTO")) (same_text name (codes "INPUT") && inner) none in
    let two = or_parts (same_text name (codes "IF") || same_text name (codes "WHENEVER")) (same_text name (codes "GOTO")) input.0 in
    let one = or_parts (same_text name (codes "IF")) (same_text name (codes "WHENEVER")) two.0 in
    bare_verb inner name 0 (verb_of name may one.0 one.1 two.1) input.1

ends : (s : State) → may_end s ≡ true → Rest s []
ends Front may = (the_line 0 None 0 None 0, record { label = tt; command = tt; apart = λ both. absurd (false≢true both) }, refl)
ends (InLabel n) may = record { chars = []; all = refl; fits = omega arith; gap = 0; command = None; is = tt; apart = λ some. absurd (false≢true some); back = 0; same = refl }
ends Gap may = record { gap = 0; command = None; is = tt; back = 0; same = refl }
ends (Word [] inner) may = absurd (false≢true may)
ends (Word (first ∷ word) inner) may = end_word first word inner may
ends (ATestFrom negated) may = absurd (false≢true may)
ends (Fixed f rest next) may = absurd (false≢true may)
ends (Letter equals) may = absurd (false≢true may)
ends InText may = absurd (false≢true may)
ends BeforeComma may = absurd (false≢true may)
ends ALabel may = absurd (false≢true may)
ends (InGoto n) may = record { chars = []; all = refl; fits = omega arith; back = 0; same = refl }
ends Back may = (0, refl)
ends VerbGap may = record { gap = 0; parts = []; back = 0; are = tt; same = refl }
ends (Params d) may = may

on_step : (s : State) (c : ℕ) (cs : List ℕ) (o : Option State) → Goes s c cs o → ((t : State) → takes t cs ≡ true → Rest t cs)
    → (elim o [ None ↦ false | Some t ↦ takes t cs ]) ≡ true → Rest s (c ∷ cs)
on_step s c cs None onto again taken = absurd (false≢true taken)
on_step s c cs (Some t) onto again taken = onto (again t taken)

rests : (s : State) (text : List ℕ) → takes s text ≡ true → Rest s text
rests s [] taken = ends s taken
rests s (c ∷ cs) taken = on_step s c cs (step c s) (goes s c cs) (λ t more. rests t cs more) taken

-- ONLY LINES are taken
pub only-lines : (text : List ℕ) → takes Front text ≡ true → IsLineText text
only-lines text taken = rests Front text taken
