-- The reading of a text is what the grammar says, and no other reading is.
-- serves: lines_are_read_by_the_grammar, parse_by_steps, CutLemmas, ParseLemmas, VerbLemmas
use Rattle.std.proofs.Common.{Bool, Err, IfSome, List, None, Ok, Option, Some, [], ap, append-nil, codes, false, option_map, refl, subst, sym, true, ℕ, ⊎_elim, ◌&&◌, ◌+◌, ◌||◌, ◌∙◌, ◌∷◌, ◌≡◌}
use Rattle.std.proofs.lemmas.Bool.{and_parts, cases_order, cond_both, false≢true, not-false, or_cases}
use Rattle.std.specs.Prelude.{if◌then◌else◌}
use Rattle.g_lang.proofs.PlaceLemmas.{closes, fixed_completes, takes, wrong_place, completing, completing_next}
use Rattle.g_lang.proofs.ReadLemmas.{keeps-said, line-read}
use Rattle.g_lang.proofs.RestLemmas.{only-lines}
use Rattle.g_lang.proofs.TakeLemmas.{line-taken}
use Rattle.g_lang.proofs.ValueLemmas.{same_text-eq}
use Rattle.g_lang.specs.LineReader.{ALabel, ALetter, ATestFrom, Back, BeforeComma, Fixed, Front, Gap, InGoto, InLabel, InText, Letter, Params, State, VerbGap, Word, line_read, may_end, reading, step, wrong_from}
use Rattle.g_lang.specs.Lines.{IsLine, IsLineText, IsReading, IsWritten, KeepsCommand, LineSaid, Reading, Said, Written, WrittenLine, command_text, line_text, said_by, said_in}
use Rattle.g_name.specs.BadPlace.{IsBadPlace}
use Rattle.g_name.specs.Order.{same_text}

-- every state can be completed
keyword_completes : (k word : List ℕ) (inner : Bool) → takes (Word k inner) (codes "X") ≡ true → same_text word k ≡ true → takes (Word word inner) (codes "X") ≡ true
keyword_completes k word inner taken is = ap (λ (w : List ℕ). takes (Word w inner) (codes "X")) (same_text-eq word k is) ∙ taken

word_completes : (first : ℕ) (word : List ℕ) (inner : Bool) → may_end (Word (first ∷ word) inner) ≡ false → takes (Word (first ∷ word) inner) (codes "X") ≡ true
word_completes first word inner never =
    let name = first ∷ word in
    let some : ((same_text name (codes "IF") || same_text name (codes "WHENEVER") || same_text name (codes "GOTO")) || (same_text name (codes "INPUT") && inner)) ≡ true =
    not-false _ never in
    ⊎_elim
    (λ three. ⊎_elim
    (λ two. ⊎_elim (keyword_completes (codes "IF") name inner refl) (keyword_completes (codes "WHENEVER") name inner refl)
    (or_cases (same_text name (codes "IF")) (same_text name (codes "WHENEVER")) two))
    (keyword_completes (codes "GOTO") name inner refl)
    (or_cases (same_text name (codes "IF") || same_text name (codes "WHENEVER")) (same_text name (codes "GOTO")) three))
    (λ input. keyword_completes (codes "INPUT") name inner refl (and_parts (same_text name (codes "INPUT")) inner input).0)
    (or_cases (same_text name (codes "IF") || same_text name (codes "WHENEVER") || same_text name (codes "GOTO")) (same_text name (codes "INPUT") && inner) some)

completed : (first : ℕ) (word : List ℕ) (inner : Bool) → takes (Word (first ∷ word) inner) (completing (Word (first ∷ word) inner)) ≡ true
completed first word inner =
    cond_both (may_end (Word (first ∷ word) inner)) [] (codes "X") (λ (t : List ℕ). takes (Word (first ∷ word) inner) t ≡ true) (λ may. may) (λ never. word_completes first word inner never)

letter_completes : (equals : Bool) → takes (Letter equals) (completing_next (ALetter equals)) ≡ true
letter_completes true = refl
letter_completes false = refl

completes : (s : State) → takes s (completing s) ≡ true
completes Front = refl
completes (InLabel n) = refl
completes Gap = refl
completes (Word [] inner) = refl
completes (Word (first ∷ word) inner) = completed first word inner
completes (ATestFrom negated) = refl
completes (Fixed f rest next) = fixed_completes (f ∷ rest) next
completes (Letter equals) = letter_completes equals
completes InText = refl
completes BeforeComma = refl
completes ALabel = refl
completes (InGoto n) = refl
completes Back = refl
completes VerbGap = refl
completes (Params depth) = closes depth

line_taken : (text : List ℕ) → IsLineText text → takes Front text ≡ true
line_taken text is = ap (takes Front) is.2 ∙ line-taken is.0 is.1

-- if nothing goes wrong, the whole text is accepted
none_end : (b : Bool) (at : ℕ) → ◌≡◌ {A = Option ℕ} (if b then None else Some at) None → b ≡ true
none_end true at is = refl
none_end false at is = absurd cc

none_step : (o : Option State) (at : ℕ) (cs : List ℕ) → ((t : State) → wrong_from t (at + 1) cs ≡ None → takes t cs ≡ true)
    → ◌≡◌ {A = Option ℕ} (elim o [ None ↦ Some at | Some t ↦ wrong_from t (at + 1) cs ]) None → (elim o [ None ↦ false | Some t ↦ takes t cs ]) ≡ true
none_step None at cs again is = absurd cc
none_step (Some t) at cs again is = again t is

pub none_wrong : (s : State) (at : ℕ) (text : List ℕ) → wrong_from s at text ≡ None → takes s text ≡ true
none_wrong s at [] is = none_end (may_end s) at is
none_wrong s at (c ∷ cs) is = none_step (step c s) at cs (λ t more. none_wrong t (at + 1) cs more) is

taken_end : (b : Bool) (at : ℕ) → b ≡ true → ◌≡◌ {A = Option ℕ} (if b then None else Some at) None
taken_end b at is = rw is refl

taken_step : (o : Option State) (at : ℕ) (cs : List ℕ) → ((t : State) → takes t cs ≡ true → wrong_from t (at + 1) cs ≡ None)
    → (elim o [ None ↦ false | Some t ↦ takes t cs ]) ≡ true → ◌≡◌ {A = Option ℕ} (elim o [ None ↦ Some at | Some t ↦ wrong_from t (at + 1) cs ]) None
taken_step None at cs again taken = absurd (false≢true taken)
taken_step (Some t) at cs again taken = again t taken

pub taken_none : (s : State) (at : ℕ) (text : List ℕ) → takes s text ≡ true → wrong_from s at text ≡ None
taken_none s at [] taken = taken_end (may_end s) at taken
taken_none s at (c ∷ cs) taken = taken_step (step c s) at cs (λ t more. taken_none t (at + 1) cs more) taken

-- what the reading is, if nothing goes wrong and if something does
abbrev pub read_as : List ℕ → Option ℕ → Reading
read_as text None = Ok (line_read text)
read_as text (Some place) = Err place

pub reading_is : (text : List ℕ) (o : Option ℕ) → wrong_from Front 0 text ≡ o → reading text ≡ read_as text o
unfolding reading
reading_is text o e = ap (read_as text) e

ok_reading : (text : List ℕ) → IsLineText text → IsReading text (Ok (line_read text))
ok_reading text is = (is.0, is.1, is.2, ap line_read is.2 ∙ line-read is.0 is.1)

no_line : (text : List ℕ) (place : ℕ) → wrong_from Front 0 text ≡ Some place → IsLineText text → ⊥
no_line text place e is = let none = sym (taken_none Front 0 text (line_taken text is)) ∙ e in cc

reads_as : (text : List ℕ) (o : Option ℕ) → wrong_from Front 0 text ≡ o → IsReading text (read_as text o)
reads_as text None e = ok_reading text (only-lines text (none_wrong Front 0 text e))
reads_as text (Some place) e = (no_line text place e, wrong_place IsLineText line_taken only-lines completes text place e)

-- THE READING is what the grammar says
pub reading-grammar : (text : List ℕ) → IsReading text (reading text)
reading-grammar text = subst (IsReading text) (sym (reading_is text (wrong_from Front 0 text) refl)) (reads_as text (wrong_from Front 0 text) refl)

pub ok_one : (text : List ℕ) (a : LineSaid) → IsReading text (Ok a) → a ≡ line_read text
ok_one text a is = is.3 ∙ sym (ap line_read is.2 ∙ line-read is.0 is.1)

place_one : (text : List ℕ) (m n : ℕ) → IsBadPlace IsLineText text m → IsBadPlace IsLineText text n → m ≡ n
place_one text m n a b =
    ⊎_elim (λ same. same)
    (λ other. ⊎_elim (λ less. absurd (a.longest n less b.within b.begins)) (λ more. absurd (b.longest m more a.within a.begins)) other)
    (cases_order m n)

-- THERE IS ONLY ONE READING
pub reading-one : (text : List ℕ) (r s : Reading) → IsReading text r → IsReading text s → r ≡ s
reading-one text (Ok a) (Ok b) is also = ap (λ (said : LineSaid). Ok said) (ok_one text a is ∙ sym (ok_one text b also))
reading-one text (Ok a) (Err n) is also = absurd (also.0 (is.0, is.1, is.2))
reading-one text (Err m) (Ok b) is also = absurd (is.0 (also.0, also.1, also.2))
reading-one text (Err m) (Err n) is also = ap (λ (place : ℕ). Err place) (place_one text m n is.1 also.1)

-- what is written reads back
pub reading-written : (l : WrittenLine) → IsLine l → reading (line_text l) ≡ Ok (said_in l)
reading-written l is = reading-one (line_text l) (reading (line_text l)) (Ok (said_in l)) (reading-grammar (line_text l)) (l, is, refl, refl)

pub reading-command : (w : Written) → IsWritten w → reading (command_text w) ≡ Ok (record { label = None; command = Some (said_by w) })
reading-command w is =
    let l : WrittenLine = record { front = 0; label = None; gap = 0; command = Some w; back = 0 } in
    ap reading (sym (append-nil (command_text w))) ∙ reading-written l (record { label = tt; command = is; apart = λ both. absurd (false≢true both) })

-- the command stored for a condition
keeps_option : (o : Option Written) → IfSome o IsWritten → IfSome (option_map said_by o) KeepsCommand
keeps_option None is = tt
keeps_option (Some w) is = keeps-said w is

pub keeps-reading : (text : List ℕ) (said : LineSaid) → IsReading text (Ok said) → IfSome said.command KeepsCommand
keeps-reading text said is =
    subst (λ (s : LineSaid). IfSome s.command KeepsCommand) (sym is.3) (keeps_option is.0.command is.1.command)

pub reading-keeps : (text : List ℕ) (label : Option (List ℕ)) (said : Said)
    → reading text ≡ Ok (record { label = label; command = Some said }) → KeepsCommand said
reading-keeps text label said is =
    keeps-reading text (record { label = label; command = Some said }) (subst (IsReading text) is (reading-grammar text))
