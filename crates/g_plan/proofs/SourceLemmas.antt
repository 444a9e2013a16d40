-- The first pass: a source's lines in order, and the index of their labels and their size.
-- serves: note_label, read_source, with, FinishLemmas
use Rattle.std.proofs.Common.{◌≡◌, ◌∙◌, ℕ, List, [], ◌∷◌, ◌++◌, Bool, true, false, Option, Some, None, ap, append_assoc, is_some, refl, sym}
use Rattle.std.specs.Prelude.{◌&&◌, if◌then◌else◌}
use Rattle.std.specs.BTreeMap.{is_at}
use Rattle.std.specs.Cmp.Lexicographic.{texts_ties}
use Rattle.std.specs.List.{find, list_all, list_any, scan}
use Rattle.std.specs.Option.{option_map, option_or}
use Rattle.std.proofs.lemmas.Bool.{cond_both}
use Rattle.std.proofs.lemmas.List.Folds.{find-append, list_all-append}
use Rattle.std.proofs.lemmas.List.{append-nil}
use Rattle.g_name.specs.Order.{same_text, text_cmp}
use Rattle.g_plan.specs.Assembly.{form_behind, forms_behind, has_label, is_among, is_blank, is_this, lines_with, moved, resolved, size_in, size_of, source}
use Rattle.g_plan.specs.LineIndex.{IsIndexed, noted, place_in}
use Rattle.g_plan.specs.Reading.{IsReadBehind, form_at, has_place, place_from, read_from}
use Rattle.g_plan.specs.Words.{label_in}
use Rattle.g_plan.specs.declared.form.Form.{Form}
use Rattle.g_plan.specs.declared.form.Value.TheVariants.{Named}
use Rattle.g_plan.specs.declared.reader.Reader.{Reader}
use Rattle.g_plan.specs.declared.source.Line.{Line}
use Rattle.g_lines.proofs.NumberLemmas.{same_text-eq}

-- the definition, line by line
source_from : (earlier : List (List ℕ)) (place : ℕ) (lines : List (List ℕ))
    → lines_with lines (forms_behind earlier lines) (scan moved (λ place form. place) place (forms_behind earlier lines)) ≡ read_from earlier place lines
source_from earlier place [] = refl
source_from earlier place (line ∷ lines) =
    ap (λ (rest : List Line). record { label = label_in line; form = form_behind earlier line; place = place } ∷ rest)
    (source_from (earlier ++ line ∷ []) (moved place (form_behind earlier line)) lines)

pub source_read : (lines : List (List ℕ)) → read_from [] 20 lines ≡ source lines
source_read lines = sym (source_from [] 20 lines)

-- one line more
abbrev pub line_behind : List (List ℕ) → ℕ → List ℕ → Line
line_behind earlier place line = record { label = label_in line; form = form_behind earlier line; place = place }

pub read_from-one : (earlier : List (List ℕ)) (place : ℕ) (lines : List (List ℕ)) (line : List ℕ)
    → read_from earlier place (lines ++ line ∷ []) ≡ read_from earlier place lines ++ line_behind (earlier ++ lines) (place_from earlier place lines) line ∷ []
read_from-one earlier place [] line = ap (λ (front : List (List ℕ)). line_behind front place line ∷ []) (sym (append-nil earlier))
read_from-one earlier place (first ∷ lines) line =
    ap (λ (rest : List Line). line_behind earlier place first ∷ rest)
    (read_from-one (earlier ++ first ∷ []) (moved place (form_behind earlier first)) lines line
    ∙ ap (λ (front : List (List ℕ)). read_from (earlier ++ first ∷ []) (moved place (form_behind earlier first)) lines
    ++ line_behind front (place_from (earlier ++ first ∷ []) (moved place (form_behind earlier first)) lines) line ∷ []) (append_assoc earlier (first ∷ []) lines))

pub place_from-one : (earlier : List (List ℕ)) (place : ℕ) (lines : List (List ℕ)) (line : List ℕ)
    → place_from earlier place (lines ++ line ∷ []) ≡ moved (place_from earlier place lines) (form_behind (earlier ++ lines) line)
place_from-one earlier place [] line = ap (λ (front : List (List ℕ)). moved place (form_behind front line)) (sym (append-nil earlier))
place_from-one earlier place (first ∷ lines) line =
    place_from-one (earlier ++ first ∷ []) (moved place (form_behind earlier first)) lines line
    ∙ ap (λ (front : List (List ℕ)). moved (place_from (earlier ++ first ∷ []) (moved place (form_behind earlier first)) lines) (form_behind front line))
    (append_assoc earlier (first ∷ []) lines)

-- a label is among those of the lines if and only if a line of the source has it
some_mapped : {A B : Type 0} (f : A → B) (o : Option A) → is_some (option_map f o) ≡ is_some o
some_mapped f None = refl
some_mapped f (Some x) = refl

among_step : (label : List ℕ) (earlier : List (List ℕ)) (place : ℕ) (line : List ℕ) (lines : List (List ℕ)) (b : Bool) → has_label label line ≡ b
    → is_some (find (λ (l : Line). is_this label l.label) (read_from (earlier ++ line ∷ []) (moved place (form_behind earlier line)) lines)) ≡ list_any (has_label label) lines
    → is_some (find (λ (l : Line). is_this label l.label) (read_from earlier place (line ∷ lines))) ≡ list_any (has_label label) (line ∷ lines)
among_step label earlier place line lines true is same = rw is refl
among_step label earlier place line lines false is same = rw is same

label_among : (label : List ℕ) (earlier : List (List ℕ)) (place : ℕ) (lines : List (List ℕ))
    → is_some (find (λ (l : Line). is_this label l.label) (read_from earlier place lines)) ≡ list_any (has_label label) lines
label_among label earlier place [] = refl
label_among label earlier place (line ∷ lines) =
    among_step label earlier place line lines (has_label label line) refl (label_among label (earlier ++ line ∷ []) (moved place (form_behind earlier line)) lines)

pub among : (lines : List (List ℕ)) (o : Option (List ℕ)) → has_place (read_from [] 20 lines) o ≡ is_among lines o
among lines None = refl
among lines (Some label) =
    some_mapped (λ (l : Line). l.place) (find (λ (l : Line). is_this label l.label) (read_from [] 20 lines)) ∙ label_among label [] 20 lines

pub form_at-behind : (earlier : List (List ℕ)) (lines : List Line) (blank : Bool) (text : List ℕ) → lines ≡ read_from [] 20 earlier → blank ≡ list_all is_blank earlier
    → form_at lines blank text (label_in text) ≡ form_behind earlier text
form_at-behind earlier lines blank text source_is blank_is =
    let there : has_place lines (label_in text) ≡ is_among earlier (label_in text) = ap (λ (ls : List Line). has_place ls (label_in text)) source_is ∙ among earlier (label_in text) in
    rw (there, blank_is) refl

-- the reader after one more line
and_true : (b : Bool) → (b && true) ≡ b
and_true true = refl
and_true false = refl

one_more : (earlier : List (List ℕ)) (text : List ℕ) → list_all is_blank (earlier ++ text ∷ []) ≡ (list_all is_blank earlier && is_blank text)
one_more earlier text = list_all-append is_blank earlier (text ∷ []) ∙ ap (λ (b : Bool). list_all is_blank earlier && b) (and_true (is_blank text))

pub behind-one : (earlier : List (List ℕ)) (text : List ℕ) (r next : Reader) (label : Option (List ℕ)) (form : Option Form) → IsReadBehind earlier r
    → label ≡ label_in text → form ≡ form_at r.source r.blank text label → next.source ≡ r.source ++ record { label = label; form = form; place = r.place } ∷ []
    → next.place ≡ moved r.place form → next.blank ≡ (r.blank && is_blank text) → IsReadBehind (earlier ++ text ∷ []) next
behind-one earlier text r next label form is labelled formed sourced placed blanked =
    let form_is : form ≡ form_behind earlier text =
    formed ∙ ap (form_at r.source r.blank text) labelled ∙ form_at-behind earlier r.source r.blank text is.source_is is.blank_is in
    record {
      source_is =
          sourced
          ∙ (ap (λ (ls : List Line). ls ++ record { label = label; form = form; place = r.place } ∷ []) is.source_is
          ∙ (ap (λ (o : Option (List ℕ)). read_from [] 20 earlier ++ record { label = o; form = form; place = r.place } ∷ []) labelled
          ∙ (ap (λ (f : Option Form). read_from [] 20 earlier ++ record { label = label_in text; form = f; place = r.place } ∷ []) form_is
          ∙ (ap (λ (p : ℕ). read_from [] 20 earlier ++ line_behind earlier p text ∷ []) is.place_is ∙ sym (read_from-one [] 20 earlier text)))));
      place_is =
          placed ∙ (ap (λ (p : ℕ). moved p form) is.place_is ∙ (ap (moved (place_from [] 20 earlier)) form_is ∙ sym (place_from-one [] 20 earlier text)));
      blank_is = blanked ∙ (ap (λ (b : Bool). b && is_blank text) is.blank_is ∙ sym (one_more earlier text));
    }

-- the labels and the size of the lines with one more at the end
placed_or : (o : Option Line) (line : Line) (b : Bool)
    → option_map (λ (l : Line). l.place) (option_or o (if b then Some line else None)) ≡ option_or (option_map (λ (l : Line). l.place) o) (if b then Some line.place else None)
placed_or None line true = refl
placed_or None line false = refl
placed_or (Some l) line b = refl

is_none : (o : Option ℕ) → is_some o ≡ false → o ≡ None
is_none None is = refl
is_none (Some n) is = absurd cc

or_none : (o : Option ℕ) → option_or o None ≡ o
or_none None = refl
or_none (Some n) = refl

or_assoc : (a b c : Option ℕ) → option_or a (option_or b c) ≡ option_or (option_or a b) c
or_assoc None b c = refl
or_assoc (Some n) b c = refl

resolved-one : (lines : List Line) (line : Line) (label : List ℕ)
    → resolved (lines ++ line ∷ []) (Named label) ≡ option_or (resolved lines (Named label)) (if is_this label line.label then Some line.place else None)
resolved-one lines line label =
    ap (option_map (λ (l : Line). l.place)) (find-append (λ (l : Line). is_this label l.label) lines (line ∷ []))
    ∙ placed_or (find (λ (l : Line). is_this label l.label) lines) line (is_this label line.label)

size_in-one : (lines : List Line) (line : Line) → size_in (lines ++ line ∷ []) ≡ option_or (size_in lines) (size_of line.form)
size_in-one [] line = or_none (size_of line.form)
size_in-one (first ∷ lines) line = ap (option_or (size_of first.form)) (size_in-one lines line) ∙ or_assoc (size_of first.form) (size_in lines) (size_of line.form)

-- the label of one more line is noted, if no line had it
noted_by : (places : List (List ℕ × ℕ)) (label other : List ℕ) (place : ℕ) (found : Option ℕ) → (same_text label other ≡ true → found ≡ option_or (place_in places label) (Some place))
    → (same_text label other ≡ false → found ≡ place_in places other) → found ≡ option_or (place_in places other) (if same_text label other then Some place else None)
noted_by places label other place found same apart =
    cond_both (same_text label other) (Some place) None (λ (o : Option ℕ). found ≡ option_or (place_in places other) o)
    (λ is. same is ∙ ap (λ (l : List ℕ). option_or (place_in places l) (Some place)) (same_text-eq label other is))
    (λ is. apart is ∙ sym (or_none (place_in places other)))

pub noted-put : (places new : List (List ℕ × ℕ)) (label other : List ℕ) (place : ℕ) → is_some (place_in places label) ≡ false
    → place_in new other ≡ (if is_at (text_cmp label) other then Some place else place_in places other)
    → place_in new other ≡ option_or (place_in places other) (if same_text label other then Some place else None)
noted-put places new label other place none put =
    let ties : is_at (text_cmp label) other ≡ same_text label other = sym (texts_ties label other) in
    let found : place_in new other ≡ (if same_text label other then Some place else place_in places other) =
    put ∙ ap (λ (b : Bool). if b then Some place else place_in places other) ties in
    noted_by places label other place (place_in new other)
    (λ is. found ∙ ap (λ (b : Bool). if b then Some place else place_in places other) is ∙ sym (ap (λ (o : Option ℕ). option_or o (Some place)) (is_none (place_in places label) none)))
    (λ is. found ∙ ap (λ (b : Bool). if b then Some place else place_in places other) is)

pub indexed-one : (lines : List Line) (places new : List (List ℕ × ℕ)) (size more : Option ℕ) (line : Line) → IsIndexed lines places size
    → ((label : List ℕ) → place_in new label ≡ noted places line label) → more ≡ option_or size (size_of line.form) → IsIndexed (lines ++ line ∷ []) new more
indexed-one lines places new size more line is noted_is sized = record {
  labels_are = λ label.
      noted_is label
      ∙ (ap (λ (o : Option ℕ). option_or o (if is_this label line.label then Some line.place else None)) (is.labels_are label) ∙ sym (resolved-one lines line label));
  size_is = sized ∙ (ap (λ (o : Option ℕ). option_or o (size_of line.form)) is.size_is ∙ sym (size_in-one lines line));
}

-- THE LOOP: some lines are read, and the others are left
pub record ReadSoFar (all left : List (List ℕ)) (r : Reader) : Type 0 where
  pub earlier : List (List ℕ)
  pub split : all ≡ earlier ++ left
  pub read : IsReadBehind earlier r

pub read-none : (all : List (List ℕ)) (r : Reader) → IsReadBehind [] r → ReadSoFar all all r
read-none all r is = record { earlier = []; split = refl; read = is }

pub read-next : (all left more : List (List ℕ)) (line : List ℕ) (r next : Reader) → ReadSoFar all left r → left ≡ line ∷ more
    → ((earlier : List (List ℕ)) → IsReadBehind earlier r → IsReadBehind (earlier ++ line ∷ []) next) → ReadSoFar all more next
read-next all left more line r next so_far is step = record {
  earlier = so_far.earlier ++ line ∷ [];
  split = so_far.split ∙ (ap (λ (ls : List (List ℕ)). so_far.earlier ++ ls) is ∙ sym (append_assoc so_far.earlier (line ∷ []) more));
  read = step so_far.earlier so_far.read;
}

pub read-all : (all left : List (List ℕ)) (r : Reader) → ReadSoFar all left r → left ≡ [] → r.source ≡ source all
read-all all left r so_far is =
    let whole : all ≡ so_far.earlier = so_far.split ∙ (ap (λ (ls : List (List ℕ)). so_far.earlier ++ ls) is ∙ append-nil so_far.earlier) in
    so_far.read.source_is ∙ (ap (read_from [] 20) (sym whole) ∙ source_read all)

pub noted-new : (places new : List (List ℕ × ℕ)) (line : Line) (own copied label : List ℕ) → line.label ≡ Some own → copied ≡ own → is_some (place_in places own) ≡ false
    → place_in new label ≡ (if is_at (text_cmp copied) label then Some line.place else place_in places label) → place_in new label ≡ noted places line label
noted-new places new line own copied label is same none put =
    let put_is : place_in new label ≡ (if is_at (text_cmp own) label then Some line.place else place_in places label) =
    put ∙ ap (λ (t : List ℕ). if is_at (text_cmp t) label then Some line.place else place_in places label) same in
    noted-put places new own label line.place none put_is
    ∙ ap (λ (o : Option (List ℕ)). option_or (place_in places label) (if is_this label o then Some line.place else None)) (sym is)
