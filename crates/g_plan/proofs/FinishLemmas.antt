-- The result of both passes is what the source is assembled to.
-- serves: assemble (answer), fill, finished, place_line
use Rattle.std.proofs.Common.{◌≡◌, ◌≤◌, ◌<◌, ◌+◌, ◌∙◌, ℕ, List, [], ◌∷◌, Option, Some, None, Bool, false, Result, Ok, Err, ap, get_or, length, map, refl, subst, sym}
use Rattle.std.specs.Prelude.{unwrap_or}
use Rattle.std.specs.List.{slice_get}
use Rattle.std.proofs.lemmas.Option.{slice_get_read}
use Rattle.g_lines.specs.Lines.{lines_of, text_of}
use Rattle.g_word.specs.Octal.{octal_digits}
use Rattle.g_plan.specs.Assembly.{all_cells, assembled, bad_behind, end_of, file_of, program_words, size_in, source, words_up_to}
use Rattle.g_plan.specs.SecondPass.{AllFit, IsImageOf, MayFit}
use Rattle.g_plan.specs.Laws.{Assembles, IsLoadedAs, size_or_none}
use Rattle.g_plan.specs.Passes.{IsFilled, IsFormPut, IsLinePut}
use Rattle.g_plan.specs.declared.fault.PlanFault.{PlanFault}
use Rattle.g_plan.specs.declared.fault.PlanFault.TheVariants.{BadPlan, NoMemory}
use Rattle.g_plan.specs.declared.form.Form.{Form}
use Rattle.g_plan.specs.declared.image.Image.{Image}
use Rattle.g_plan.specs.declared.source.Line.{Line}
use Rattle.g_plan.proofs.FillLemmas.{FilledSoFar, answer-bad, answer-file, answer-none, filled_all, filled_bad, line-bad, line-put}
use Rattle.g_plan.proofs.OrderLemmas.{all_fit}
use Rattle.g_plan.proofs.RoundLemmas.{round_trip}
use Rattle.g_plan.proofs.SourceLemmas.{source_read}

pub source-fits : (lines : List (List ℕ)) (all : List Line) → all ≡ source lines → AllFit all
source-fits lines all is = subst AllFit (source_read lines ∙ sym is) (all_fit [] 20 lines)

-- a line is placed if its form is
pub line-placed : (all : List Line) (size : ℕ) (line : Line) (form : Form) (old new : Image) (result : Bool) → line.form ≡ Some form
    → IsFormPut all size form line.place old new result → IsLinePut all size line old new result
line-placed all size line form old new result is put =
    subst (λ (o : Option Form). IsLinePut all size (record { label = line.label; form = o; place = line.place }) old new result) (sym is)
    (line-put all size line.place line.label form old new result put)

pub line-refused : (all : List Line) (size : ℕ) (line : Line) (image : Image) → line.form ≡ None → IsLinePut all size line image image false
line-refused all size line image is =
    subst (λ (o : Option Form). IsLinePut all size (record { label = line.label; form = o; place = line.place }) image image false) (sym is)
    (line-bad all size line.place line.label image)

-- the results
finished : (text file : List ℕ) (n : ℕ) (image : Image) → size_in (source (lines_of text)) ≡ Some n → IsFilled (source (lines_of text)) (Ok image)
    → ((most : ℕ) (filled : List (ℕ × ℕ)) → IsImageOf most filled image → file ≡ text_of (map (octal_digits 8) (n ∷ words_up_to filled (end_of filled))))
    → (assembled text ≡ Ok file) × IsLoadedAs text file
finished text file n image sized filled printed =
    let all = source (lines_of text) in
    let size_is : size_or_none all ≡ n = ap (λ (o : Option ℕ). unwrap_or o 0) sized in
    let file_is : file ≡ file_of all =
    printed (size_or_none all) (all_cells all all) filled.1 ∙ ap (λ (o : Option ℕ). text_of (map (octal_digits 8) (unwrap_or o 0 ∷ program_words all))) (sym sized) in (
      answer-file text file n sized filled.0 file_is,
      round_trip text file n (source-fits (lines_of text) all refl) filled.1.small (subst (λ (k : ℕ). end_of (all_cells all all) ≤ k) size_is filled.1.within) sized
          (subst (λ (k : ℕ). bad_behind all k [] all ≡ None) size_is filled.0) file_is,
    )

pub finish : (text file : List ℕ) (all : List Line) (n : ℕ) (image : Image) → all ≡ source (lines_of text) → size_in all ≡ Some n → IsFilled all (Ok image)
    → ((most : ℕ) (filled : List (ℕ × ℕ)) → IsImageOf most filled image → file ≡ text_of (map (octal_digits 8) (n ∷ words_up_to filled (end_of filled))))
    → (assembled text ≡ Ok file) × IsLoadedAs text file
finish text file all n image is sized filled printed =
    finished text file n image (ap size_in (sym is) ∙ sized) (subst (λ (ls : List Line). IsFilled ls (Ok image)) is filled) printed

pub finish-bad : (text : List ℕ) (all : List Line) (k : ℕ) → all ≡ source (lines_of text) → IsFilled all (Err (BadPlan k)) → assembled text ≡ Err k
finish-bad text all k is bad = answer-bad text k (subst (λ (ls : List Line). IsFilled ls (Err (BadPlan k))) is bad)

pub finish-none : (text : List ℕ) (all : List Line) (image : Image) → all ≡ source (lines_of text) → size_in all ≡ None → IsFilled all (Ok image) → assembled text ≡ Err 1
finish-none text all image is none filled =
    answer-none text (ap size_in (sym is) ∙ none) (subst (λ (ls : List Line). IsFilled ls (Ok image)) is filled).0

pub answer-of : (text : List ℕ) (all : List Line) (fault : PlanFault) → all ≡ source (lines_of text) → IsFilled all (Err fault) → Assembles text (Err fault)
answer-of text all (BadPlan k) is bad = finish-bad text all k is bad
answer-of text all NoMemory is bad = tt

-- the loop over the lines
pub filled-ok : (all : List Line) (size k : ℕ) (image : Image) → size ≡ size_or_none all → FilledSoFar all size k image → length all ≤ k → IsFilled all (Ok image)
filled-ok all size k image same so_far past =
    subst (λ (n : ℕ). (bad_behind all n [] all ≡ None) × IsImageOf n (all_cells all all) image) same (filled_all all size k image so_far past)

pub filled-err : (all : List Line) (size k : ℕ) (old new : Image) (line : Line) → size ≡ size_or_none all → FilledSoFar all size k old → slice_get all k ≡ Some line
    → IsLinePut all size line old new false → IsFilled all (Err (BadPlan (k + 1)))
filled-err all size k old new line same so_far here put =
    subst (λ (n : ℕ). bad_behind all n [] all ≡ Some (k + 1)) same (filled_bad all size k old new line so_far here put)

-- the item at a place below the length
pub line-here : (all : List Line) (k : ℕ) (line : Line) → k < length all → line ≡ get_or all k line → slice_get all k ≡ Some line
line-here all k line below is = slice_get_read all (length all) k line refl below is
