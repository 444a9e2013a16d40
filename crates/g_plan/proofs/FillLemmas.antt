-- The second pass: placing one line after another.
-- serves: fill, FinishLemmas, RoundLemmas
use Rattle.std.proofs.Common.{◌≡◌, ◌≢◌, ◌≤◌, ◌<◌, ◌+◌, ◌∙◌, ℕ, suc, zero, List, [], ◌∷◌, ◌++◌, Bool, true, false, not, Option, Some, None, Result, Ok, Err, ap, append_assoc, arith, drop, length, refl, subst, sym, take}
use Rattle.std.specs.Prelude.{◌&&◌, if◌then◌else◌, unwrap_or}
use Rattle.std.specs.List.{enumerate_from, flat_map, slice_get}
use Rattle.std.specs.Option.{option_and_then, option_map}
use Rattle.std.proofs.lemmas.Bool.{and_right, false≢true}
use Rattle.std.proofs.lemmas.Grind.{flat_map-append}
use Rattle.std.proofs.lemmas.List.{append-nil, drop_all, take_all}
use Rattle.std.proofs.lemmas.Option.{same_Some}
use Rattle.g_lines.specs.Lines.{lines_of}
use Rattle.g_plan.specs.Assembly.{all_cells, are_free, assembled, bad_behind, bad_or_first, cells, file_of, file_or_bad, first_bad, given, is_below, is_good, size_in, source}
use Rattle.g_plan.specs.SecondPass.{IsImageOf}
use Rattle.g_plan.specs.Passes.{IsFilled, IsFormPut, IsLinePut}
use Rattle.g_plan.specs.declared.form.Form.{Form}
use Rattle.g_plan.specs.declared.image.Image.{Image}
use Rattle.g_plan.specs.declared.source.Line.{Line}

-- the cells of lines with one more at the end
pub cells-one : (all earlier : List Line) (line : Line) → all_cells all (earlier ++ line ∷ []) ≡ all_cells all earlier ++ unwrap_or (cells all line) []
cells-one all earlier line =
    flat_map-append (λ (l : Line). unwrap_or (cells all l) []) earlier (line ∷ [])
    ∙ ap (λ (behind : List (ℕ × ℕ)). all_cells all earlier ++ behind) (append-nil (unwrap_or (cells all line) []))

-- a line is placed if its form is
pub line-put : (all : List Line) (size place : ℕ) (label : Option (List ℕ)) (form : Form) (old new : Image) (result : Bool) → IsFormPut all size form place old new result
    → IsLinePut all size (record { label = label; form = Some form; place = place }) old new result
line-put all size place label form old new result put earlier is =
    let line : Line = record { label = label; form = Some form; place = place } in
    let answer = put (all_cells all earlier) is in
    (answer.0, (λ yes_is. subst (λ (cs : List (ℕ × ℕ)). IsImageOf size cs new) (sym (cells-one all earlier line)) (answer.1 yes_is)))

-- a line without a form is bad
pub line-bad : (all : List Line) (size place : ℕ) (label : Option (List ℕ)) (image : Image) → IsLinePut all size (record { label = label; form = None; place = place }) image image false
line-bad all size place label image earlier is = (refl, (λ yes_is. absurd (false≢true yes_is)))

-- THE LOOP over the lines: the lines so far are placed
pub record FilledSoFar (all : List Line) (size k : ℕ) (image : Image) : Type 0 where
  pub image_is : IsImageOf size (all_cells all (take k all)) image
  pub bad_is : bad_behind all size [] all ≡ bad_behind all size (take k all) (drop k all)

pub filled_none : (all : List Line) (size : ℕ) (image : Image) → IsImageOf size [] image → FilledSoFar all size 0 image
filled_none all size image is = record { image_is = is; bad_is = refl }

take_next : {X : Type 0} (xs : List X) (k : ℕ) (x : X) → slice_get xs k ≡ Some x → take (suc k) xs ≡ take k xs ++ x ∷ []
take_next [] k x is = absurd cc
take_next (y ∷ xs) zero x is = ap (λ z. z ∷ []) (same_Some y x is)
take_next (y ∷ xs) (suc k) x is = ap (λ zs. y ∷ zs) (take_next xs k x is)

pub drop_next : {X : Type 0} (xs : List X) (k : ℕ) (x : X) → slice_get xs k ≡ Some x → drop k xs ≡ x ∷ drop (suc k) xs
drop_next [] k x is = absurd cc
drop_next (y ∷ xs) zero x is = ap (λ z. z ∷ xs) (same_Some y x is)
drop_next (y ∷ xs) (suc k) x is = drop_next xs k x is

length_front : {X : Type 0} (xs : List X) (k : ℕ) (x : X) → slice_get xs k ≡ Some x → length (take k xs) ≡ k
length_front [] k x is = absurd cc
length_front (y ∷ xs) zero x is = refl
length_front (y ∷ xs) (suc k) x is = ap suc (length_front xs k x is)

module _ (all : List Line) (size k : ℕ) (old new : Image) (line : Line) (so_far : FilledSoFar all size k old) (here : slice_get all k ≡ Some line) where
  step_of : (b : Bool) → b ≡ is_good all size (take k all) line
      → bad_behind all size [] all ≡ (if b then bad_behind all size (take k all ++ line ∷ []) (drop (suc k) all) else Some (length (take k all) + 1))
  step_of b is =
      so_far.bad_is ∙ (ap (bad_behind all size (take k all)) (drop_next all k line here)
      ∙ ap (λ (t : Bool). if t then bad_behind all size (take k all ++ line ∷ []) (drop (suc k) all) else Some (length (take k all) + 1)) (sym is))

  filled_suc : IsLinePut all size line old new true → FilledSoFar all size (suc k) new
  filled_suc put =
      let answer = put (take k all) so_far.image_is in
      record {
        image_is = subst (λ (ls : List Line). IsImageOf size (all_cells all ls) new) (sym (take_next all k line here)) (answer.1 refl);
        bad_is = step_of true answer.0 ∙ ap (λ (ls : List Line). bad_behind all size ls (drop (suc k) all)) (sym (take_next all k line here));
      }

  pub filled_next : IsLinePut all size line old new true → FilledSoFar all size (k + 1) new
  filled_next put = let next : suc k ≡ k + 1 = omega arith in subst (λ (n : ℕ). FilledSoFar all size n new) next (filled_suc put)

  pub filled_bad : IsLinePut all size line old new false → bad_behind all size [] all ≡ Some (k + 1)
  filled_bad put =
      let answer = put (take k all) so_far.image_is in
      step_of false answer.0 ∙ ap (λ (n : ℕ). Some (n + 1)) (length_front all k line here)

pub filled_all : (all : List Line) (size k : ℕ) (image : Image) → FilledSoFar all size k image → length all ≤ k
    → (bad_behind all size [] all ≡ None) × IsImageOf size (all_cells all all) image
filled_all all size k image so_far past =
    let whole = take_all k all past in
    let nothing = drop_all k all past in
    (so_far.bad_is ∙ (ap (bad_behind all size (take k all)) nothing), subst (λ (ls : List Line). IsImageOf size (all_cells all ls) image) whole so_far.image_is)

-- THE RESULTS
bad_some : (size : Option ℕ) (k : ℕ) → bad_or_first size (Some k) ≡ Some k
bad_some None k = refl
bad_some (Some n) k = refl

pub answer-bad : (text : List ℕ) (k : ℕ) → bad_behind (source (lines_of text)) (unwrap_or (size_in (source (lines_of text))) 0) [] (source (lines_of text)) ≡ Some k → assembled text ≡ Err k
unfolding assembled
answer-bad text k bad =
    let all = source (lines_of text) in
    ap (file_or_bad all) (ap (bad_or_first (size_in all)) bad ∙ bad_some (size_in all) k)

pub answer-none : (text : List ℕ) → size_in (source (lines_of text)) ≡ None
    → bad_behind (source (lines_of text)) (unwrap_or (size_in (source (lines_of text))) 0) [] (source (lines_of text)) ≡ None → assembled text ≡ Err 1
unfolding assembled
answer-none text none bad =
    let all = source (lines_of text) in
    ap (file_or_bad all) (ap (bad_or_first (size_in all)) bad ∙ ap (λ (size : Option ℕ). bad_or_first size None) none)

pub answer-file : (text file : List ℕ) (n : ℕ) → size_in (source (lines_of text)) ≡ Some n
    → bad_behind (source (lines_of text)) (unwrap_or (size_in (source (lines_of text))) 0) [] (source (lines_of text)) ≡ None → file ≡ file_of (source (lines_of text)) → assembled text ≡ Ok file
unfolding assembled
answer-file text file n sized bad is =
    let all = source (lines_of text) in
    ap (file_or_bad all) (ap (bad_or_first (size_in all)) bad ∙ ap (λ (size : Option ℕ). bad_or_first size None) sized) ∙ ap Ok (sym is)
