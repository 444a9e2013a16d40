-- The first wrong parameter is found, and there is at most one.
-- serves: assign, budget, enter, file_and_local, file_user_modes, first_wrong, new_user, only_file, release, set_param, trap_check, two_files, and 2 more
use Rattle.std.proofs.Common.{Bool, List, None, Option, Some, [], ap, arith, drop, false, get_or, length, pred, refl, subst, suc, sym, true, zero, ℕ, ◌+◌, ◌-◌, ◌<◌, ◌≤◌, ◌∙◌, ◌∷◌, ◌≡◌, ⊎_elim}
use Rattle.std.specs.Prelude.{if◌then◌else◌, ◌==◌}
use Rattle.std.specs.List.{slice_get}
use Rattle.std.specs.Option.{option_map}
use Rattle.std.proofs.lemmas.Bool.{cases_lt, cond_both, eqb-false, eqb-true, false≢true}
use Rattle.std.proofs.lemmas.Option.{get_or_from_slice_get, slice_get-get_or, slice_get_past, slice_get_within}
use Rattle.g_verbs.proofs.ParamLemmas.{is_of-complete, is_of-sound}
use Rattle.g_verbs.specs.Forms.{AreGood, Fits, Forms, IsFirstWrong, IsGoodPlace, IsOf, form_at, or_any}
use Rattle.g_verbs.specs.VerbReader.{first_wrong, fits, is_of, param, wrong_in}
use Rattle.g_verbs.specs.Tables.{IsThere}
use Rattle.g_verbs.specs.declared.form.Form.{Form}

abbrev pub as_forms : List Form → ℕ → Bool → Forms
as_forms all least any_more = record { all = all; least = least; any_more = any_more }

pub fits-sound : (o : Option Form) (text : List ℕ) → fits o text ≡ true → Fits o text
fits-sound None text is = absurd (false≢true is)
fits-sound (Some form) text is = is_of-sound form text is

pub fits-complete : (o : Option Form) (text : List ℕ) → Fits o text → fits o text ≡ true
fits-complete None text is = absurd is
fits-complete (Some form) text is = is_of-complete form text is

-- the next place
less_one : (least place : ℕ) → pred least ≤ place → least ≤ suc place
less_one zero place h = omega arith
less_one (suc least) place h = omega (arith, h)

one_less : (least place : ℕ) → least ≤ suc place → pred least ≤ place
one_less zero place h = omega arith
one_less (suc least) place h = omega (arith, h)

further : (all : List Form) (place : ℕ) → slice_get (drop 1 all) place ≡ slice_get all (suc place)
further [] place = refl
further (form ∷ forms) place = refl

module _ (all : List Form) (least : ℕ) (any_more : Bool) where
  later : (place : ℕ) (o : Option (List ℕ)) → IsGoodPlace (as_forms (drop 1 all) (pred least) any_more) place o → IsGoodPlace (as_forms all least any_more) (suc place) o
  later place None good = less_one least place good
  later place (Some text) good = subst (λ (f : Option Form). Fits (or_any any_more f) text) (further all place) good

  earlier : (place : ℕ) (o : Option (List ℕ)) → IsGoodPlace (as_forms all least any_more) (suc place) o → IsGoodPlace (as_forms (drop 1 all) (pred least) any_more) place o
  earlier place None good = one_less least place good
  earlier place (Some text) good = subst (λ (f : Option Form). Fits (or_any any_more f) text) (sym (further all place)) good

-- the result of the walk: each place is good, or the first that isn't
abbrev pub Walked : Forms → List (List ℕ) → Option ℕ → Type 0
Walked f params None = AreGood f params
Walked f params (Some index) = IsFirstWrong f params index

module _ (all : List Form) (least : ℕ) (any_more : Bool) where
  at_end : Walked (as_forms all least any_more) [] (if least == 0 then None else Some 1)
  at_end =
      cond_both (least == 0) None (Some 1) (Walked (as_forms all least any_more) [])
      (λ none place. let zero_least : least ≡ 0 = eqb-true least 0 none in omega arith)
      (λ some. let lacks : least ≡ 0 → ⊥ = eqb-false least 0 some in record {
        from_one = omega arith;
        before = λ place h. absurd (omega (arith, h));
        wrong = λ h. lacks (omega (arith, h));
      })

  all_good : (text : List ℕ) (texts : List (List ℕ)) → Fits (or_any any_more (slice_get all 0)) text → AreGood (as_forms (drop 1 all) (pred least) any_more) texts
      → (place : ℕ) → IsGoodPlace (as_forms all least any_more) place (slice_get (text ∷ texts) place)
  all_good text texts here good zero = here
  all_good text texts here good (suc place) = later all least any_more place (slice_get texts place) (good place)

  before_wrong : (text : List ℕ) (texts : List (List ℕ)) (index : ℕ) → Fits (or_any any_more (slice_get all 0)) text → IsFirstWrong (as_forms (drop 1 all) (pred least) any_more) texts index
      → (place : ℕ) → place + 1 < suc index → IsGoodPlace (as_forms all least any_more) place (slice_get (text ∷ texts) place)
  before_wrong text texts index here wrong zero h = here
  before_wrong text texts index here wrong (suc place) h =
      let inside : place + 1 < index = omega (arith, h) in
      later all least any_more place (slice_get texts place) (wrong.before place inside)

  on_good : (text : List ℕ) (texts : List (List ℕ)) → Fits (or_any any_more (slice_get all 0)) text → (o : Option ℕ)
      → Walked (as_forms (drop 1 all) (pred least) any_more) texts o → Walked (as_forms all least any_more) (text ∷ texts) (option_map suc o)
  on_good text texts here None good = all_good text texts here good
  on_good text texts here (Some index) wrong = record {
    from_one = omega arith;
    before = before_wrong text texts index here wrong;
    wrong = λ good.
        let from_one : 1 ≤ index = wrong.from_one in
        let place : suc index - 1 ≡ suc (index - 1) = omega (arith, from_one) in
        wrong.wrong (earlier all least any_more (index - 1) (slice_get texts (index - 1))
        (subst (λ (k : ℕ). IsGoodPlace (as_forms all least any_more) k (slice_get (text ∷ texts) k)) place good));
  }

  on_wrong : (text : List ℕ) (texts : List (List ℕ)) → fits (or_any any_more (slice_get all 0)) text ≡ false → IsFirstWrong (as_forms all least any_more) (text ∷ texts) 1
  on_wrong text texts other = record {
    from_one = omega arith;
    before = λ place h. absurd (omega (arith, h));
    wrong = λ good. false≢true (sym other ∙ fits-complete (or_any any_more (slice_get all 0)) text good);
  }

walked_in : (params : List (List ℕ)) (all : List Form) (least : ℕ) (any_more : Bool) → Walked (as_forms all least any_more) params (wrong_in params all least any_more)
walked_in [] all least any_more = at_end all least any_more
walked_in (text ∷ texts) all least any_more =
    cond_both (fits (or_any any_more (slice_get all 0)) text) (option_map suc (wrong_in texts (drop 1 all) (pred least) any_more)) (Some 1) (Walked (as_forms all least any_more) (text ∷ texts))
    (λ good. on_good all least any_more text texts (fits-sound (or_any any_more (slice_get all 0)) text good) (wrong_in texts (drop 1 all) (pred least) any_more) (walked_in texts (drop 1 all) (pred least) any_more))
    (λ other. on_wrong all least any_more text texts other)

pub walked : (f : Forms) (params : List (List ℕ)) → Walked f params (first_wrong f params)
walked f params = walked_in params f.all f.least f.any_more

-- if all are good, none is wrong; there is only one first wrong parameter
pub good-or-wrong : (f : Forms) (params : List (List ℕ)) (index : ℕ) → AreGood f params → IsFirstWrong f params index → ⊥
good-or-wrong f params index good wrong = wrong.wrong (good (index - 1))

not_before : (f : Forms) (params : List (List ℕ)) (i j : ℕ) → IsFirstWrong f params i → IsFirstWrong f params j → i < j → ⊥
not_before f params i j first second h =
    let from_one : 1 ≤ i = first.from_one in
    let inside : i - 1 + 1 < j = omega (arith, from_one, h) in
    first.wrong (second.before (i - 1) inside)

pub one_wrong : (f : Forms) (params : List (List ℕ)) (i j : ℕ) → IsFirstWrong f params i → IsFirstWrong f params j → i ≡ j
one_wrong f params i j first second =
    let not_less : i < j → ⊥ = not_before f params i j first second in
    let not_more : j < i → ⊥ = not_before f params j i second first in
    omega (arith, not_less, not_more)

none_by : (f : Forms) (params : List (List ℕ)) (o : Option ℕ) → Walked f params o → AreGood f params → o ≡ None
none_by f params None walk good = refl
none_by f params (Some index) walk good = absurd (good-or-wrong f params index good walk)

pub wrong-none : (f : Forms) (params : List (List ℕ)) → AreGood f params → first_wrong f params ≡ None
wrong-none f params good = none_by f params (first_wrong f params) (walked f params) good

some_by : (f : Forms) (params : List (List ℕ)) (index : ℕ) (o : Option ℕ) → Walked f params o → IsFirstWrong f params index → o ≡ Some index
some_by f params index None walk wrong = absurd (good-or-wrong f params index walk wrong)
some_by f params index (Some other) walk wrong = ap (λ (k : ℕ). let o : Option ℕ = Some k in o) (one_wrong f params other index walk wrong)

pub wrong-some : (f : Forms) (params : List (List ℕ)) (index : ℕ) → IsFirstWrong f params index → first_wrong f params ≡ Some index
wrong-some f params index wrong = some_by f params index (first_wrong f params) (walked f params) wrong

-- a parameter that is required, or present
there_by : (f : Forms) (params : List (List ℕ)) (place : ℕ) (form : Form) (text : List ℕ) → form_at f place ≡ Some form → slice_get params place ≡ Some text → Fits (form_at f place) text → IsThere form params place
there_by f params place form text asked at good =
    let is : IsOf form text = subst (λ (o : Option Form). Fits o text) asked good in
    let same : param params place ≡ text = get_or_from_slice_get params place text [] at in
    record { within = slice_get_within params place text at; fits = ap (is_of form) same ∙ is_of-complete form text is }

wanted_by : (f : Forms) (params : List (List ℕ)) (place : ℕ) (form : Form) (o : Option (List ℕ)) → form_at f place ≡ Some form → place < f.least → slice_get params place ≡ o
    → IsGoodPlace f place o → IsThere form params place
wanted_by f params place form None asked wanted at good = absurd (omega (arith, wanted, good))
wanted_by f params place form (Some text) asked wanted at good = there_by f params place form text asked at good

pub wanted : (f : Forms) (params : List (List ℕ)) (place : ℕ) (form : Form) → form_at f place ≡ Some form → place < f.least → AreGood f params → IsThere form params place
wanted f params place form asked least good = wanted_by f params place form (slice_get params place) asked least refl (good place)

pub given : (f : Forms) (params : List (List ℕ)) (place : ℕ) (form : Form) → form_at f place ≡ Some form → AreGood f params → place < length params → IsThere form params place
given f params place form asked good inside =
    let at = slice_get-get_or params place [] inside in
    there_by f params place form (get_or params place []) asked at (subst (IsGoodPlace f place) at (good place))

-- parameters in order
module _ (f : Forms) (params : List (List ℕ)) where
  abbrev pub GoodBelow : ℕ → Type 0
  GoodBelow n = (place : ℕ) → place < n → IsGoodPlace f place (slice_get params place)

  pub good-here : (place : ℕ) (text : List ℕ) → slice_get params place ≡ Some text → fits (form_at f place) text ≡ true → IsGoodPlace f place (slice_get params place)
  good-here place text at is = subst (IsGoodPlace f place) (sym at) (fits-sound (form_at f place) text is)

  pub wrong-here : (place : ℕ) (text : List ℕ) → GoodBelow place → slice_get params place ≡ Some text → fits (form_at f place) text ≡ false → IsFirstWrong f params (place + 1)
  wrong-here place text good at other = record {
    from_one = omega arith;
    before = λ k h. good k (omega (arith, h));
    wrong = λ is.
        let same : place + 1 - 1 ≡ place = omega arith in
        let here : IsGoodPlace f place (slice_get params place) = subst (λ (k : ℕ). IsGoodPlace f k (slice_get params k)) same is in
        false≢true (sym other ∙ fits-complete (form_at f place) text (subst (IsGoodPlace f place) at here));
  }

  lacks_by : (o : Option (List ℕ)) → slice_get params (length params) ≡ o → length params < f.least → IsGoodPlace f (length params) o → ⊥
  lacks_by None at short good = omega (arith, short, good)
  lacks_by (Some text) at short good = let inside = slice_get_within params (length params) text at in omega (arith, inside)

  wrong-end : GoodBelow (length params) → length params < f.least → IsFirstWrong f params (length params + 1)
  wrong-end good short = record {
    from_one = omega arith;
    before = λ k h. good k (omega (arith, h));
    wrong = λ is.
        let same : length params + 1 - 1 ≡ length params = omega arith in
        let here : IsGoodPlace f (length params) (slice_get params (length params)) = subst (λ (k : ℕ). IsGoodPlace f k (slice_get params k)) same is in
        lacks_by (slice_get params (length params)) refl short here;
  }

  good_past : (place : ℕ) → f.least ≤ length params → length params ≤ place → IsGoodPlace f place (slice_get params place)
  good_past place long past = subst (IsGoodPlace f place) (sym (slice_get_past params place past)) (omega (arith, long, past))

  good-end : GoodBelow (length params) → f.least ≤ length params → AreGood f params
  good-end good long place = ⊎_elim (λ inside. good place inside) (λ past. good_past place long past) (cases_lt place (length params))

  pub wrong-count : (count : ℕ) → count ≡ length params → GoodBelow count → count < f.least → IsFirstWrong f params (count + 1)
  wrong-count count same = subst (λ (n : ℕ). GoodBelow n → n < f.least → IsFirstWrong f params (n + 1)) (sym same) wrong-end

  pub good-count : (count : ℕ) → count ≡ length params → GoodBelow count → f.least ≤ count → AreGood f params
  good-count count same = subst (λ (n : ℕ). GoodBelow n → f.least ≤ n → AreGood f params) (sym same) good-end
